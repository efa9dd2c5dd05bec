-- An account row that is put tells before one that is removed.
use Rattle.std.proofs.Common.{rules, ◌≡◌, ℕ, List, Option, Some, None, ◌∙◌, ap}
use Rattle.acct_rows.specs.Rows.{Lists}
use Rattle.acct_tables.specs.declared.row.AccountRow.{AccountRow}
use Rattle.acct_tables.specs.declared.row.RowKey.{RowKey}
use Rattle.acct_rules.specs.Planned.{put_account, removed_account}
use Rattle.acct_machine.specs.Outbox.{told_by, told_of_put}
use Rattle.acct_machine.proofs.outbox.change_of.Goals as goal

pub returns-in-None : goal.returns-in-None
returns-in-None c =
    let r : Lists = c.args.rows.now.lists in
    let none : None ≡ put_account c.args.plan.now.puts = search rules in
    let gone : Option (ℕ × ℕ) = removed_account c.args.plan.now.removes in
    c.removal_of.ensures
    ∙ ap (λ (ks : List RowKey). told_by r None (removed_account ks)) c.as_slice-in-None.ensures
    ∙ ap (λ (put : Option AccountRow). told_by r put gone) none

pub returns-in-Some : goal.returns-in-Some
returns-in-Some c =
    let r : Lists = c.args.rows.now.lists in
    let a : AccountRow = c.in-Some.account.now in
    let put : Some a ≡ put_account c.args.plan.now.puts = search rules in
    let gone : Option (ℕ × ℕ) = removed_account c.args.plan.now.removes in
    c.put_over.ensures r.next_out
    ∙ ap (λ (old : Option AccountRow). told_of_put r.next_out old a) c.find_rid.ensures
    ∙ ap (λ (put : Option AccountRow). told_by r put gone) put
