-- The row at the key that is removed is told of, where there is one.
use Rattle.std.proofs.Common.{rules, ◌≡◌, ℕ, Option, Some, None, ◌∙◌, ap}
use Rattle.acct_rows.specs.Rows.{Lists}
use Rattle.acct_tables.specs.declared.row.AccountRow.{AccountRow}
use Rattle.acct_rules.specs.Planned.{removed_account}
use Rattle.acct_machine.specs.Outbox.{told_by, told_of_removed}
use Rattle.acct_machine.proofs.outbox.removal_of.Goals as goal

pub returns-in-Some : goal.returns-in-Some
returns-in-Some c =
    let r : Lists = c.args.rows.now.lists in
    let gone : Some (c.in-Some.domain, c.in-Some.rid) ≡ removed_account c.args.removes.now = search rules in
    c.removed_over.ensures r.next_out
    ∙ ap (λ (old : Option AccountRow). told_of_removed r.next_out old) c.find_rid.ensures
    ∙ ap (λ (key : Option (ℕ × ℕ)). told_by r None key) gone
