-- `by_name` meets its contract: the sorted accounts are the accounts by name.
use Rattle.std.proofs.Common.{Bor, rules}
use Rattle.std.specs.Cmp.Lexicographic.{nat_list_cmp_total}
use Rattle.std.proofs.lemmas.List.Sorted.{ranks_by, answers_always}
use Rattle.acct_tables.specs.steps.Indexes.{name_key}
use Rattle.acct_tables.specs.declared.row.AccountRow.{AccountRow}
use Rattle.acct_tables.proofs.Named.{names_sorted}
use Rattle.acct_tables.proofs.names.by_name.Goals as goal

pub returns : goal.returns
returns c =
    let sorted = c.sort_unstable_by.ensures in
    names_sorted (λ (row : Bor AccountRow). row.now) c.args.accounts.now _ _ c.requires c.in_ok-rows.ensures
    sorted.permutation
    (sorted.sorted _ (ranks_by nat_list_cmp_total (λ (row : Bor AccountRow). name_key row.now))
    (answers_always _ _ _ (λ f a r f' k. search rules)))
