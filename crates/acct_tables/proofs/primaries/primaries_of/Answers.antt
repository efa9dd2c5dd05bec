-- `primaries_of` meets its contract: the sorted entries are the accounts by primary group.
use Rattle.std.proofs.Common.{◌≡◌, true, sym, ap, subst, ◌∙◌, List, length, arith}
use Rattle.std.proofs.lemmas.List.{length-map}
use Rattle.acct_tables.specs.KeyedRows.{is_ascending}
use Rattle.acct_tables.specs.steps.Primaries.{primary_key, by_primary}
use Rattle.acct_tables.specs.declared.primaries.ByPrimary.{ByPrimary}
use Rattle.acct_tables.proofs.PrimaryGroups.{primaries_sorted, primaries_ascend}
use Rattle.acct_tables.proofs.primaries.primaries_of.Goals as goal

pub from_rows-requires-clause-ascending : goal.from_rows-requires-clause-ascending
from_rows-requires-clause-ascending c =
    let is = primaries_sorted c.args.accounts.now _ _ c.requires.ascending c.in_ok-entries.ensures c.sort.ensures.same
    c.sort.ensures.sorted in
    subst (λ (entries : List ByPrimary). is_ascending primary_key entries ≡ true) (sym is)
    (primaries_ascend c.args.accounts.now)

pub from_rows-requires-clause-few : goal.from_rows-requires-clause-few
from_rows-requires-clause-few c =
    let all : length c.in_ok-entries.entries.items ≡ length c.args.accounts.now =
    ap length c.in_ok-entries.ensures ∙ length-map c.args.accounts.now by_primary in
    omega arith

pub returns : goal.returns
returns c =
    ap (λ table. table.0) c.from_rows.ensures
    ∙ primaries_sorted c.args.accounts.now _ _ c.requires.ascending c.in_ok-entries.ensures c.sort.ensures.same
    c.sort.ensures.sorted
