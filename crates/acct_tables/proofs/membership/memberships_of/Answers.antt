-- `memberships_of` meets its contract: the sorted entries are the memberships by SID.
use Rattle.std.proofs.Common.{◌≡◌, true, sym, ap, subst, ◌∙◌, List, length, arith}
use Rattle.std.proofs.lemmas.List.{length-map}
use Rattle.acct_tables.specs.KeyedRows.{is_ascending}
use Rattle.acct_tables.specs.steps.Indexes.{membership_key, membership_of}
use Rattle.acct_tables.specs.declared.membership.Membership.{Membership}
use Rattle.acct_tables.proofs.Holding.{memberships_sorted, memberships_ascend}
use Rattle.acct_tables.proofs.membership.memberships_of.Goals as goal

pub from_rows-requires-clause-ascending : goal.from_rows-requires-clause-ascending
from_rows-requires-clause-ascending c =
    let is = memberships_sorted c.args.rows.now _ _ c.requires.ascending c.in_ok-memberships.ensures c.sort.ensures.same
    c.sort.ensures.sorted in
    subst (λ (memberships : List Membership). is_ascending membership_key memberships ≡ true) (sym is)
    (memberships_ascend c.args.rows.now)

pub from_rows-requires-clause-few : goal.from_rows-requires-clause-few
from_rows-requires-clause-few c =
    let all : length c.in_ok-memberships.memberships.items ≡ length c.args.rows.now =
    ap length c.in_ok-memberships.ensures ∙ length-map c.args.rows.now membership_of in
    omega arith

pub returns : goal.returns
returns c =
    ap (λ table. table.0) c.from_rows.ensures
    ∙ memberships_sorted c.args.rows.now _ _ c.requires.ascending c.in_ok-memberships.ensures c.sort.ensures.same
    c.sort.ensures.sorted
