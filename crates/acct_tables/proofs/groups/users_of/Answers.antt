-- `users_of` meets its contract: the sorted entries are the members by user.
use Rattle.std.proofs.Common.{◌≡◌, true, sym, ap, subst, ◌∙◌, List, length, arith}
use Rattle.std.proofs.lemmas.List.{length-map}
use Rattle.acct_tables.specs.KeyedRows.{is_ascending}
use Rattle.acct_tables.specs.steps.Users.{user_key, by_user}
use Rattle.acct_tables.specs.declared.groups.ByUser.{ByUser}
use Rattle.acct_tables.proofs.Users.{users_sorted, users_ascend}
use Rattle.acct_tables.proofs.groups.users_of.Goals as goal

pub from_rows-requires-clause-ascending : goal.from_rows-requires-clause-ascending
from_rows-requires-clause-ascending c =
    let is = users_sorted c.args.rows.now _ _ c.requires.ascending c.in_ok-users.ensures c.sort.ensures.same
    c.sort.ensures.sorted in
    subst (λ (users : List ByUser). is_ascending user_key users ≡ true) (sym is) (users_ascend c.args.rows.now)

pub from_rows-requires-clause-few : goal.from_rows-requires-clause-few
from_rows-requires-clause-few c =
    let all : length c.in_ok-users.users.items ≡ length c.args.rows.now =
    ap length c.in_ok-users.ensures ∙ length-map c.args.rows.now by_user in
    omega arith

pub returns : goal.returns
returns c =
    ap (λ table. table.0) c.from_rows.ensures
    ∙ users_sorted c.args.rows.now _ _ c.requires.ascending c.in_ok-users.ensures c.sort.ensures.same
    c.sort.ensures.sorted
