-- The groups that the index by user gives are those of the user among all the member rows, in the same order.
use Rattle.std.proofs.Common.{◌≡◌, true, ap, map, ◌∙◌, rules}
use Rattle.std.specs.List.{filter}
use Rattle.acct_tables.specs.KeyedRows.{is_ascending}
use Rattle.acct_tables.specs.Keys.{member_key}
use Rattle.acct_tables.specs.steps.Users.{row_of, users_of, is_for}
use Rattle.acct_tables.proofs.Users.{groups_found}
use Rattle.acct_tables.proofs.groups.Members.groups.Goals as goal

pub returns : goal.returns
returns c =
    let members = c.args.self.now.0 in
    let u = c.args.user in
    let h : is_ascending member_key members ≡ true = search rules in
    let index : c.rows.result.now ≡ users_of members = search rules in
    ap (map row_of) (c.groups_among.ensures ∙ ap (filter (is_for u)) index) ∙ groups_found u members h
