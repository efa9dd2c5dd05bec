-- There is a user among the entries of a group just where the group is some user's primary group.
use Rattle.std.proofs.Common.{◌≡◌, ap, ◌∙◌, rules}
use Rattle.std.specs.List.{filter, list_any}
use Rattle.acct_tables.specs.steps.Primaries.{primaries_of, is_for}
use Rattle.acct_tables.specs.declared.primaries.ByPrimary.{ByPrimary}
use Rattle.acct_tables.proofs.PrimaryGroups.{primary_found}
use Rattle.acct_tables.proofs.primaries.is_primary.Goals as goal

pub returns : goal.returns
returns c =
    let group = c.args.group in
    let entries : c.rows.result.now ≡ primaries_of c.args.accounts.now = search rules in
    c.has_user.ensures
    ∙ ap (list_any (λ (e : ByPrimary). e.is_user)) (c.among.ensures ∙ ap (filter (is_for group)) entries)
    ∙ primary_found group c.args.accounts.now c.requires.rows
