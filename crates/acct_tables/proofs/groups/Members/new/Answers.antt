-- Where there is no member row, the index by user is empty as well.
use Rattle.std.proofs.Common.{sym, ap, ◌∙◌, rules}
use Rattle.acct_tables.specs.steps.Users.{users_of}
use Rattle.acct_tables.proofs.Users.{no_users}
use Rattle.acct_tables.proofs.groups.Members.new.Goals as goal

pub invariant_of-result : goal.invariant_of-result
invariant_of-result c = (
  ap (λ table. table.0) c.new-2.ensures ∙ no_users ∙ ap (λ table. users_of table.0) (sym c.new.ensures),
  search rules,
  search rules,
)
