-- Where there is no alias row, the index by SID is empty as well.
use Rattle.std.proofs.Common.{sym, ap, ◌∙◌, rules}
use Rattle.acct_tables.specs.steps.Indexes.{memberships_of}
use Rattle.acct_tables.proofs.Holding.{no_memberships}
use Rattle.acct_tables.proofs.aliases.Aliases.new.Goals as goal

pub invariant_of-result : goal.invariant_of-result
invariant_of-result c = (
  ap (λ table. table.0) c.new-2.ensures ∙ no_memberships ∙ ap (λ table. memberships_of table.0) (sym c.new.ensures),
  search rules,
  search rules,
)
