-- `no_primaries` meets its contract: no accounts have no entries.
use Rattle.std.proofs.Common.{ap, ◌∙◌}
use Rattle.acct_tables.proofs.PrimaryGroups.{no_primaries}
use Rattle.acct_tables.proofs.primaries.no_primaries.Goals as goal

pub returns : goal.returns
returns c = c.new.ensures ∙ ap (λ es. (es, 0)) no_primaries
