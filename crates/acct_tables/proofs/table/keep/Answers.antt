-- What `retain` leaves by the answers of the test is the filter by what passes it.
use Rattle.std.proofs.Common.{rules}
use Rattle.std.proofs.lemmas.Fn.{filter_same}
use Rattle.acct_tables.proofs.table.keep.Goals as goal

pub returns-clause-values : goal.returns-clause-values
returns-clause-values g c = filter_same _ _ _ (λ x b f' k. search rules) _ _ c.retain.ensures.filtered
