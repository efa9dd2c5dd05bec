-- The pair at the place of the key is the one with it, and where the key has no place no pair has it.
use Rattle.std.proofs.Common.{sym, ◌∙◌}
use Rattle.acct_rows.specs.PairRules.{pair_key}
use Rattle.acct_tables.proofs.Lookups.{at-placed, at-unplaced}
use Rattle.acct_rows.proofs.pairs.store.find.Goals as goal

pub returns-in-Ok : goal.returns-in-Ok
returns-in-Ok c =
    at-placed pair_key _ c.args.pairs.now c.in-Ok.i c.index-pairs-i.result c.requires
    (sym c.in-Ok.is ∙ c.place.ensures.found) c.index-pairs-i.is

pub returns-in-Err : goal.returns-in-Err
returns-in-Err c =
    sym (at-unplaced pair_key c.args.key.now c.args.pairs.now _ c.requires (sym c.in-Err.is ∙ c.place.ensures.found))
