-- The value at the place of the key is the one with it, and where the key has no place no value has it.
use Rattle.std.proofs.Common.{sym, ◌∙◌}
use Rattle.acct_tables.proofs.Lookups.{at-placed, at-unplaced}
use Rattle.acct_tables.proofs.table.find_key.Goals as goal

pub returns-in-Ok : goal.returns-in-Ok
returns-in-Ok g c = at-placed g.O.Order.key_of _ c.args.values.now c.in-Ok.i c.index-values-i.result c.requires
    (sym c.in-Ok.is ∙ c.place_of.ensures.found) c.index-values-i.is

pub returns-in-Err : goal.returns-in-Err
returns-in-Err g c =
    sym (at-unplaced g.O.Order.key_of _ _ _ c.requires (sym c.in-Err.is ∙ c.place_of.ensures.found))
