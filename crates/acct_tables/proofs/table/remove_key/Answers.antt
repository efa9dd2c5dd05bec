-- Removing at the place of the key leaves all but its value; a key without a place leaves all.
use Rattle.std.proofs.Common.{sym, ◌∙◌, Ok, Err}
use Rattle.acct_tables.proofs.Places.{without-placed}
use Rattle.acct_tables.proofs.table.remove_key.Goals as goal

pub returns-in-Ok-clause-values : goal.returns-in-Ok-clause-values
returns-in-Ok-clause-values g c = c.remove.ensures.items
    ∙ without-placed g.O.Order.key_of _ c.args.values.now.items (Ok c.in-Ok.at) c.requires
    (sym c.in-Ok.is ∙ c.place_of.ensures.found ∙ (cc))

pub returns-in-Err-clause-values : goal.returns-in-Err-clause-values
returns-in-Err-clause-values g c =
    without-placed g.O.Order.key_of _ c.args.values.now.items (Err c.in-Err.field-0) c.requires
    (sym c.in-Err.is ∙ c.place_of.ensures.found ∙ (cc))
