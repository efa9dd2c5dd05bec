-- Where the keys ascend, the values within a prefix stand together between the bounds, and all others outside.
use Rattle.acct_tables.proofs.Between.{front_in_order, front_together, front_apart}
use Rattle.acct_tables.proofs.table.bounds.Goals as goal

pub returns-clause-order : goal.returns-clause-order
returns-clause-order g c =
    front_in_order g.O.Order.key_of (g.O.Fronts.front_of c.args.front.now) c.args.values.now _ _
    c.first_within-first.ensures.inside c.first_within-first.ensures.turns c.end_within-end.ensures.turns

pub returns-clause-within : goal.returns-clause-within
returns-clause-within g c =
    front_together g.O.Order.key_of (g.O.Fronts.front_of c.args.front.now) c.args.values.now _ _
    c.first_within-first.ensures.inside c.end_within-end.ensures.inside c.first_within-first.ensures.turns
    c.end_within-end.ensures.turns

pub returns-clause-others : goal.returns-clause-others
returns-clause-others g c =
    front_apart g.O.Order.key_of (g.O.Fronts.front_of c.args.front.now) c.args.values.now _ _
    c.first_within-first.ensures.inside c.end_within-end.ensures.inside c.first_within-first.ensures.turns
    c.end_within-end.ensures.turns
