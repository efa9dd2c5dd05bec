-- A pair written over the one found, or inserted where none is, gives the pairs with it put; there is room for it.
use Rattle.std.proofs.Common.{sym, ap, ◌∙◌, ◌≡◌, true, Ok, Err, rules, insert, is_ok, if◌then◌else◌}
use Rattle.acct_keeper.proofs.Placing.{put-placed}
use Rattle.acct_keeper.proofs.places.put.Goals as goal

pub returns-in-Ok-clause-pairs : goal.returns-in-Ok-clause-pairs
returns-in-Ok-clause-pairs c =
    put-placed c.args.pair c.args.pairs.now.items (Ok c.in-Ok.i) (sym c.in-Ok.is ∙ c.place.ensures.found ∙ (cc))

pub returns-else-is_err-clause-pairs : goal.returns-else-is_err-clause-pairs
returns-else-is_err-clause-pairs c =
    let placed = put-placed c.args.pair c.args.pairs.now.items (Err c.in-Err.i)
    (sym c.in-Err.is ∙ c.place.ensures.found ∙ (cc)) in
    let ok : is_ok c.insert.result ≡ true = search rules in
    c.insert.ensures.items
    ∙ ap (λ b. if b then insert c.args.pairs.now.items c.in-Err.i c.args.pair else c.args.pairs.now.items) ok ∙ placed
