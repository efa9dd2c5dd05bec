-- After the doors that were there stand as many more as the listener has workers, all of its number; there is room for
-- them.
use Rattle.std.proofs.Common.{ℕ, List, ◌++◌, map, replicate, ◌∙◌, ap, arith}
use Rattle.std.proofs.lemmas.List.{map-append}
use Rattle.door_workers.proofs.Placing.{map-same}
use Rattle.door_workers.proofs.opening.ask.Goals as goal

pub returns-clause-listeners : goal.returns-clause-listeners
returns-clause-listeners g c =
    let f = g.E.D.Door.listener in
    let given = c.in_ok-given in
    ap (λ (ds : List _). map f ds) (c.in_ok-append.ensures.items
    ∙ ap (λ (ds : List _). ds ++ given.given.items) c.in_ok-reserve.ensures.items)
    ∙ map-append f c.args.doors.now.items given.given.items
    ∙ ap (λ (ns : List ℕ). map f c.args.doors.now.items ++ ns)
    (map-same f c.args.number given.given.items given.ensures.listener
    ∙ ap (λ (n : ℕ). replicate n c.args.number) given.ensures.count)

pub returns-in_err-append : goal.returns-in_err-append
returns-in_err-append g c =
    absurd
    (omega (
      arith,
      c.in_err-append.ensures.full,
      c.in_ok-reserve.ensures.ok,
      c.in_ok-given.ensures.count,
      c.in_ok-given.given.ok.0,
    ))
