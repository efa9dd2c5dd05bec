-- The slots filled so far have the sub-authorities of as many four bytes each, and the slots after are zeros.
use Rattle.std.proofs.Common.{◌≡◌, ◌<◌, ◌∷◌, ◌++◌, [], refl, arith, ap, ◌∙◌, sym, length, add-one, take, drop, ◌*◌, ◌+◌}
use Rattle.std.specs.Int.{w32, from_le_bytes}
use Rattle.std.proofs.lemmas.List.{take_more_set}
use Rattle.dtyp_sid.specs.steps.Slots.{pushed}
use Rattle.dtyp_sid.specs.Sids.{subs_at_front}
use Rattle.dtyp_sid.proofs.SidBytes.{subs_at_front-more}
use Rattle.dtyp_sid.proofs.sid.Sid.from_front.Goals as goal

pub loop-place-init : goal.loop-place-init
unfolding subs_at_front
loop-place-init c = (record { count_fits = omega arith; all_there = refl; zeros = refl }, refl)

pub loop-place-preserved : goal.loop-place-preserved
loop-place-preserved c =
    let are = c.loop-place.invariant.0 in
    let room : c.loop-place.place < 15 = omega (arith, c.requires.few) in
    let inside : c.loop-place.place < length c.loop-place.slots = omega (arith, are.all_there) in
    let bytes = c.args.bytes.now in
    let place = c.loop-place.place in
    let sub : c.front_u32.result ≡ from_le_bytes w32 (drop (4 * place) bytes) = c.front_u32.ensures
    ∙ ap (from_le_bytes w32) c.rest_of.ensures.value in
    let more : take place c.loop-place.slots ++ c.front_u32.result ∷ [] ≡ subs_at_front (place + 1) bytes =
    ap (λ subs. subs ++ c.front_u32.result ∷ []) c.loop-place.invariant.1
    ∙ ap (λ sub. subs_at_front place bytes ++ sub ∷ []) sub
    ∙ sym (rw add-one (subs_at_front-more place bytes)) in
    (pushed _ _ _ are room, take_more_set c.loop-place.slots c.loop-place.place c.front_u32.result inside ∙ more)
