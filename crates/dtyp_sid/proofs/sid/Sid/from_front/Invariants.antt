-- The first so many slots have the sub-authorities at the beginning of the bytes, and those after them are zero.
use Rattle.std.proofs.Common.{◌≡◌, take}
use Rattle.dtyp_sid.specs.steps.Slots.{AreSlots}
use Rattle.dtyp_sid.specs.Sids.{subs_at_front}
use Rattle.dtyp_sid.proofs.sid.Sid.from_front.Given as goal

abbrev pub invariant-loop-place : goal.invariant-loop-place
invariant-loop-place l = AreSlots l.place l.slots × (take l.place l.slots ≡ subs_at_front l.place l.bytes)
