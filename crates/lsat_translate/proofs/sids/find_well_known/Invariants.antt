-- No well-known name before has the SID.
use Rattle.std.proofs.Common.{◌≡◌, drop}
use Rattle.std.specs.List.{find}
use Rattle.lsat_translate.specs.Lookups.{is_well_known_sid}
use Rattle.lsat_translate.proofs.sids.find_well_known.Given as goal

abbrev pub invariant-loop-known : goal.invariant-loop-known
invariant-loop-known l =
    find (is_well_known_sid l.sid) (drop l.known-index l.among) ≡ find (is_well_known_sid l.sid) l.among
