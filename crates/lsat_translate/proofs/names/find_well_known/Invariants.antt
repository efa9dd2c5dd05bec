-- No well-known name before is the name.
use Rattle.std.proofs.Common.{◌≡◌, drop}
use Rattle.std.specs.List.{find}
use Rattle.lsat_translate.specs.Lookups.{is_well_known_named}
use Rattle.lsat_translate.proofs.names.find_well_known.Given as goal

abbrev pub invariant-loop-known : goal.invariant-loop-known
invariant-loop-known l =
    find (is_well_known_named l.name) (drop l.known-index l.among) ≡ find (is_well_known_named l.name) l.among
