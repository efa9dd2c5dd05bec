-- No well-known name of the domain before is the name.
use Rattle.std.proofs.Common.{◌≡◌, drop}
use Rattle.std.specs.List.{find}
use Rattle.lsat_translate.specs.Lookups.{is_authority_named}
use Rattle.lsat_translate.proofs.names.find_in_authority.Given as goal

abbrev pub invariant-loop-known : goal.invariant-loop-known
invariant-loop-known l =
    find (is_authority_named l.name) (drop l.known-index l.among) ≡ find (is_authority_named l.name) l.among
