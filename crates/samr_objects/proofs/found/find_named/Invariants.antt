-- No domain before has the name.
use Rattle.std.proofs.Common.{◌≡◌, drop}
use Rattle.std.specs.List.{find}
use Rattle.samr_objects.specs.Domains.{is_named}
use Rattle.samr_objects.proofs.found.find_named.Given as goal

abbrev pub invariant-loop-domain : goal.invariant-loop-domain
invariant-loop-domain l = find (is_named l.name) (drop l.domain-index l.domains) ≡ find (is_named l.name) l.domains
