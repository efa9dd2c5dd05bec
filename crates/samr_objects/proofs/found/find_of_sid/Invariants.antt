-- No domain before has the SID.
use Rattle.std.proofs.Common.{◌≡◌, drop}
use Rattle.std.specs.List.{find}
use Rattle.samr_objects.specs.Domains.{has_sid}
use Rattle.samr_objects.proofs.found.find_of_sid.Given as goal

abbrev pub invariant-loop-domain : goal.invariant-loop-domain
invariant-loop-domain l = find (has_sid l.sid) (drop l.domain-index l.domains) ≡ find (has_sid l.sid) l.domains
