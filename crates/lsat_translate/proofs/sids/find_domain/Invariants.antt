-- No domain before has the SID.
use Rattle.std.proofs.Common.{◌≡◌, drop}
use Rattle.std.specs.List.{find}
use Rattle.lsat_translate.specs.Lookups.{has_domain_sid}
use Rattle.lsat_translate.proofs.sids.find_domain.Given as goal

abbrev pub invariant-loop-domain : goal.invariant-loop-domain
invariant-loop-domain l =
    find (has_domain_sid l.rows.lists l.sid) (drop l.domain-index l.among)
    ≡ find (has_domain_sid l.rows.lists l.sid) l.among
