-- No domain before has the name.
use Rattle.std.proofs.Common.{◌≡◌, drop}
use Rattle.std.specs.List.{find}
use Rattle.lsat_translate.specs.Lookups.{is_domain_named}
use Rattle.lsat_translate.proofs.names.find_domain.Given as goal

abbrev pub invariant-loop-domain : goal.invariant-loop-domain
invariant-loop-domain l =
    find (is_domain_named l.rows.lists l.name) (drop l.domain-index l.among)
    ≡ find (is_domain_named l.rows.lists l.name) l.among
