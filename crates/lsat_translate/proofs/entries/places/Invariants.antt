-- The domains so far, by their names and SIDs.
use Rattle.std.proofs.Common.{◌≡◌, take, map}
use Rattle.lsat_translate.specs.Translations.{place_of}
use Rattle.lsat_translate.proofs.entries.places.Given as goal

abbrev pub invariant-loop-domain : goal.invariant-loop-domain
invariant-loop-domain l = l.places ≡ map (place_of l.rows.lists) (take l.domain-index l.domain-items)
