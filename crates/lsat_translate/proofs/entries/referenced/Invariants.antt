-- The domains of the matches so far.
use Rattle.std.proofs.Common.{◌≡◌, take}
use Rattle.lsat_translate.specs.Translations.{referenced}
use Rattle.lsat_translate.proofs.entries.referenced.Given as goal

abbrev pub invariant-loop-one : goal.invariant-loop-one
invariant-loop-one l = l.domains.keys ≡ referenced (take l.one-index l.found)
