-- The entries of the matches so far.
use Rattle.std.proofs.Common.{◌≡◌, take, map}
use Rattle.lsat_translate.specs.Translations.{translated_sid}
use Rattle.lsat_translate.proofs.entries.translated_sids.Given as goal

abbrev pub invariant-loop-one : goal.invariant-loop-one
invariant-loop-one l = l.entries ≡ map (translated_sid l.domains.keys) (take l.one-index l.found)
