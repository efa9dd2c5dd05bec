-- The entries of the SIDs so far.
use Rattle.std.proofs.Common.{◌≡◌, take, map}
use Rattle.lsat_translate.specs.Translations.{named_entry}
use Rattle.lsat_translate.proofs.entries.translated_names.Given as goal

abbrev pub invariant-loop-place : goal.invariant-loop-place
invariant-loop-place l = l.entries ≡ map (named_entry l.rows.lists l.domains.keys) (take l.place l.sids)
