-- The entries of the matches so far.
use Rattle.std.proofs.Common.{◌≡◌, take, map}
use Rattle.lsat_translate.specs.Translations.{sid_ref}
use Rattle.lsat_translate.proofs.entries.sid_refs.Given as goal

abbrev pub invariant-loop-one : goal.invariant-loop-one
invariant-loop-one l = l.entries ≡ map (sid_ref l.rows.lists l.domains.keys) (take l.one-index l.found)
