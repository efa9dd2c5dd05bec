-- The names so far have their matches.
use Rattle.std.proofs.Common.{◌≡◌, take, map}
use Rattle.lsat_translate.specs.Lookups.{match_of_name}
use Rattle.lsat_translate.proofs.translations.matches_of_names.Given as goal

abbrev pub invariant-loop-name : goal.invariant-loop-name
invariant-loop-name l = l.found ≡ map (match_of_name l.rows.lists) (take l.name-index l.names)
