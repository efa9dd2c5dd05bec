-- The SIDs so far have their matches.
use Rattle.std.proofs.Common.{◌≡◌, take, map}
use Rattle.lsat_translate.specs.Lookups.{match_of_sid}
use Rattle.lsat_translate.proofs.translations.matches_of_sids.Given as goal

abbrev pub invariant-loop-sid : goal.invariant-loop-sid
invariant-loop-sid l = l.found ≡ map (match_of_sid l.rows.lists) (take l.sid-index l.sids)
