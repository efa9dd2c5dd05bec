-- The uses of the matches so far.
use Rattle.std.proofs.Common.{◌≡◌, take, map}
use Rattle.lsat_translate.specs.Matches.{use_in}
use Rattle.lsat_translate.proofs.entries.uses.Given as goal

abbrev pub invariant-loop-one : goal.invariant-loop-one
invariant-loop-one l = l.uses ≡ map use_in (take l.one-index l.found)
