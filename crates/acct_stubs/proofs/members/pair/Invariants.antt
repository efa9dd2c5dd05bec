-- The pairs so far have the identifiers and the attributes before the place.
use Rattle.std.proofs.Common.{◌≡◌, length, take}
use Rattle.acct_stubs.specs.Infos.{paired}
use Rattle.acct_stubs.proofs.members.pair.Given as goal

abbrev pub invariant-loop-rid : goal.invariant-loop-rid
invariant-loop-rid l = l.list ≡ take (length l.yielded) (paired (l.rids, l.attributes))
