-- The changes left make of the pairs so far what all make of the first; the keys rise, and there is room.
use Rattle.std.proofs.Common.{◌≡◌, ◌+◌, ◌≤◌, true, length, vec_len, vec_capacity}
use Rattle.std.specs.Vec.Iter.{into_iter_items}
use Rattle.acct_keeper.specs.Pairs.{is_ascending, after}
use Rattle.acct_keeper.proofs.places.make.Given as goal

abbrev pub invariant-loop-change : goal.invariant-loop-change
invariant-loop-change l = record {
  pairs : after (into_iter_items l.change-iterator) l.pairs.items ≡ after l.fn.changes.items l.initial.pairs.items;
  ascending : is_ascending l.pairs.items ≡ true;
  room : vec_len l.pairs + length (into_iter_items l.change-iterator) ≤ vec_capacity l.pairs;
}
