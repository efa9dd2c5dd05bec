-- The changes so far, followed by the puts of the pairs left, are the puts of all the pairs.
use Rattle.std.proofs.Common.{◌≡◌, ◌++◌, map}
use Rattle.std.specs.Vec.Iter.{into_iter_items}
use Rattle.acct_machine.specs.Opened.{put_of}
use Rattle.acct_machine.proofs.opened.puts_of.Given as goal

abbrev pub invariant-loop-pair : goal.invariant-loop-pair
invariant-loop-pair l =
    l.changes.items ++ map put_of (into_iter_items l.pair-iterator) ≡ map put_of l.fn.pairs.items
