-- The history so far, then the ends of the served connections left, is what was there and the ends of all of them.
use Rattle.std.proofs.Common.{◌≡◌, ◌+◌, ◌++◌, drop, map, length}
use Rattle.acct_machine.specs.declared.entry.Entry.TheVariants.{Gone}
use Rattle.acct_server.specs.Replayed.{served_from}
use Rattle.acct_server.proofs.running.Run.end_all.Given as goal

abbrev pub invariant-loop-i : goal.invariant-loop-i
invariant-loop-i g l = record {
  history : l.self.machine.history ++ map Gone (served_from (l.i + 1) (drop l.i l.self.peers))
      ≡ l.initial.self.machine.history ++ map Gone (served_from 1 l.initial.self.peers);
  start : l.self.machine.start ≡ l.initial.self.machine.start;
  count : length l.self.peers ≡ length l.initial.self.peers;
}
