-- No listener that was passed has the name: those left decide its place.
use Rattle.std.proofs.Common.{◌≡◌, drop}
use Rattle.acct_server.specs.Replayed.{listener_from}
use Rattle.acct_server.proofs.running.listener_place.Given as goal

abbrev pub invariant-loop-i : goal.invariant-loop-i
invariant-loop-i l = listener_from l.i l.name (drop l.i l.listeners) ≡ listener_from 0 l.name l.listeners
