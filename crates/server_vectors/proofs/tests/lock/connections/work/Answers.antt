-- Before the first call the pass has opened the connection, and has no call on it.
use Rattle.std.proofs.Common.{refl}
use Rattle.server_vectors.proofs.tests.lock.connections.work.Goals as goal

pub loop-call-init : goal.loop-call-init
loop-call-init g c = let e = c.open_conn.ensures in record {
  pass = e.pass;
  number = refl;
  opened = e.opened c.if-not-open_conn.false;
  numbers = e.numbers
      c.if-not-open_conn.false;
}
