-- The gate may call: its pass has opened connection 5, and has no call on it yet.
use Rattle.server_vectors.proofs.tests.lock.connections.a_gate_calls_through_its_pass.Goals as goal

pub call_through-requires : goal.call_through-requires
call_through-requires g c = let e = c.open_conn.ensures in
    (e.pass, e.opened c.if-open_conn.true, e.numbers c.if-open_conn.true)
