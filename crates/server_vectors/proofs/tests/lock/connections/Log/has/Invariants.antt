-- No entry that was passed is of the connection's lane.
use Rattle.std.proofs.Common.{ℕ, ◌<◌}
use Rattle.hist_lock.specs.Lanes.{IsOfLane}
use Rattle.hist_lock.specs.Histories.{At}
use Rattle.server_vectors.specs.declared.tests.lock.connections.Entry.{Entry}
use Rattle.server_vectors.specs.contracts.tests.lock.connections.LogKept.TheImpl.{lane-value}
use Rattle.server_vectors.proofs.tests.lock.connections.Log.has.Given as goal

abbrev pub invariant-loop-entry : goal.invariant-loop-entry
invariant-loop-entry l = (p : ℕ) (e : Entry) → p < l.entry-index → At l.entry-items p e
    → IsOfLane (lane-value.it e) l.conn → ⊥
