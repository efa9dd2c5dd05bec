-- The lines passed were run and what they print was written, no write failed, and running those left ends the replay
-- of all lines.
use Rattle.std.proofs.Common.{◌≡◌, ◌≤◌, ◌+◌, ℕ, length}
use Rattle.acct_server.specs.steps.Running.{AllHeard}
use Rattle.acct_server.proofs.Going.{Going}
use Rattle.acct_server.proofs.replays.run_lines.Given as goal

abbrev pub invariant-loop-rest : goal.invariant-loop-rest
invariant-loop-rest g l =
    let t = g.T.Sink in
    record {
      going : Going l.initial.run.machine.start (t.held l.initial.out) (t.held l.out) l.bytes l.run l.number l.rest;
      within : l.number + length l.rest ≤ length l.bytes;
      heard : (n : ℕ) → n + length l.rest ≡ length l.bytes → AllHeard n l.run.peers;
      faults : t.faults l.out ≡ t.faults l.initial.out;
    }

abbrev pub decreases-loop-rest : goal.decreases-loop-rest
decreases-loop-rest g l = length l.rest
