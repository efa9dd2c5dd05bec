-- What `converse` keeps: so far it is a conversation, and what came and what may come are what may be read; no call of
-- the link failed.
use Rattle.std.proofs.Common.{◌≡◌, ◌+◌, ℕ, List, length, false}
use Rattle.acct_links.specs.Links.{FaultsAre}
use Rattle.link_sessions.specs.steps.SoFar.{SoFar}
use Rattle.link_sessions.proofs.sessions.converse.Given as goal

abbrev pub invariant-loop-room : goal.invariant-loop-room
invariant-loop-room g l =
    let t = g.L.Link in
    let m = g.G.Gate in
    record {
      serves : m.serves l.gate l.conn;
      moves : m.moves l.initial.gate l.conn l.gate;
      start : m.start l.gate ≡ m.start l.initial.gate;
      so_far : (came : List ℕ) × SoFar (m.start l.initial.gate) l.conn (m.known l.initial.gate) (m.known l.gate)
          (t.told l.initial.link) (t.told l.link) l.stream came × (length came + l.room ≡ l.max_read);
      faults : FaultsAre false false (t.told l.initial.link) (t.told l.link);
      buffer : length l.buffer ≡ 4096;
    }

abbrev pub decreases-loop-room : goal.decreases-loop-room
decreases-loop-room g l = l.room
