-- The rounds so far, the last of them, and what may follow it.
use Rattle.std.proofs.Common.{◌≡◌, ◌≢◌, ℕ, ◌<◌, ◌≤◌, ◌-◌, ◌∷◌, [], ◌++◌, List, length, slice_index_or, vec_len}
use Rattle.std.specs.Prelude.{is_some}
use Rattle.acct_server.specs.declared.status.Status.TheVariants.{Usage}
use Rattle.acct_commands.specs.Serving.{Round, IsRound, KeepsRounds, ending}
use Rattle.acct_commands.proofs.Periods.{SoFar}
use Rattle.acct_commands.proofs.serving.serve_rounds.Given as goal

abbrev pub invariant-loop-alloc : goal.invariant-loop-alloc
invariant-loop-alloc g l = record {
  some : 1 ≤ l.more;
  rounds : (earlier : List (Round _ _ _)) × (last : Round _ _ _)
      × SoFar (record {
        serving = record {
          door = g.W.E.D.Door;
          told = g.W.E.D.L.Link.told;
          pairs = g.W.K.Keeper.held;
          faults = g.W.K.Keeper.faults;
        };
        spawner = g.W.P.Spawner;
      }) l.config (l.more - 1) l.fn.doors.items l.fn.keeper l.fn.spawner earlier last
      × (l.doors.items ≡ last.doors) × (l.back ≡ last.left.keeper) × (l.spawner ≡ last.spawner)
      × (l.status ≡ ending last)
      × KeepsRounds (g.W.World.seen l.fn.world) (g.W.World.seen l.world) (earlier ++ last ∷ [])
      × (before : List _) × (keeper : _) × (spawner : _) × IsRound (record {
        serving = record {
          door = g.W.E.D.Door;
          told = g.W.E.D.L.Link.told;
          pairs = g.W.K.Keeper.held;
          faults = g.W.K.Keeper.faults;
        };
        spawner = g.W.P.Spawner;
      }) l.config before keeper spawner last;
  few : vec_len l.doors ≤ 1024;
  configured : (i : ℕ) (d : _) → i < vec_len l.doors
      → g.W.E.D.Door.listener (slice_index_or l.doors.items i d) < length l.config.listeners;
  handed : is_some l.spawner ≡ is_some l.config.hook;
  not_usage : l.status ≢ Usage;
}

abbrev pub decreases-loop-alloc : goal.decreases-loop-alloc
decreases-loop-alloc g l = l.more
