-- The drain has gone on from where it began, and the gate has less room each time.
use Rattle.std.proofs.Common.{◌≤◌, ℕ, List, ◌++◌}
use Rattle.account_hooks.specs.Drains.{Run, Adds, Begins, IsDraining}
use Rattle.account_hooks.proofs.drains.drain.Given as goal

abbrev pub invariant-loop-answer : goal.invariant-loop-answer
invariant-loop-answer g l =
    g.G.HookGate.ready l.gate
    × g.G.HookGate.moves l.initial.gate l.gate
    × (g.P.Spawner.failed l.initial.spawner ≤ g.P.Spawner.failed l.spawner)
    × Begins (g.G.HookGate.jobs l.initial.gate) (g.G.HookGate.jobs l.gate)
    × ((more : List Run) × Adds (g.P.Spawner.runs l.initial.spawner) more (g.P.Spawner.runs l.spawner)
    × ((before : List ℕ) (earlier : List Run)
    → IsDraining l.program l.tries before (g.G.HookGate.jobs l.initial.gate) (g.G.HookGate.gone l.initial.gate) earlier
    → IsDraining l.program l.tries before (g.G.HookGate.jobs l.gate) (g.G.HookGate.gone l.gate) (earlier ++ more)))

abbrev pub decreases-loop-answer : goal.decreases-loop-answer
decreases-loop-answer g l = g.G.HookGate.room l.gate
