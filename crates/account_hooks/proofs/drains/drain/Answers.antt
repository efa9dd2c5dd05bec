-- The runs of each part are told after those of the parts before it.
use Rattle.std.proofs.Common.{[], ◌++◌, subst, append_assoc, arith, List}
use Rattle.account_hooks.specs.Drains.{Run, Drains, IsDraining}
use Rattle.account_hooks.proofs.Tries.{adds-none, adds-then}
use Rattle.account_hooks.proofs.Draining.{begins-same, begins-then, draining-none, draining-same}
use Rattle.account_hooks.proofs.drains.drain.Goals as goal

pub loop-answer-init : goal.loop-answer-init
loop-answer-init g c =
    let a = c.args in
    let jobs = g.G.HookGate.jobs a.gate.now in (
      c.requires.ready,
      g.met.G.HookGate.stays a.gate.now,
      omega arith,
      begins-same jobs,
      (
        [],
        adds-none (g.P.Spawner.runs a.spawner.now),
        λ before earlier d. draining-same a.program.now a.tries before jobs (g.G.HookGate.gone a.gate.now) earlier d,
      ),
    )

pub returns-in-Some-clause-drains : goal.returns-in-Some-clause-drains
returns-in-Some-clause-drains g c =
    let a = c.args in
    let jobs = g.G.HookGate.jobs a.gate.now in
    let gone = g.G.HookGate.gone a.gate.now in
    let i = c.loop-answer.invariant.4 in
    let r = c.in-Some.ensures.drains in (
      i.0 ++ r.0,
      adds-then (g.P.Spawner.runs a.spawner.now) (g.P.Spawner.runs c.loop-answer.spawner)
          (g.P.Spawner.runs c.drain_next.new.spawner) i.0 r.0 i.1 r.1,
      r.2 gone i.0 (i.2 gone []
          (draining-none a.program.now a.tries jobs gone (g.met.G.HookGate.in_front a.gate.now c.requires.ready))),
    )

pub returns-in-Some-clause-goes_on : goal.returns-in-Some-clause-goes_on
returns-in-Some-clause-goes_on g c =
    let a = c.args in
    let jobs = g.G.HookGate.jobs c.drain_next.new.gate in
    let gone = g.G.HookGate.gone c.drain_next.new.gate in
    let i = c.loop-answer.invariant.4 in
    let r = c.in-Some.ensures.drains in (
      i.0 ++ r.0,
      adds-then (g.P.Spawner.runs a.spawner.now) (g.P.Spawner.runs c.loop-answer.spawner)
          (g.P.Spawner.runs c.drain_next.new.spawner) i.0 r.0 i.1 r.1,
      λ before earlier d. subst (λ (rs : List Run). Drains c.in-Some.answer a.program.now a.tries before jobs gone rs)
          (append_assoc earlier i.0 r.0) (r.2 before (earlier ++ i.0) (i.2 before earlier d)),
    )

pub loop-answer-preserved : goal.loop-answer-preserved
loop-answer-preserved g c =
    let a = c.args in
    let was = g.G.HookGate.jobs c.loop-answer.gate in
    let jobs = g.G.HookGate.jobs c.drain_next.new.gate in
    let gone = g.G.HookGate.gone c.drain_next.new.gate in
    let i = c.loop-answer.invariant.4 in
    let r = c.in-None.ensures.drains in (
      c.drain_next.ensures.ready,
      g.met.G.HookGate.goes_on a.gate.now c.loop-answer.gate c.drain_next.new.gate c.loop-answer.invariant.1
          c.drain_next.ensures.moves,
      (let x = c.loop-answer.invariant.2 in let y = c.drain_next.ensures.later in omega (arith, x, y)),
      begins-then (g.G.HookGate.jobs a.gate.now) was jobs c.loop-answer.invariant.3 c.drain_next.ensures.jobs,
      (
        i.0 ++ r.0,
        adds-then (g.P.Spawner.runs a.spawner.now) (g.P.Spawner.runs c.loop-answer.spawner)
            (g.P.Spawner.runs c.drain_next.new.spawner) i.0 r.0 i.1 r.1,
        λ before earlier d.
            subst (λ (rs : List Run). IsDraining a.program.now a.tries before jobs gone rs)
            (append_assoc earlier i.0 r.0) (r.2 before (earlier ++ i.0) (i.2 before earlier d)),
      ),
    )
