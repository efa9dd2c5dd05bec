-- A look at the first job runs nothing, and what was known of the runs so far stands. Then the job's runs are told after
-- the earlier ones, and its number leaves where the gate says so.
use Rattle.std.proofs.Common.{[], ◌++◌, inl, inr, refl, subst}
use Rattle.account_hooks.specs.Drains.{job_of, IsFirstLeft, runs_of}
use Rattle.account_hooks.proofs.Tries.{adds-none}
use Rattle.account_hooks.proofs.Draining.{draining-first, draining-same, fails-in-order, draining-holds, draining-on}
use Rattle.account_hooks.proofs.Draining.{draining-begins, stays-on}
use Rattle.account_hooks.proofs.drains.drain_next.Goals as goal

pub returns-in-Err-clause-drains : goal.returns-in-Err-clause-drains
returns-in-Err-clause-drains g c =
    let a = c.args in
    let jobs = g.G.HookGate.jobs a.gate.now in
    let gone = g.G.HookGate.gone a.gate.now in
    let after = g.G.HookGate.jobs c.first.new.self in
    let now = g.G.HookGate.gone c.first.new.self in (
      [],
      adds-none (g.P.Spawner.runs a.spawner.now),
      λ before earlier d.
          let e = draining-same a.program.now a.tries before after now earlier
          (draining-first a.program.now a.tries before jobs after gone now earlier c.first.ensures.jobs
          c.first.ensures.gone d) in record {
            in_order = e.in_order;
            stops = inl e;
          },
    )

pub returns-in-Ok-None-clause-drains : goal.returns-in-Ok-None-clause-drains
returns-in-Ok-None-clause-drains g c =
    let a = c.args in
    let jobs = g.G.HookGate.jobs a.gate.now in
    let gone = g.G.HookGate.gone a.gate.now in
    let after = g.G.HookGate.jobs c.first.new.self in
    let now = g.G.HookGate.gone c.first.new.self in (
      [],
      adds-none (g.P.Spawner.runs a.spawner.now),
      λ before earlier d.
          let e = draining-same a.program.now a.tries before after now earlier
          (draining-first a.program.now a.tries before jobs after gone now earlier c.first.ensures.jobs
          c.first.ensures.gone d) in record {
            in_order = e.in_order;
            stops = (e, subst (λ o. IsFirstLeft after now o) c.in-Ok-None.field-0-is c.in-Ok-None.ensures.first);
          },
    )

pub returns-then-not-run_job-clause-drains : goal.returns-then-not-run_job-clause-drains
returns-then-not-run_job-clause-drains g c =
    let a = c.args in
    let job = job_of c.in-Ok-Some.job in
    let was = g.G.HookGate.jobs a.gate.now in
    let had = g.G.HookGate.gone a.gate.now in
    let jobs = g.G.HookGate.jobs c.first.new.self in
    let gone = g.G.HookGate.gone c.first.new.self in
    let next = subst (λ o. IsFirstLeft jobs gone o) c.in-Ok-Some.field-0-is c.in-Ok-Some.ensures.first in
    let r = c.if-not-run_job.ensures.runs in (
      runs_of a.program.now job r.0,
      r.2,
      λ before earlier d.
          let e = draining-first a.program.now a.tries before was jobs had gone earlier c.first.ensures.jobs
          c.first.ensures.gone d in
          record {
            in_order = fails-in-order a.program.now a.tries before jobs gone earlier job r.0 e next r.1;
            stops = draining-holds a.program.now a.tries before jobs gone earlier job r.0 e next r.1;
          },
    )

pub returns-in-Done-clause-drains : goal.returns-in-Done-clause-drains
returns-in-Done-clause-drains g c =
    let a = c.args in
    let job = job_of c.in-Ok-Some.job in
    let was = g.G.HookGate.jobs a.gate.now in
    let had = g.G.HookGate.gone a.gate.now in
    let jobs = g.G.HookGate.jobs c.first.new.self in
    let gone = g.G.HookGate.gone c.first.new.self in
    let next = subst (λ o. IsFirstLeft jobs gone o) c.in-Ok-Some.field-0-is c.in-Ok-Some.ensures.first in
    let after = g.G.HookGate.jobs c.hooked.new.self in
    let now = g.G.HookGate.gone c.hooked.new.self in
    let r = c.if-not-run_job.ensures.runs in (
      runs_of a.program.now job r.0,
      r.2,
      λ before earlier d.
          let e = draining-first a.program.now a.tries before was jobs had gone earlier c.first.ensures.jobs
          c.first.ensures.gone d in
          draining-begins a.program.now a.tries before jobs after now (earlier ++ runs_of a.program.now job r.0)
          c.hooked.ensures.jobs
          (draining-on a.program.now a.tries before jobs gone now earlier job r.0 e next r.1 c.in-Done.ensures.gone),
    )

pub unreachable-requires : goal.unreachable-requires
unreachable-requires g c =
    let jobs = g.G.HookGate.jobs c.first.new.self in
    let gone = g.G.HookGate.gone c.first.new.self in
    let next = subst (λ o. IsFirstLeft jobs gone o) c.in-Ok-Some.field-0-is c.in-Ok-Some.ensures.first in
    c.in-Past.ensures.past (job_of c.in-Ok-Some.job) next refl

pub returns-in-StoreFault-clause-drains : goal.returns-in-StoreFault-clause-drains
returns-in-StoreFault-clause-drains g c =
    let a = c.args in
    let job = job_of c.in-Ok-Some.job in
    let was = g.G.HookGate.jobs a.gate.now in
    let had = g.G.HookGate.gone a.gate.now in
    let jobs = g.G.HookGate.jobs c.first.new.self in
    let gone = g.G.HookGate.gone c.first.new.self in
    let next = subst (λ o. IsFirstLeft jobs gone o) c.in-Ok-Some.field-0-is c.in-Ok-Some.ensures.first in
    let after = g.G.HookGate.jobs c.hooked.new.self in
    let now = g.G.HookGate.gone c.hooked.new.self in
    let front = g.met.G.HookGate.in_front c.first.new.self c.first.ensures.ready in
    let r = c.if-not-run_job.ensures.runs in (
      runs_of a.program.now job r.0,
      r.2,
      λ before earlier d.
          let e = draining-first a.program.now a.tries before was jobs had gone earlier c.first.ensures.jobs
          c.first.ensures.gone d in
          let s = stays-on a.program.now a.tries before jobs after gone now earlier job r.0 front c.hooked.ensures.jobs
          c.in-StoreFault.ensures.gone e next r.1 in record {
            in_order = s.0;
            stops = s.1;
          },
    )

pub returns-clause-drains : goal.returns-clause-drains
returns-clause-drains g c =
    let a = c.args in
    let job = job_of c.in-Ok-Some.job in
    let was = g.G.HookGate.jobs a.gate.now in
    let had = g.G.HookGate.gone a.gate.now in
    let jobs = g.G.HookGate.jobs c.first.new.self in
    let gone = g.G.HookGate.gone c.first.new.self in
    let next = subst (λ o. IsFirstLeft jobs gone o) c.in-Ok-Some.field-0-is c.in-Ok-Some.ensures.first in
    let after = g.G.HookGate.jobs c.hooked.new.self in
    let now = g.G.HookGate.gone c.hooked.new.self in
    let front = g.met.G.HookGate.in_front c.first.new.self c.first.ensures.ready in
    let r = c.if-not-run_job.ensures.runs in (
      runs_of a.program.now job r.0,
      r.2,
      λ before earlier d.
          let e = draining-first a.program.now a.tries before was jobs had gone earlier c.first.ensures.jobs
          c.first.ensures.gone d in
          let s = stays-on a.program.now a.tries before jobs after gone now earlier job r.0 front c.hooked.ensures.jobs
          c.in-NoMemory.ensures.gone e next r.1 in record {
            in_order = s.0;
            stops = inr s.1;
          },
    )
