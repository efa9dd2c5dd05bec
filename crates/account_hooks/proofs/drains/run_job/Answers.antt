-- One run more is told after those so far, which all failed.
use Rattle.std.proofs.Common.{rules, sym, subst, ◌∷◌, ◌++◌, [], refl, ap, ◌∙◌, arith, map, string_bytes, ℕ, ◌+◌, ◌<◌}
use Rattle.account_hooks.specs.Drains.{job_of, ended_well}
use Rattle.account_hooks.proofs.Tries.{failed-rose, tell-one, none-snoc, length-snoc, rose-since}
use Rattle.account_hooks.proofs.drains.run_job.Goals as goal

pub returns-then-is_well-clause-runs : goal.returns-then-is_well-clause-runs
returns-then-is_well-clause-runs g c =
    let i = c.loop.invariant.0 in (
      i.0 ++ c.run.result ∷ [],
      record {
        failed = i.0;
        last = c.run.result;
        is = refl;
        none = i.1;
        well = sym c.is_well.ensures ∙ c.if-is_well.true;
        few = subst (λ n. n < c.args.tries) (sym i.2) (search rules);
      },
      tell-one (g.P.Spawner.runs c.args.spawner.now) (g.P.Spawner.runs c.loop.spawner) (g.P.Spawner.runs c.run.new.self)
          c.args.program.now (job_of c.args.job.now) (map string_bytes c.as_slice.result.now) i.0 c.run.result
          (ap (map string_bytes) c.as_slice.ensures.value) i.3 c.run.ensures.runs,
    )

pub loop-preserved : goal.loop-preserved
loop-preserved g c =
    let i = c.loop.invariant.0 in (
      (
        i.0 ++ c.run.result ∷ [],
        none-snoc i.0 c.run.result i.1 (sym c.is_well.ensures ∙ c.if-is_well.false),
        length-snoc i.0 c.run.result ∙ ap (λ (n : ℕ). n + 1) i.2,
        tell-one (g.P.Spawner.runs c.args.spawner.now) (g.P.Spawner.runs c.loop.spawner)
            (g.P.Spawner.runs c.run.new.self) c.args.program.now (job_of c.args.job.now)
            (map string_bytes c.as_slice.result.now) i.0 c.run.result (ap (map string_bytes) c.as_slice.ensures.value)
            i.3 c.run.ensures.runs,
      ),
      λ some. rose-since (g.P.Spawner.failed c.args.spawner.now) (g.P.Spawner.failed c.loop.spawner)
          (g.P.Spawner.failed c.run.new.self) c.loop.invariant.2
          (failed-rose (ended_well c.run.result) (g.P.Spawner.failed c.loop.spawner) (g.P.Spawner.failed c.run.new.self)
          c.run.ensures.failed (sym c.is_well.ensures ∙ c.if-is_well.false)),
      (let a = c.loop.invariant.2 in let b = c.run.ensures.later in omega (arith, a, b)),
    )
