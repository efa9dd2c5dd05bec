-- A machine that was begun is a gate that may be drained, and what that leaves.
use Rattle.std.proofs.Common.{◌≡◌, ℕ, ◌<◌, inr, List, [], Option, Some, IfSome, refl, sym, ap, ◌∙◌, subst, arith}
use Rattle.std.specs.Prelude.{is_some}
use Rattle.account_hooks.specs.Drains.{Drains, Begins, numbers}
use Rattle.acct_config.specs.Spelled.{IsRightConfig, IsRightHook}
use Rattle.acct_config.specs.declared.config.Config.{Config}
use Rattle.acct_config.specs.declared.config.Hook.{Hook}
use Rattle.acct_machine.specs.Legal.{Legal}
use Rattle.acct_machine.specs.Outbox.{has_hook, HoldsRows}
use Rattle.acct_machine.specs.Jobs.{jobs_at}
use Rattle.acct_machine.specs.Outs.{hooks_of}
use Rattle.acct_machine.specs.declared.entry.Entry.{Entry}
use Rattle.acct_rows.specs.Rows.{Lists}
use Rattle.acct_server.proofs.Draining.{has-drained}
use Rattle.acct_server.proofs.hooking.run_hooks.Goals as goal

-- a right configuration's program may be run once at least
tried : (config : Config) (hook : Hook) → IsRightConfig config → config.hook ≡ Some hook → 0 < hook.tries
tried config hook right is =
    let by : IsRightHook hook = subst (λ (h : Option Hook). IfSome h IsRightHook) is right.hook in by.tried

pub drain-answer-requires-clause-tries : goal.drain-answer-requires-clause-tries
drain-answer-requires-clause-tries g c = tried c.args.config.now c.args.hook.now c.requires.right c.requires.hook

pub drain-answer-requires-clause-ready : goal.drain-answer-requires-clause-ready
drain-answer-requires-clause-ready g c =
    let config = c.args.config.now in
    let start = c.in-Ok.machine.past.start in
    let under = c.in-Ok.ensures.begun.under in
    record {
      good = record {
        right = subst (λ (x : Config). IsRightConfig x) (sym under) c.requires.right;
        sound = c.in-Ok.ensures.begun.sound;
        legal = subst (λ (h : List Entry). Legal start h) (sym c.in-Ok.ensures.history) tt;
      };
      hook = ap (λ (x : Config). has_hook x) under ∙ ap (λ (h : Option Hook). is_some h) c.requires.hook;
      in_front = subst (λ (h : List Entry). Begins (hooks_of h) (numbers (jobs_at start h)))
          (sym c.in-Ok.ensures.history) (numbers (jobs_at start []), refl);
    }

pub returns : goal.returns
returns g c =
    let k = g.K.Keeper in
    let p = g.P.Spawner in
    let a = c.args in
    let machine = c.in-Ok.machine in
    let drained = c.drain-answer in
    let new = drained.new.gate in
    let parts = c.into_parts-opening in
    let counts = c.history-counted.ensures.counts in
    let drains = subst (λ (program : List ℕ). Drains drained.result program a.hook.now.tries
    (hooks_of machine.past.history) (jobs_at new.past.start new.past.history) (hooks_of new.past.history)
    drained.ensures.drains.0) c.as_str.ensures drained.ensures.drains.2 in
    record {
      runs = inr (has-drained (record { pairs = k.held; faults = k.faults; runs = p.runs; failed = p.failed })
          a.config.now a.hook.now (record { keeper = a.keeper; spawner = a.spawner.now })
          (record { keeper = parts.result.3; spawner = drained.new.spawner }) machine new drained.result
          c.status_of.result drained.ensures.drains.0 c.in-Ok.ensures.begun c.in-Ok.ensures.history
          drained.ensures.moves drained.ensures.ready.good c.jobs_are_left.ensures c.status_of.ensures
          drained.ensures.drains.1 drains
          (subst (λ (r : Lists). HoldsRows (k.held parts.result.3) r) parts.ensures.rows parts.ensures.stored)
          drained.ensures.held counts.later parts.ensures.faults drained.ensures.fault);
      store_later = omega (
        arith,
        c.in-Ok.ensures.begun.count,
        counts.later,
        drained.ensures.moves.later,
        parts.ensures.faults,
      );
      failed_later = drained.ensures.later;
    }
