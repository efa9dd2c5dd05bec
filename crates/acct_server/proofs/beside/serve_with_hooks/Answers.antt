-- What the workers served on the machine that was begun is what is left: ends, history, rows, store and runs.
use Rattle.std.proofs.Common.{◌≡◌, List, Some, inr, refl, sym, ap, ◌∙◌, subst}
use Rattle.account_hooks.specs.declared.drains.Drained.{Drained}
use Rattle.acct_config.specs.Spelled.{IsRightConfig}
use Rattle.acct_config.specs.declared.config.Config.{Config}
use Rattle.acct_machine.specs.State.{Start}
use Rattle.acct_machine.specs.Step.{state_at}
use Rattle.acct_machine.specs.Outbox.{HoldsRows, AreCounted}
use Rattle.acct_machine.specs.declared.entry.Entry.{Entry}
use Rattle.door_workers.specs.Doors.{IsServed}
use Rattle.door_workers.specs.Hooking.{HasDrained}
use Rattle.link_sessions.specs.declared.ends.Ended.{Ended}
use Rattle.acct_server.specs.Begun.{DeniesExactlyIn}
use Rattle.acct_server.proofs.Configuring.{counted-later}
use Rattle.acct_server.proofs.Outs.{hook-tried, hook-there, settled-drained, settled-fault, leaves-outs}
use Rattle.acct_server.proofs.beside.serve_with_hooks.Goals as goal

pub serve_doors_with_hook-requires-clause-hook : goal.serve_doors_with_hook-requires-clause-hook
serve_doors_with_hook-requires-clause-hook g c = λ lives outlive.
    hook-there c.args.config.now c.in-Ok.machine.past.start.config c.args.hook.now c.in-Ok.ensures.begun.under
    c.requires.hook

pub serve_doors_with_hook-requires-clause-tries : goal.serve_doors_with_hook-requires-clause-tries
serve_doors_with_hook-requires-clause-tries g c = λ lives outlive.
    hook-tried c.args.config.now c.args.hook.now c.requires.right c.requires.hook

pub returns-in-Ok : goal.returns-in-Ok
returns-in-Ok g c =
    let a = c.args in
    let k = g.K.Keeper in
    let p = g.P.Spawner in
    let start = c.in-Ok.machine.past.start in
    let begun = c.in-Ok.ensures.begun in
    let hooked = c.serve_doors_with_hook in
    let served = hooked.result.served in
    let past = served.machine.past in
    let left = c.left_beside.result.served in
    let l = c.left_beside.ensures in
    let same : past.start ≡ start = hooked.ensures.start in
    let history : left.history ≡ past.history = l.history in
    let counts : AreCounted (k.faults left.keeper) start left.history =
    subst (λ (h : List Entry). AreCounted (k.faults left.keeper) start h) (sym history)
    (subst (λ (s : Start). AreCounted (k.faults left.keeper) s past.history) same l.counts) in
    let done : IsServed g.D.Door g.D.L.Link.told start a.config.now.limits.max_read a.doors.now.items
    hooked.new.doors.items left.history served.outcome left.ends =
    subst (λ (es : List Ended). IsServed g.D.Door g.D.L.Link.told start a.config.now.limits.max_read
    a.doors.now.items hooked.new.doors.items left.history served.outcome es) (sym l.ends)
    (subst (λ (h : List Entry). IsServed g.D.Door g.D.L.Link.told start a.config.now.limits.max_read
    a.doors.now.items hooked.new.doors.items h served.outcome served.ends.items) (sym history)
    hooked.ensures.served) in
    let answer : Drained = l.status.0 in
    let drains : HasDrained p a.hook.now start a.spawner c.left_beside.result.spawner left.history (Some answer) =
    subst (λ s. HasDrained p a.hook.now start a.spawner s left.history (Some answer)) (sym l.spawner)
    (subst (λ (h : List Entry). HasDrained p a.hook.now start a.spawner hooked.result.spawner h (Some answer))
    (sym history)
    (settled-drained p a.hook.now start a.spawner hooked.result.spawner past.history (k.faults left.keeper)
    hooked.result.answer answer l.status.1 hooked.ensures.drains)) in
    record {
      leaves = inr (record {
        outcome = served.outcome;
        serves = record {
          start = start;
          begun = begun;
          outcome = served.outcome;
          status = refl;
          served = done;
          opening = l.opening ∙ ap (λ (s : Start). Some s.rows) same;
          rows = l.rows ∙ ap (λ (s : Start). Some (state_at s past.history).rows) same
              ∙ ap (λ (h : List Entry). Some (state_at start h).rows) (sym history);
          denies = subst (λ (h : List Entry). DeniesExactlyIn start h) (sym history)
              (subst (λ (s : Start). DeniesExactlyIn s past.history) same l.denies);
          stored = subst (λ (h : List Entry). HoldsRows (k.held left.keeper) (state_at start h).rows) (sym history)
              (subst (λ (s : Start). HoldsRows (k.held left.keeper) (state_at s past.history).rows) same l.stored);
          counts = counts;
        };
        answer = answer;
        status = l.status.2;
        drains = drains;
        fault = settled-fault (k.faults left.keeper) hooked.result.answer answer l.status.1;
        outs = leaves-outs c.jobs_are_left.ensures start left.history (record {
          right = subst (λ (x : Config). IsRightConfig x) (sym begun.under) c.requires.right;
          sound = begun.sound;
          legal = done.links.legal;
        }) a.hook.now.program a.hook.now.tries drains.runs answer drains.drains;
      });
      later = counted-later (k.faults left.keeper) start left.history (k.faults a.keeper) counts begun.count;
      failed_later = drains.later;
    }
