-- What the workers served on the machine that was begun is what `serve` leaves: ends, history, rows and store.
use Rattle.std.proofs.Common.{◌≡◌, List, Some, inr, sym, ap, ◌∙◌, subst}
use Rattle.acct_machine.specs.declared.entry.Entry.{Entry}
use Rattle.acct_machine.specs.State.{Start}
use Rattle.acct_machine.specs.Step.{state_at}
use Rattle.acct_machine.specs.Outbox.{HoldsRows, AreCounted}
use Rattle.door_workers.specs.Doors.{IsServed}
use Rattle.link_sessions.specs.declared.ends.Ended.{Ended}
use Rattle.acct_server.specs.Begun.{DeniesExactlyIn}
use Rattle.acct_server.proofs.Configuring.{counted-later}
use Rattle.acct_server.proofs.serving.serve.Goals as goal

pub returns-in-Ok : goal.returns-in-Ok
returns-in-Ok g c =
    let a = c.args in
    let k = g.K.Keeper in
    let start = c.in-Ok.machine.past.start in
    let served = c.serve_doors in
    let past = served.result.machine.past in
    let left = c.left.result in
    let l = c.left.ensures in
    let same : past.start ≡ start = served.ensures.start in
    let history : left.history ≡ past.history = l.history in
    let counts : AreCounted (k.faults left.keeper) start left.history =
    subst (λ (h : List Entry). AreCounted (k.faults left.keeper) start h) (sym history)
    (subst (λ (s : Start). AreCounted (k.faults left.keeper) s past.history) same l.counts) in
    record {
      leaves = inr (record {
        start = start;
        begun = c.in-Ok.ensures.begun;
        outcome = served.result.outcome;
        status = l.status;
        served = subst (λ (es : List Ended). IsServed g.D.Door g.D.L.Link.told start a.config.now.limits.max_read
            a.doors.now.items served.new.doors.items left.history served.result.outcome es) (sym l.ends)
            (subst (λ (h : List Entry). IsServed g.D.Door g.D.L.Link.told start a.config.now.limits.max_read
            a.doors.now.items served.new.doors.items h served.result.outcome served.result.ends.items) (sym history)
            served.ensures.served);
        opening = l.opening ∙ ap (λ (s : Start). Some s.rows) same;
        rows = l.rows ∙ ap (λ (s : Start). Some (state_at s past.history).rows) same
            ∙ ap (λ (h : List Entry). Some (state_at start h).rows) (sym history);
        denies = subst (λ (h : List Entry). DeniesExactlyIn start h) (sym history)
            (subst (λ (s : Start). DeniesExactlyIn s past.history) same l.denies);
        stored = subst (λ (h : List Entry). HoldsRows (k.held left.keeper) (state_at start h).rows) (sym history)
            (subst (λ (s : Start). HoldsRows (k.held left.keeper) (state_at s past.history).rows) same l.stored);
        counts = counts;
      });
      later = counted-later (k.faults left.keeper) start left.history (k.faults a.keeper) counts
          c.in-Ok.ensures.begun.count;
    }
