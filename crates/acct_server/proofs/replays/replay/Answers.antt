-- What `replay` leaves without a configuration, without events, without an opened store, and with its lines run.
use Rattle.std.proofs.Common.{refl, ◌≤◌, ◌∙◌, sym, subst, List, ℕ}
use Rattle.acct_keeper.specs.Faults.{IsWhole}
use Rattle.acct_server.specs.declared.status.Status.{Status}
use Rattle.acct_server.specs.Begun.{IsBegun}
use Rattle.acct_server.specs.steps.Running.{Running}
use Rattle.acct_server.specs.Leaves.{ConfigCause, EventsCause, StoreCause, StoreKept}
use Rattle.acct_server.proofs.Configuring.{breaks_none, events-whole, made-none, config-not-taken, told-short}
use Rattle.acct_server.proofs.Configuring.{events-not-taken, store-not-opened, lines-run}
use Rattle.acct_server.proofs.replays.replay.Goals as goal

pub returns-in-Err : goal.returns-in-Err
returns-in-Err g c =
    let s = g.S.Source in
    let t = g.T.Sink in
    let k = g.K.Keeper in
    let a = c.args in
    let new = c.read_configuration.new.source in
    let ends = c.not_run in
    config-not-taken (record {
      left = s.left;
      read_faults = s.faults;
      held = t.held;
      write_faults = t.faults;
      pairs = k.held;
      store_faults = k.faults;
    })
    (record { config = a.config.now; events = a.events.now; out = a.out.now; keeper = a.keeper })
    (record { config = new; events = a.events.now; out = a.out.now; keeper = ends.result.keeper })
    ends.result (made-none ends.result ends.ensures.opening ends.ensures.history ends.ensures.rows) refl refl
    ends.ensures.keeper
    (subst (λ (x : Status). ConfigCause (s.left a.config.now) (s.faults a.config.now) (s.faults new) x)
    (sym ends.ensures.status) c.in-Err.ensures.cause) c.in-Err.ensures.later

pub returns-in-Err-read_whole : goal.returns-in-Err-read_whole
returns-in-Err-read_whole g c =
    let s = g.S.Source in
    let t = g.T.Sink in
    let k = g.K.Keeper in
    let a = c.args in
    let config = c.read_configuration.new.source in
    let events = c.read_whole.new.source in
    let ends = c.not_run-in-Err-read_whole in
    events-not-taken (record {
      left = s.left;
      read_faults = s.faults;
      held = t.held;
      write_faults = t.faults;
      pairs = k.held;
      store_faults = k.faults;
    })
    (record { config = a.config.now; events = a.events.now; out = a.out.now; keeper = a.keeper })
    (record { config = config; events = events; out = a.out.now; keeper = ends.result.keeper })
    ends.result (made-none ends.result ends.ensures.opening ends.ensures.history ends.ensures.rows) refl
    ends.ensures.keeper
    (breaks_none (s.left a.config.now) c.in-Ok.configuration c.in-Ok.ensures.configured) c.in-Ok.ensures.short
    (subst (λ (x : Status). EventsCause (s.left a.events.now) (s.faults a.events.now) (s.faults events) x)
    (sym (ends.ensures.status ∙ c.from.ensures))
    (events-whole (s.left a.events.now) (s.faults a.events.now) (s.faults events) c.in-Err-read_whole.e
    c.in-Err-read_whole.ensures.cause))
    c.in-Ok.ensures.later c.in-Err-read_whole.ensures.later

pub returns : goal.returns
returns g c =
    let s = g.S.Source in
    let t = g.T.Sink in
    let k = g.K.Keeper in
    let a = c.args in
    let config = c.read_configuration.new.source in
    let events = c.read_whole.new.source in
    let ends = c.not_run-in-Err-begun in
    let none = c.in-Err-begun in
    store-not-opened (record {
      left = s.left;
      read_faults = s.faults;
      held = t.held;
      write_faults = t.faults;
      pairs = k.held;
      store_faults = k.faults;
    })
    (record { config = a.config.now; events = a.events.now; out = a.out.now; keeper = a.keeper })
    (record { config = config; events = events; out = a.out.now; keeper = ends.result.keeper })
    ends.result (made-none ends.result ends.ensures.opening ends.ensures.history ends.ensures.rows) refl
    (record {
      taken = breaks_none (s.left a.config.now) c.in-Ok.configuration c.in-Ok.ensures.configured;
      short = c.in-Ok.ensures.short;
      read = told-short (s.left a.events.now) _ c.in-Ok-read_whole.ensures.whole.all
          c.in-Ok-read_whole.ensures.whole.within;
      cause = subst (λ (x : Status). StoreCause (k.held a.keeper) (k.faults a.keeper) (k.faults ends.result.keeper) x)
          (sym ends.ensures.status)
          (subst (λ kept. StoreCause (k.held a.keeper) (k.faults a.keeper) (k.faults kept) none.none.status)
          (sym ends.ensures.keeper) none.ensures.cause);
      config = c.in-Ok.configuration;
      configured = c.in-Ok.ensures.configured;
      kept = subst (λ (x : Status). StoreKept c.in-Ok.configuration (k.held a.keeper) (k.held ends.result.keeper) x)
          (sym ends.ensures.status)
          (subst (λ kept. StoreKept c.in-Ok.configuration (k.held a.keeper) (k.held kept) none.none.status)
          (sym ends.ensures.keeper) none.ensures.kept);
    })
    c.in-Ok.ensures.later c.in-Ok-read_whole.ensures.later
    (subst (λ kept. k.faults a.keeper ≤ k.faults kept) (sym ends.ensures.keeper) none.ensures.later)

pub returns-in-Ok-begun : goal.returns-in-Ok-begun
returns-in-Ok-begun g c =
    let s = g.S.Source in
    let t = g.T.Sink in
    let k = g.K.Keeper in
    let a = c.args in
    let run = c.run_events in
    lines-run (record {
      left = s.left;
      read_faults = s.faults;
      held = t.held;
      write_faults = t.faults;
      pairs = k.held;
      store_faults = k.faults;
    })
    (record { config = a.config.now; events = a.events.now; out = a.out.now; keeper = a.keeper })
    (record {
      config = c.read_configuration.new.source;
      events = c.read_whole.new.source;
      out = run.new.out;
      keeper = run.result.keeper;
    })
    run.result
    (record {
      config = c.in-Ok.configuration;
      events = c.deref.result.now;
      start = c.new.result.machine.start;
      configured = c.in-Ok.ensures.configured;
      short = c.in-Ok.ensures.short;
      whole = subst (λ (bs : List ℕ). IsWhole (s.left a.events.now) bs) (sym c.deref.ensures.value)
          c.in-Ok-read_whole.ensures.whole;
      begun = subst (λ (r : Running). IsBegun c.in-Ok.configuration (k.held a.keeper) (k.faults a.keeper)
          r.machine.start)
          (sym c.new.ensures) c.in-Ok-begun.ensures.begun;
      runs = run.ensures.runs;
      stored = run.ensures.stored;
      counts = run.ensures.counts;
    })
    c.in-Ok.ensures.later c.in-Ok-read_whole.ensures.later run.ensures.later
