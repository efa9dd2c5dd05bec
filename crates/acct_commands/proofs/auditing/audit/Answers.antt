-- What `audit` leaves without a configuration, without events, and with its events replayed.
use Rattle.std.proofs.Common.{List, ℕ, Some, refl, sym, ◌∙◌, ap, subst}
use Rattle.acct_config.specs.Spelled.{IsSpelledBy}
use Rattle.acct_keeper.specs.Memory.{SteadyInMemory}
use Rattle.acct_server.specs.Leaves.{ConfigCause, EventsCause}
use Rattle.acct_server.specs.Replaying.{TellingReplay, Parts}
use Rattle.acct_server.specs.declared.status.Status.{Status}
use Rattle.acct_server.proofs.Configuring.{config-whole, config-rule, events-whole, told-spelled, told-short}
use Rattle.acct_server.proofs.Configuring.{breaks_none}
use Rattle.acct_commands.specs.Auditing.{in_memory}
use Rattle.acct_commands.proofs.Audits.{config-not-read, events-not-read, replay-traceable, has-audited}
use Rattle.acct_commands.proofs.auditing.audit.Goals as goal

pub returns-in-Err : goal.returns-in-Err
returns-in-Err g c =
    let s = g.S.Source in
    let a = c.args in
    let config = c.read_whole.new.source in
    let ends = c.not_audited in
    let telling : TellingReplay _ _ _ = record {
      left = s.left;
      read_faults = s.faults;
      held = g.T.Sink.held;
      write_faults = g.T.Sink.faults;
      pairs = g.K.Keeper.held;
      store_faults = g.K.Keeper.faults;
    } in
    let old : Parts _ _ _ =
    record { config = a.config.now; events = a.events.now; out = a.out.now; keeper = a.keeper } in
    let new : Parts _ _ _ =
    record { config = config; events = a.events.now; out = a.out.now; keeper = ends.result.keeper } in
    config-not-read telling old new ends.result ends.ensures.opening ends.ensures.history ends.ensures.rows
    refl refl ends.ensures.keeper
    (subst (λ (x : Status). ConfigCause (s.left a.config.now) (s.faults a.config.now) (s.faults config) x)
    (sym (ends.ensures.ended ∙ c.from.ensures))
    (config-whole (s.left a.config.now) (s.faults a.config.now) (s.faults config) c.in-Err.e c.in-Err.ensures.cause))
    c.in-Err.ensures.later

pub returns-in-Err-read_config : goal.returns-in-Err-read_config
returns-in-Err-read_config g c =
    let s = g.S.Source in
    let a = c.args in
    let config = c.read_whole.new.source in
    let ends = c.not_audited-in-Err-read_config in
    let whole = c.in-Ok.ensures.whole in
    let telling : TellingReplay _ _ _ = record {
      left = s.left;
      read_faults = s.faults;
      held = g.T.Sink.held;
      write_faults = g.T.Sink.faults;
      pairs = g.K.Keeper.held;
      store_faults = g.K.Keeper.faults;
    } in
    let old : Parts _ _ _ =
    record { config = a.config.now; events = a.events.now; out = a.out.now; keeper = a.keeper } in
    let new : Parts _ _ _ =
    record { config = config; events = a.events.now; out = a.out.now; keeper = ends.result.keeper } in
    config-not-read telling old new ends.result ends.ensures.opening ends.ensures.history ends.ensures.rows
    refl refl ends.ensures.keeper
    (subst (λ (x : Status). ConfigCause (s.left a.config.now) (s.faults a.config.now) (s.faults config) x)
    (sym (ends.ensures.ended ∙ c.from-in-Err-read_config.ensures))
    (config-rule (s.left a.config.now) (s.faults a.config.now) (s.faults config) c.in-Ok.document.items
    c.deref.result.now c.in-Err-read_config.e whole.all whole.within c.deref.ensures.value
    c.in-Err-read_config.ensures.rule))
    c.in-Ok.ensures.later

pub returns-in-Err-read_whole : goal.returns-in-Err-read_whole
returns-in-Err-read_whole g c =
    let s = g.S.Source in
    let a = c.args in
    let config = c.read_whole.new.source in
    let events = c.read_whole-2.new.source in
    let ends = c.not_audited-in-Err-read_whole in
    let whole = c.in-Ok.ensures.whole in
    let telling : TellingReplay _ _ _ = record {
      left = s.left;
      read_faults = s.faults;
      held = g.T.Sink.held;
      write_faults = g.T.Sink.faults;
      pairs = g.K.Keeper.held;
      store_faults = g.K.Keeper.faults;
    } in
    let old : Parts _ _ _ =
    record { config = a.config.now; events = a.events.now; out = a.out.now; keeper = a.keeper } in
    let new : Parts _ _ _ =
    record { config = config; events = events; out = a.out.now; keeper = ends.result.keeper } in
    events-not-read telling old new ends.result ends.ensures.opening ends.ensures.history ends.ensures.rows
    refl ends.ensures.keeper
    (breaks_none (s.left a.config.now) c.in-Ok-read_config.configuration (record {
      right = c.in-Ok-read_config.ensures.right;
      told = told-spelled (s.left a.config.now) c.in-Ok.document.items c.deref.result.now
          c.in-Ok-read_config.configuration whole.all c.deref.ensures.value c.in-Ok-read_config.ensures.spelled;
    }))
    (told-short (s.left a.config.now) c.in-Ok.document.items whole.all whole.within)
    (subst (λ (x : Status). EventsCause (s.left a.events.now) (s.faults a.events.now) (s.faults events) x)
    (sym (ends.ensures.ended ∙ c.from-in-Err-read_whole.ensures))
    (events-whole (s.left a.events.now) (s.faults a.events.now) (s.faults events) c.in-Err-read_whole.e
    c.in-Err-read_whole.ensures.cause))
    c.in-Ok.ensures.later c.in-Err-read_whole.ensures.later

pub finish-audited-requires-clause-traceable : goal.finish-audited-requires-clause-traceable
finish-audited-requires-clause-traceable g c =
    let left = c.replay-left in
    replay-traceable (in_memory (record {
      left = g.S.Source.left;
      read_faults = g.S.Source.faults;
      held = g.T.Sink.held;
      write_faults = g.T.Sink.faults;
      pairs = g.K.Keeper.held;
      store_faults = g.K.Keeper.faults;
    }))
    (record { config = c.new-document.result; events = c.new-bytes.result; out = record {}; keeper = c.args.keeper })
    (record {
      config = left.new.config;
      events = left.new.events;
      out = left.new.out;
      keeper = left.result.keeper;
    }) left.result c.in-Ok.document.items c.in-Ok-read_config.configuration
    (ap (λ (s : SteadyInMemory). Some s.left) c.new-document.ensures)
    (subst (λ (bs : List ℕ). IsSpelledBy bs c.in-Ok-read_config.configuration) c.deref.ensures.value
    c.in-Ok-read_config.ensures.spelled) left.ensures

pub returns : goal.returns
returns g c =
    let s = g.S.Source in
    let a = c.args in
    let left = c.replay-left in
    let ends = c.finish-audited in
    let document = c.in-Ok.document.items in
    let configuration = c.in-Ok-read_config.configuration in
    let telling : TellingReplay _ _ _ = record {
      left = s.left;
      read_faults = s.faults;
      held = g.T.Sink.held;
      write_faults = g.T.Sink.faults;
      pairs = g.K.Keeper.held;
      store_faults = g.K.Keeper.faults;
    } in
    let old : Parts _ _ _ =
    record { config = a.config.now; events = a.events.now; out = a.out.now; keeper = a.keeper } in
    let new : Parts _ _ _ = record {
      config = c.read_whole.new.source;
      events = c.read_whole-2.new.source;
      out = ends.new.out;
      keeper = ends.result.keeper;
    } in
    has-audited telling old new ends.result (record {
      config = configuration;
      document = document;
      events = c.in-Ok-read_whole.bytes.items;
      document_is = c.in-Ok.ensures.whole;
      events_are = c.in-Ok-read_whole.ensures.whole;
      configured = record {
        right = c.in-Ok-read_config.ensures.right;
        told = subst (λ (bs : List ℕ). IsSpelledBy bs configuration) c.deref.ensures.value
            c.in-Ok-read_config.ensures.spelled;
      };
      after = record {
        config = left.new.config;
        events = left.new.events;
        out = left.new.out;
        keeper = left.result.keeper;
      };
      replay = left.result;
      replayed = rw (c.new-document.ensures, c.new-bytes.ensures) at left.ensures;
      tells = ends.ensures.tells;
      opening = ends.ensures.opening;
      history = ends.ensures.history;
      rows = ends.ensures.rows;
      keeper = ends.ensures.keeper;
    }) c.in-Ok.ensures.later c.in-Ok-read_whole.ensures.later
