-- `run_audit_parts` has the period kept, and then gives back the keeper, the sink and both sources as the audit left
-- them.
use Rattle.acct_commands.specs.Commanded.{auditing}
use Rattle.acct_commands.proofs.Worlds.{returned}
use Rattle.acct_commands.proofs.command.run_audit_parts.Goals as goal

pub returns : goal.returns
returns g c =
    let s = g.W.S.Source in
    let t = g.W.T.Sink in
    let k = g.W.K.Keeper in
    let w = g.W.World in
    let r = c.audit-ended in
    returned (auditing (record {
      left = s.left;
      read_faults = s.faults;
      held = t.held;
      write_faults = t.faults;
      pairs = k.held;
      store_faults = k.faults;
    })) c.args.name.now
    (record { config = c.args.config; events = c.args.events; out = c.args.out; keeper = c.args.keeper })
    (record { config = r.new.config; events = r.new.events; out = r.new.out; keeper = r.result.keeper })
    (w.seen c.args.world.now) (w.seen c.keep-status.new.world) (w.seen c.give_keeper.new.self)
    (w.seen c.give_sink.new.self) (w.seen c.give_source.new.self) (w.seen c.give_source-2.new.self) r.result
    c.keep-status.result c.requires r.ensures
    (rw (c.period_between-period.ensures, c.new.ensures) at c.keep-status.ensures)
    c.give_keeper.ensures.gives c.give_sink.ensures.gives c.give_source.ensures.gives
    c.give_source-2.ensures.gives
