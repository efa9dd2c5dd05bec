-- Where `run_outbox` is refused a part, it returns what it took, and else it has drained; its status isn't usage.
use Rattle.std.proofs.Common.{◌∷◌, [], inl, inr}
use Rattle.acct_world.specs.declared.part.Part.TheVariants.{Keeper, Spawner}
use Rattle.acct_commands.proofs.Hookings.{has-hooked}
use Rattle.acct_commands.proofs.Usages.{refused-not-usage}
use Rattle.acct_commands.proofs.Worlds.{source-refused, keeper-refused, spawner-refused, source-back, keeper-back}
use Rattle.acct_commands.proofs.hooking.run_outbox.Goals as goal

pub returns-in-Err : goal.returns-in-Err
returns-in-Err g c =
    let w = g.W.World in
    let fails = source-refused c.args.config.now (Keeper c.args.store.now ∷ Spawner ∷ []) (w.seen c.args.world.now)
    (w.seen c.take_source.new.self) c.in-Err.e c.read_status.result c.in-Err.ensures.takes c.read_status.ensures in
    record { hooks = inl fails; not_usage = refused-not-usage _ _ _ _ fails }

pub returns-in-Err-take_keeper : goal.returns-in-Err-take_keeper
returns-in-Err-take_keeper g c =
    let w = g.W.World in
    let status = c.store_status in
    let fails = source-back c.args.config.now (Keeper c.args.store.now ∷ Spawner ∷ []) (w.seen c.args.world.now)
    (w.seen c.take_source.new.self) (w.seen c.take_keeper.new.self) (w.seen c.give_source.new.self) c.in-Ok.source
    status.result c.in-Ok.ensures.takes
    (keeper-refused g.W.K.Keeper.held c.args.store.now (Spawner ∷ []) (w.seen c.take_source.new.self)
    (w.seen c.take_keeper.new.self) c.in-Err-take_keeper.e status.result c.in-Err-take_keeper.ensures.takes
    status.ensures) c.give_source.ensures.gives in
    record { hooks = inl fails; not_usage = refused-not-usage _ _ _ _ fails }

pub returns-in-Err-take_spawner : goal.returns-in-Err-take_spawner
returns-in-Err-take_spawner g c =
    let w = g.W.World in
    let status = c.spawn_status in
    let store = c.give_keeper in
    let source = c.give_source-in-Err-take_spawner in
    let fails = source-back c.args.config.now (Keeper c.args.store.now ∷ Spawner ∷ []) (w.seen c.args.world.now)
    (w.seen c.take_source.new.self) (w.seen store.new.self) (w.seen source.new.self) c.in-Ok.source status.result
    c.in-Ok.ensures.takes
    (keeper-back g.W.K.Keeper.held c.args.store.now (Spawner ∷ []) (w.seen c.take_source.new.self)
    (w.seen c.take_keeper.new.self) (w.seen c.take_spawner.new.self) (w.seen store.new.self)
    c.in-Ok-take_keeper.keeper status.result c.in-Ok-take_keeper.ensures.takes
    (spawner-refused [] (w.seen c.take_keeper.new.self) (w.seen c.take_spawner.new.self)
    c.in-Err-take_spawner.e status.result c.in-Err-take_spawner.ensures.takes status.ensures)
    store.ensures.gives) source.ensures.gives in
    record { hooks = inl fails; not_usage = refused-not-usage _ _ _ _ fails }

pub returns : goal.returns
returns g c =
    let s = g.W.S.Source in
    let k = g.W.K.Keeper in
    let w = g.W.World in
    let hooks = has-hooked (record {
      left = s.left;
      read_faults = s.faults;
      hooks = record {
        pairs = k.held;
        faults = k.faults;
        runs = g.W.P.Spawner.runs;
        failed = g.W.P.Spawner.failed;
      };
    }) (record { config = c.args.config.now; store = c.args.store.now })
    (w.seen c.args.world.now) (w.seen c.take_source.new.self) (w.seen c.take_keeper.new.self)
    (w.seen c.take_spawner.new.self) (w.seen c.drain_parts.new.world) c.in-Ok.source c.in-Ok-take_keeper.keeper
    c.in-Ok-take_spawner.spawner c.drain_parts.result c.in-Ok.ensures.takes c.in-Ok-take_keeper.ensures.takes
    c.in-Ok-take_spawner.ensures.takes c.hooks_are_complete.ensures c.drain_parts.ensures.returns in
    record { hooks = inr hooks; not_usage = c.drain_parts.ensures.not_usage }
