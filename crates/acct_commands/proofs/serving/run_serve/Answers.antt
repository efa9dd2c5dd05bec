-- Where `run_serve` is refused a part, it returns what it took, and else it has served; its status isn't usage.
use Rattle.std.proofs.Common.{◌∷◌, [], inl, inr}
use Rattle.acct_world.specs.declared.part.Part.TheVariants.{Keeper, Entrance}
use Rattle.acct_commands.proofs.Servings.{has-served}
use Rattle.acct_commands.proofs.Usages.{refused-not-usage}
use Rattle.acct_commands.proofs.Worlds.{source-refused, keeper-refused, entrance-refused, source-back, keeper-back}
use Rattle.acct_commands.proofs.serving.run_serve.Goals as goal

pub returns-in-Err : goal.returns-in-Err
returns-in-Err g c =
    let w = g.W.World in
    let fails = source-refused c.args.config.now (Keeper c.args.store.now ∷ Entrance ∷ []) (w.seen c.args.world.now)
    (w.seen c.take_source.new.self) c.in-Err.e c.read_status.result c.in-Err.ensures.takes c.read_status.ensures in
    record { serves = inl fails; not_usage = refused-not-usage _ _ _ _ fails }

pub returns-in-Err-take_keeper : goal.returns-in-Err-take_keeper
returns-in-Err-take_keeper g c =
    let w = g.W.World in
    let status = c.store_status in
    let fails = source-back c.args.config.now (Keeper c.args.store.now ∷ Entrance ∷ []) (w.seen c.args.world.now)
    (w.seen c.take_source.new.self) (w.seen c.take_keeper.new.self) (w.seen c.give_source.new.self) c.in-Ok.source
    status.result c.in-Ok.ensures.takes
    (keeper-refused g.W.K.Keeper.held c.args.store.now (Entrance ∷ []) (w.seen c.take_source.new.self)
    (w.seen c.take_keeper.new.self) c.in-Err-take_keeper.e status.result c.in-Err-take_keeper.ensures.takes
    status.ensures) c.give_source.ensures.gives in
    record { serves = inl fails; not_usage = refused-not-usage _ _ _ _ fails }

pub returns-in-Err-take_entrance : goal.returns-in-Err-take_entrance
returns-in-Err-take_entrance g c =
    let w = g.W.World in
    let status = c.door_status in
    let store = c.give_keeper in
    let source = c.give_source-in-Err-take_entrance in
    let fails = source-back c.args.config.now (Keeper c.args.store.now ∷ Entrance ∷ []) (w.seen c.args.world.now)
    (w.seen c.take_source.new.self) (w.seen store.new.self) (w.seen source.new.self) c.in-Ok.source status.result
    c.in-Ok.ensures.takes
    (keeper-back g.W.K.Keeper.held c.args.store.now (Entrance ∷ []) (w.seen c.take_source.new.self)
    (w.seen c.take_keeper.new.self) (w.seen c.take_entrance.new.self) (w.seen store.new.self)
    c.in-Ok-take_keeper.keeper status.result c.in-Ok-take_keeper.ensures.takes
    (entrance-refused [] (w.seen c.take_keeper.new.self) (w.seen c.take_entrance.new.self)
    c.in-Err-take_entrance.e status.result c.in-Err-take_entrance.ensures.takes status.ensures)
    store.ensures.gives) source.ensures.gives in
    record { serves = inl fails; not_usage = refused-not-usage _ _ _ _ fails }

pub returns : goal.returns
returns g c =
    let s = g.W.S.Source in
    let k = g.W.K.Keeper in
    let e = g.W.E.Entrance in
    let w = g.W.World in
    let serves = has-served (record {
      left = s.left;
      read_faults = s.faults;
      asked = e.asked;
      entrance_faults = e.faults;
      served = record {
        serving = record { door = g.W.E.D.Door; told = g.W.E.D.L.Link.told; pairs = k.held; faults = k.faults };
        spawner = g.W.P.Spawner;
      };
    }) (record { config = c.args.config.now; store = c.args.store.now })
    (w.seen c.args.world.now) (w.seen c.take_source.new.self) (w.seen c.take_keeper.new.self)
    (w.seen c.take_entrance.new.self) (w.seen c.serve_parts.new.world) c.in-Ok.source c.in-Ok-take_keeper.keeper
    c.in-Ok-take_entrance.entrance c.serve_parts.result c.in-Ok.ensures.takes c.in-Ok-take_keeper.ensures.takes
    c.in-Ok-take_entrance.ensures.takes c.serving_is_complete.ensures c.serving_with_hooks_serves.ensures.complete
    c.serve_parts.ensures.returns in
    record { serves = inr serves; not_usage = c.serve_parts.ensures.not_usage }
