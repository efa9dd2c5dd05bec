-- `drain_parts` gives back the spawner, the keeper and the source as draining left them.
use Rattle.acct_commands.proofs.Hookings.{gave-back}
use Rattle.acct_commands.proofs.hooking.drain_parts.Goals as goal

pub returns : goal.returns
returns g c =
    let s = g.W.S.Source in
    let k = g.W.K.Keeper in
    let w = g.W.World in
    let r = c.drain_store-status in
    record {
      returns = gave-back (record {
        left = s.left;
        read_faults = s.faults;
        hooks = record {
          pairs = k.held;
          faults = k.faults;
          runs = g.W.P.Spawner.runs;
          failed = g.W.P.Spawner.failed;
        };
      }) (record { config = c.args.config.now; store = c.args.store.now })
          (record { config = c.args.source; keeper = c.args.keeper; spawner = c.args.spawner })
          (record { config = r.new.source; keeper = r.result.1; spawner = r.new.spawner })
          (w.seen c.args.world.now) (w.seen c.give_spawner.new.self) (w.seen c.give_keeper.new.self)
          (w.seen c.give_source.new.self) r.result.0 r.ensures.leaves c.give_spawner.ensures.gives
          c.give_keeper.ensures.gives c.give_source.ensures.gives;
      not_usage = r.ensures.not_usage;
    }
