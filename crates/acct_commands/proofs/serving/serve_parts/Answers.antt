-- `serve_parts` begins without doors, and gives back the entrance, the keeper and the source as the run left them.
use Rattle.std.proofs.Common.{[], subst}
use Rattle.acct_commands.specs.steps.Rounds.{RunsParts}
use Rattle.acct_commands.proofs.Servings.{gave-back}
use Rattle.acct_commands.proofs.serving.serve_parts.Goals as goal

pub returns : goal.returns
returns g c =
    let s = g.W.S.Source in
    let k = g.W.K.Keeper in
    let e = g.W.E.Entrance in
    let w = g.W.World in
    let r = c.serve_configured-status in
    record {
      returns = gave-back (record {
        left = s.left;
        read_faults = s.faults;
        asked = e.asked;
        entrance_faults = e.faults;
        served = record {
          serving = record { door = g.W.E.D.Door; told = g.W.E.D.L.Link.told; pairs = k.held; faults = k.faults };
          spawner = g.W.P.Spawner;
        };
      }) (record { config = c.args.config.now; store = c.args.store.now })
          (record { config = c.args.source; keeper = c.args.keeper; entrance = c.args.entrance; doors = [] })
          (record {
            config = r.new.source;
            keeper = r.result.1;
            entrance = r.new.entrance;
            doors = r.new.doors.items;
          }) (w.seen c.args.world.now) (w.seen r.new.world) (w.seen c.give_entrance.new.self)
          (w.seen c.give_keeper.new.self) (w.seen c.give_source.new.self) r.result.0
          (subst (λ ds. RunsParts (record {
            left = s.left;
            read_faults = s.faults;
            asked = e.asked;
            entrance_faults = e.faults;
            served = record {
              serving = record { door = g.W.E.D.Door; told = g.W.E.D.L.Link.told; pairs = k.held; faults = k.faults };
              spawner = g.W.P.Spawner;
            };
          }) (record { config = c.args.source; keeper = c.args.keeper; entrance = c.args.entrance; doors = ds })
          (record {
            config = r.new.source;
            keeper = r.result.1;
            entrance = r.new.entrance;
            doors = r.new.doors.items;
          }) (w.seen c.args.world.now) (w.seen r.new.world) r.result.0) c.new-doors.ensures.items r.ensures.runs)
          c.give_entrance.ensures.gives c.give_keeper.ensures.gives c.give_source.ensures.gives;
      not_usage = r.ensures.not_usage;
    }
