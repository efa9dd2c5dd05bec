-- Without a hook nothing runs programs.
use Rattle.std.proofs.Common.{[]}
use Rattle.acct_commands.proofs.Servings.{ran-alone}
use Rattle.acct_commands.proofs.serving.serve_under.Goals as goal

pub returns-in-None-clause-runs : goal.returns-in-None-clause-runs
returns-in-None-clause-runs g c = λ first now spelled.
    let opened = c.serve_opened-status in
    ran-alone (record {
      left = g.W.S.Source.left;
      read_faults = g.W.S.Source.faults;
      asked = g.W.E.Entrance.asked;
      entrance_faults = g.W.E.Entrance.faults;
      served = record {
        serving = record {
          door = g.W.E.D.Door;
          told = g.W.E.D.L.Link.told;
          pairs = g.W.K.Keeper.held;
          faults = g.W.K.Keeper.faults;
        };
        spawner = g.W.P.Spawner;
      };
    }) c.args.config.now
    (record { config = first; keeper = c.args.keeper; entrance = c.args.entrance.now; doors = [] })
    (record {
      config = now;
      keeper = opened.result.1;
      entrance = opened.new.entrance;
      doors = opened.new.doors.items;
    }) opened.result.2 (g.W.World.seen c.args.world.now) (g.W.World.seen opened.new.world) opened.result.0 c.in-None.is
    opened.ensures.handed spelled (opened.ensures.runs first now)
