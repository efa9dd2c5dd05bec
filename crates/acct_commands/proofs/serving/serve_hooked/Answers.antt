-- What runs programs was taken and is given back, or it was refused and nothing was served.
use Rattle.std.proofs.Common.{[], Some, subst}
use Rattle.acct_commands.specs.Serving.{ServeParts}
use Rattle.acct_commands.specs.steps.Rounds.{RunsOpened}
use Rattle.acct_commands.proofs.Servings.{ran-beside, spawner-refused}
use Rattle.acct_commands.proofs.serving.serve_hooked.Goals as goal

pub returns-in-Err-clause-runs : goal.returns-in-Err-clause-runs
returns-in-Err-clause-runs g c = λ first now spelled.
    let a = c.args in
    spawner-refused (record {
      left = g.W.S.Source.left;
      read_faults = g.W.S.Source.faults;
      asked = g.W.E.Entrance.asked;
      entrance_faults = g.W.E.Entrance.faults;
      served = record {
        serving = record {
          door = g.W.E.D.Door;
          told = g.W.E.D.L.Link.told;
          pairs = g.W.K.Keeper.held;
          faults = g.W.K.Keeper.faults;
        };
        spawner = g.W.P.Spawner;
      };
    }) a.config.now first now a.keeper a.entrance.now a.doors.now.items
    (g.W.World.seen a.world.now) (g.W.World.seen c.take_spawner.new.self) c.in-Err.e c.spawn_status.result
    c.requires.none c.spawn_status.ensures c.requires.hook c.in-Err.ensures.takes spelled

pub returns-clause-runs : goal.returns-clause-runs
returns-clause-runs g c = λ first now spelled.
    let a = c.args in
    let opened = c.serve_opened-status in
    let before : ServeParts _ _ _ _ = record { config = first; keeper = a.keeper; entrance = a.entrance.now; doors = [] } in
    let after : ServeParts _ _ _ _ = record {
      config = now;
      keeper = opened.result.1;
      entrance = opened.new.entrance;
      doors = opened.new.doors.items;
    } in
    ran-beside (record {
      left = g.W.S.Source.left;
      read_faults = g.W.S.Source.faults;
      asked = g.W.E.Entrance.asked;
      entrance_faults = g.W.E.Entrance.faults;
      served = record {
        serving = record {
          door = g.W.E.D.Door;
          told = g.W.E.D.L.Link.told;
          pairs = g.W.K.Keeper.held;
          faults = g.W.K.Keeper.faults;
        };
        spawner = g.W.P.Spawner;
      };
    }) a.config.now before after c.in-Ok.spawner c.in-Some.spawner (g.W.World.seen a.world.now)
    (g.W.World.seen c.take_spawner.new.self) (g.W.World.seen opened.new.world)
    (g.W.World.seen c.give_spawner.new.self) opened.result.0 c.requires.hook c.in-Ok.ensures.takes spelled
    (subst (λ back. RunsOpened (record {
      left = g.W.S.Source.left;
      read_faults = g.W.S.Source.faults;
      asked = g.W.E.Entrance.asked;
      entrance_faults = g.W.E.Entrance.faults;
      served = record {
        serving = record {
          door = g.W.E.D.Door;
          told = g.W.E.D.L.Link.told;
          pairs = g.W.K.Keeper.held;
          faults = g.W.K.Keeper.faults;
        };
        spawner = g.W.P.Spawner;
      };
    }) a.config.now before after (Some c.in-Ok.spawner) back
    (g.W.World.seen c.take_spawner.new.self) (g.W.World.seen opened.new.world) opened.result.0) c.in-Some.is
    (opened.ensures.runs first now)) c.give_spawner.ensures.gives
