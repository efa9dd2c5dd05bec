-- The configuration that was read is the one that its source spells.
use Rattle.std.proofs.Common.{sym, subst}
use Rattle.acct_commands.specs.steps.Rounds.{RunsParts}
use Rattle.acct_commands.proofs.Servings.{not-configured}
use Rattle.acct_commands.proofs.serving.serve_configured.Goals as goal

pub returns-clause-runs : goal.returns-clause-runs
returns-clause-runs g c =
    let a = c.args in
    let served = c.serve_under-served in
    subst (λ ds. RunsParts (record {
      left = g.W.S.Source.left;
      read_faults = g.W.S.Source.faults;
      asked = g.W.E.Entrance.asked;
      entrance_faults = g.W.E.Entrance.faults;
      served = record {
        serving = record {
          door = g.W.E.D.Door;
          told = g.W.E.D.L.Link.told;
          pairs = g.W.K.Keeper.held;
          faults = g.W.K.Keeper.faults;
        };
        spawner = g.W.P.Spawner;
      };
    })
    (record { config = a.source.now; keeper = a.keeper; entrance = a.entrance.now; doors = ds })
    (record {
      config = c.read_configuration.new.source;
      keeper = served.result.1;
      entrance = served.new.entrance;
      doors = served.new.doors.items;
    }) (g.W.World.seen a.world.now) (g.W.World.seen served.new.world) served.result.0) (sym c.requires.none)
    (served.ensures.runs a.source.now c.read_configuration.new.source
    (record { configured = c.in-Ok.ensures.configured; short = c.in-Ok.ensures.short }))

pub returns-in-Err-clause-runs : goal.returns-in-Err-clause-runs
returns-in-Err-clause-runs g c =
    let a = c.args in
    not-configured (record {
      left = g.W.S.Source.left;
      read_faults = g.W.S.Source.faults;
      asked = g.W.E.Entrance.asked;
      entrance_faults = g.W.E.Entrance.faults;
      served = record {
        serving = record {
          door = g.W.E.D.Door;
          told = g.W.E.D.L.Link.told;
          pairs = g.W.K.Keeper.held;
          faults = g.W.K.Keeper.faults;
        };
        spawner = g.W.P.Spawner;
      };
    }) a.source.now c.read_configuration.new.source a.keeper a.entrance.now a.doors.now.items
    (g.W.World.seen a.world.now) c.in-Err.status c.requires.none c.in-Err.ensures.cause
