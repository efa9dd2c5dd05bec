-- Serving with a hook is serving but for its status, and comes to its end where no run failed besides.
use Rattle.acct_server.proofs.Besides.{serves-as-well, headline-beside, complete-beside}
use Rattle.acct_server.proofs.beside.serving_with_hooks_serves.Goals as goal

pub returns-clause-serves : goal.returns-clause-serves
returns-clause-serves g c = λ config hook before now keeper spawner left after is. serves-as-well (record {
  serving = record {
    door = g.D.Door;
    told = g.D.L.Link.told;
    pairs = g.K.Keeper.held;
    faults = g.K.Keeper.faults;
  };
  spawner = g.P.Spawner;
}) config hook before now keeper spawner left after is

pub returns-clause-headline : goal.returns-clause-headline
returns-clause-headline g c = λ config hook before now keeper spawner left after is some. headline-beside (record {
  serving = record {
    door = g.D.Door;
    told = g.D.L.Link.told;
    pairs = g.K.Keeper.held;
    faults = g.K.Keeper.faults;
  };
  spawner = g.P.Spawner;
}) c.serve_gives_headline.ensures config hook before now keeper spawner left after is some

pub returns-clause-complete : goal.returns-clause-complete
returns-clause-complete g c = λ config hook before now keeper spawner left after is quiet still.
    complete-beside (record {
      serving = record {
        door = g.D.Door;
        told = g.D.L.Link.told;
        pairs = g.K.Keeper.held;
        faults = g.K.Keeper.faults;
      };
      spawner = g.P.Spawner;
    }) c.serving_is_complete.ensures config hook before now keeper spawner left after is quiet still
