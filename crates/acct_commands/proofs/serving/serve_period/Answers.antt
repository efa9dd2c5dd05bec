-- With the hook that the configuration has, or without one.
use Rattle.std.proofs.Common.{refl, sym, subst, true}
use Rattle.acct_commands.proofs.Periods.{PeriodBy}
use Rattle.acct_commands.proofs.serving.serve_period.Goals as goal

pub returns-in-None : goal.returns-in-None
returns-in-None g c =
    let a = c.args in
    subst (λ o. PeriodBy (record {
      serving = record {
        door = g.D.Door;
        told = g.D.L.Link.told;
        pairs = g.K.Keeper.held;
        faults = g.K.Keeper.faults;
      };
      spawner = g.P.Spawner;
    }) a.config.now o a.doors.now.items a.keeper a.spawner
    (record { doors = c.serve.new.doors.items; left = c.serve.result; spawner = a.spawner; kept = true }))
    (sym c.in-None.is) (record { serves = c.serve.ensures; spawner_same = refl })
