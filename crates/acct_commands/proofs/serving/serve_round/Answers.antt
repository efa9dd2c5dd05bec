-- What `serve_round` served is one round: as many doors as before, of listeners there are, and the end isn't usage.
use Rattle.std.proofs.Common.{arith, refl, sym, subst, length, ◌<◌, true}
use Rattle.acct_server.specs.Beside.{TellingBeside}
use Rattle.acct_commands.specs.Commanded.{period_between}
use Rattle.acct_commands.specs.Serving.{Round}
use Rattle.acct_commands.proofs.Periods.{round-of, served-as, handed-on, doors-stay, listeners-stay}
use Rattle.acct_commands.proofs.Periods.{period-not-usage}
use Rattle.acct_commands.proofs.Usages.{kept-not-usage}
use Rattle.acct_commands.proofs.serving.serve_round.Goals as goal

pub returns : goal.returns
returns g c =
    let w = g.W.World in
    let telling : TellingBeside _ _ _ _ = record {
      serving = record {
        door = g.W.E.D.Door;
        told = g.W.E.D.L.Link.told;
        pairs = g.W.K.Keeper.held;
        faults = g.W.K.Keeper.faults;
      };
      spawner = g.W.P.Spawner;
    } in
    let config = c.args.config.now in
    let before = c.args.doors.now.items in
    let period_served = c.serve_period-served in
    let now = period_served.new.doors.items in
    let left = period_served.result.0 in
    let spawner = period_served.result.1 in
    let p = c.parted_served-ended.ensures in
    let serves = period_served.ensures in
    let round : Round _ _ _ = record { doors = now; left = left; spawner = spawner; kept = true } in
    let but = served-as telling config c.serving_with_hooks_serves.ensures.serves config.hook before c.args.keeper
    c.args.spawner round serves in
    let kept = rw (p.period, p.status) at c.keep.ensures in
    let period = period_between left.opening left.history left.rows left.ends in
    let old = w.seen c.args.world.now in
    let new = w.seen c.keep.new.world in
    let one = round-of telling config before now c.args.keeper c.args.spawner spawner left old new c.keep.result period
    refl serves kept.periods kept.others in
    record {
      runs = rw p.keeper one;
      few = let stay = doors-stay telling.serving config before now c.args.keeper (record left { status = but.status })
          but.serves in
          let had = c.args.doors.now.ok.0 in
          let has = period_served.new.doors.ok.0 in let most = c.requires.few in omega arith;
      configured = λ i d lt. listeners-stay telling.serving config before now c.args.keeper
          (record left { status = but.status }) (length config.listeners) but.serves
          (λ j e less. c.requires.configured j e (subst (λ n. j < n) (sym c.args.doors.now.ok.0) less)) i d
          (subst (λ n. i < n) period_served.new.doors.ok.0 lt);
      handed = handed-on telling config config.hook before c.args.keeper c.args.spawner round serves
          c.requires.handed;
      not_usage = kept-not-usage old new period left.status c.keep.result kept.periods
          (period-not-usage telling config config.hook before c.args.keeper c.args.spawner round serves);
    }
