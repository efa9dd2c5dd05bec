-- `run_generator` is refused the sink, or generates, has the period kept and returns the sink; no status is usage.
use Rattle.std.proofs.Common.{[], inl, inr}
use Rattle.acct_commands.specs.Commanded.{period_between}
use Rattle.acct_commands.proofs.Generations.{has-generated}
use Rattle.acct_commands.proofs.Usages.{kept-not-usage, refused-not-usage}
use Rattle.acct_commands.proofs.Worlds.{sink-refused}
use Rattle.acct_commands.proofs.command.run_generator.Goals as goal

pub returns-in-Err : goal.returns-in-Err
returns-in-Err g c =
    let w = g.W.World in
    let fails = sink-refused [] (w.seen c.args.world.now) (w.seen c.take_sink.new.self) c.in-Err.e
    c.write_status.result c.in-Err.ensures.takes c.write_status.ensures in
    record { generated = inl fails; not_usage = refused-not-usage _ _ _ _ fails }

pub returns : goal.returns
returns g c =
    let t = g.W.T.Sink in
    let w = g.W.World in
    let done = c.generate-ended.result in
    let kept = rw (c.period_between-period.ensures, c.new.ensures) at c.keep-status.ensures in
    record {
      generated = inr (has-generated t.held t.faults c.args.users (w.seen c.args.world.now)
          (w.seen c.take_sink.new.self) (w.seen c.keep-status.new.world) (w.seen c.give_sink.new.self) c.in-Ok.out
          c.generate-ended.new.out done c.keep-status.result c.in-Ok.ensures.takes c.generate-ended.ensures.is kept
          c.give_sink.ensures.gives);
      not_usage = kept-not-usage (w.seen c.take_sink.new.self) (w.seen c.keep-status.new.world)
          (period_between done.opening done.history done.rows []) done.ended c.keep-status.result
          kept.periods c.generate-ended.ensures.not_usage;
    }
