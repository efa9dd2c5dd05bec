-- Where the configuration isn't taken or has no program the parts are untouched, and else the outbox is drained.
use Rattle.std.proofs.Common.{inl, refl}
use Rattle.acct_commands.proofs.Hookings.{drained-with, outbox-not-usage}
use Rattle.acct_commands.proofs.hooking.drain_store.Goals as goal

pub returns-in-Err : goal.returns-in-Err
returns-in-Err g c =
    let leaves = inl (record { cause = c.in-Err.ensures.cause; others = refl }) in
    record { leaves = leaves; not_usage = outbox-not-usage _ _ _ _ leaves }

pub returns : goal.returns
returns g c =
    let k = g.K.Keeper in
    let p = g.P.Spawner in
    let a = c.args in
    let config = c.in-Ok.config in
    let left = c.drain_with-left in
    let leaves = drained-with (record {
      left = g.S.Source.left;
      read_faults = g.S.Source.faults;
      hooks = record { pairs = k.held; faults = k.faults; runs = p.runs; failed = p.failed };
    }) config config.hook (record { config = a.source.now; keeper = a.keeper; spawner = a.spawner.now })
    (record { config = c.read_configuration.new.source; keeper = left.result.1; spawner = left.new.spawner })
    left.result.0 refl
    (record { configured = c.in-Ok.ensures.configured; short = c.in-Ok.ensures.short }) left.ensures in
    record { leaves = leaves; not_usage = outbox-not-usage _ _ _ _ leaves }
