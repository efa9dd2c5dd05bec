-- A replay of the generated events is one over their sources in memory and a keeper that holds no pair.
use Rattle.std.proofs.Common.{refl}
use Rattle.acct_commands.proofs.Summarizing.{left-by-replay}
use Rattle.acct_commands.proofs.generating.replay_generated.Goals as goal

pub returns : goal.returns
returns c =
    let left = c.replay in
    left-by-replay c.args.users
    (record { config = c.in-Ok.config; events = c.in-Ok-events.events; out = record {}; keeper = c.new.result })
    (record { config = left.new.config; events = left.new.events; out = left.new.out; keeper = left.result.keeper })
    left.result c.in-Ok.ensures c.in-Ok-events.ensures.events c.new.ensures refl
    c.in-Ok-events.ensures.accepted left.ensures
