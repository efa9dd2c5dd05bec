-- Where nothing failed outside, draining comes to its end.
use Rattle.acct_server.proofs.Draining.{draining-ends}
use Rattle.acct_server.proofs.hooking.hooks_are_complete.Goals as goal

pub returns : goal.returns
returns g c = λ config hook before after status is quiet. draining-ends (record {
  pairs = g.K.Keeper.held;
  faults = g.K.Keeper.faults;
  runs = g.P.Spawner.runs;
  failed = g.P.Spawner.failed;
}) config hook before after status is quiet
