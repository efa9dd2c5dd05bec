-- Where nothing failed outside, serving comes to its end.
use Rattle.acct_server.proofs.Ends.{serving-ends}
use Rattle.acct_server.proofs.headline.serving_is_complete.Goals as goal

pub returns : goal.returns
returns g c = λ config before now keeper left is quiet. serving-ends (record {
  door = g.D.Door;
  told = g.D.L.Link.told;
  pairs = g.K.Keeper.held;
  faults = g.K.Keeper.faults;
}) before now keeper left config is quiet
