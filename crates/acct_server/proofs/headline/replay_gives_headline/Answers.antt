-- What a replay promises comes to the headline.
use Rattle.acct_server.proofs.Promising.{replay-comes-to}
use Rattle.acct_server.proofs.headline.replay_gives_headline.Goals as goal

pub returns : goal.returns
returns g c = λ old new left is some. replay-comes-to (record {
  left = g.S.Source.left;
  read_faults = g.S.Source.faults;
  held = g.T.Sink.held;
  write_faults = g.T.Sink.faults;
  pairs = g.K.Keeper.held;
  store_faults = g.K.Keeper.faults;
}) old new left is some
