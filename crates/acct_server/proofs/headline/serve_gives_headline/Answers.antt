-- What serving promises comes to the headline.
use Rattle.acct_server.proofs.Promising.{serve-comes-to}
use Rattle.acct_server.proofs.headline.serve_gives_headline.Goals as goal

pub returns : goal.returns
returns g c = λ config before now keeper left is some. serve-comes-to (record {
  door = g.D.Door;
  told = g.D.L.Link.told;
  pairs = g.K.Keeper.held;
  faults = g.K.Keeper.faults;
}) config before now keeper left c.each_call_has_a_reply.ensures is some
