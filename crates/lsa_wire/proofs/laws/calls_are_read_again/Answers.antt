-- A call of LSA that is written is read again as that call, as with every lawful interface.
use Rattle.acct_stubs.proofs.CallLaws.{read_again}
use Rattle.lsa_wire.specs.Lawful.{lsa_lawful}
use Rattle.lsa_wire.specs.Interface.{lsa}
use Rattle.lsa_wire.proofs.laws.calls_are_read_again.Goals as goal

pub returns : goal.returns
returns c = read_again lsa lsa_lawful
