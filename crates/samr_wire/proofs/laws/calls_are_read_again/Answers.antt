-- A call of SAMR that is written is read again as that call, as with every lawful interface.
use Rattle.acct_stubs.proofs.CallLaws.{read_again}
use Rattle.samr_wire.specs.Interface.{samr}
use Rattle.samr_wire.specs.Lawful.{samr_lawful}
use Rattle.samr_wire.proofs.laws.calls_are_read_again.Goals as goal

pub returns : goal.returns
returns c = read_again samr samr_lawful
