-- A reply of SAMR that is written is read again as that reply, as with every lawful interface.
use Rattle.acct_stubs.proofs.ReplyLaws.{read_again}
use Rattle.samr_wire.specs.Interface.{samr}
use Rattle.samr_wire.specs.Lawful.{samr_lawful}
use Rattle.samr_wire.proofs.laws.replies_are_read_again.Goals as goal

pub returns : goal.returns
returns c = read_again samr samr_lawful
