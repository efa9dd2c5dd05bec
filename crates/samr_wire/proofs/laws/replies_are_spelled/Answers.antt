-- A stub is read exactly as the one reply of SAMR that it spells, and these are all that have a shape.
use Rattle.acct_stubs.proofs.ReplyLaws.{one_reply, read_where_spelled, the_shared_replies}
use Rattle.samr_wire.specs.Interface.{samr}
use Rattle.samr_wire.specs.Lawful.{no_outputs, samr_lawful}
use Rattle.samr_wire.proofs.laws.replies_are_spelled.Goals as goal

pub returns-clause-read : goal.returns-clause-read
returns-clause-read c = read_where_spelled samr

pub returns-clause-one : goal.returns-clause-one
returns-clause-one c = one_reply samr

pub returns-clause-all : goal.returns-clause-all
returns-clause-all c = the_shared_replies samr samr_lawful no_outputs
