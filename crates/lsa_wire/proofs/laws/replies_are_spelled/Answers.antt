-- A stub is read exactly as the one reply of LSA that it spells; these, if they refer rightly, are all of a shape.
use Rattle.acct_stubs.proofs.ReplyLaws.{one_reply, read_where_spelled, the_spelled_replies}
use Rattle.lsa_wire.specs.Lawful.{lsa_lawful}
use Rattle.lsa_wire.specs.Interface.{lsa}
use Rattle.lsa_wire.proofs.laws.replies_are_spelled.Goals as goal

pub returns-clause-read : goal.returns-clause-read
returns-clause-read c = read_where_spelled lsa

pub returns-clause-one : goal.returns-clause-one
returns-clause-one c = one_reply lsa

pub returns-clause-all : goal.returns-clause-all
returns-clause-all c = the_spelled_replies lsa lsa_lawful
