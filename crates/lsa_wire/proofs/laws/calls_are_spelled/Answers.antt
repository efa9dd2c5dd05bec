-- A served stub is read exactly as the one call of LSA that it spells, and these are all that can be written.
use Rattle.acct_stubs.proofs.CallLaws.{one_call, read_where_spelled, the_spelled_calls}
use Rattle.lsa_wire.specs.Lawful.{lsa_lawful}
use Rattle.lsa_wire.specs.Interface.{lsa}
use Rattle.lsa_wire.proofs.laws.calls_are_spelled.Goals as goal

pub returns-clause-read : goal.returns-clause-read
returns-clause-read c = read_where_spelled lsa

pub returns-clause-one : goal.returns-clause-one
returns-clause-one c = one_call lsa

pub returns-clause-all : goal.returns-clause-all
returns-clause-all c = the_spelled_calls lsa lsa_lawful
