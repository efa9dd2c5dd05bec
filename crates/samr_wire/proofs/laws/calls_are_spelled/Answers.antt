-- A served stub is read exactly as the one call of SAMR that it spells, and these are all that can be written.
use Rattle.acct_stubs.proofs.CallLaws.{one_call, read_where_spelled, the_spelled_calls}
use Rattle.samr_wire.specs.Interface.{samr}
use Rattle.samr_wire.specs.Lawful.{samr_lawful}
use Rattle.samr_wire.proofs.laws.calls_are_spelled.Goals as goal

pub returns-clause-read : goal.returns-clause-read
returns-clause-read c = read_where_spelled samr

pub returns-clause-one : goal.returns-clause-one
returns-clause-one c = one_call samr

pub returns-clause-all : goal.returns-clause-all
returns-clause-all c = the_spelled_calls samr samr_lawful
