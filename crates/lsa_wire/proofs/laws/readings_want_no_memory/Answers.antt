-- No stub of a call or a reply of LSA is read as out of memory, as with every lawful interface.
use Rattle.acct_stubs.proofs.Onward.{no_call_wants_memory, no_reply_wants_memory}
use Rattle.lsa_wire.specs.Lawful.{lsa_lawful}
use Rattle.lsa_wire.specs.Interface.{lsa}
use Rattle.lsa_wire.proofs.laws.readings_want_no_memory.Goals as goal

pub returns-clause-calls : goal.returns-clause-calls
returns-clause-calls c = no_call_wants_memory lsa lsa_lawful

pub returns-clause-replies : goal.returns-clause-replies
returns-clause-replies c = no_reply_wants_memory lsa lsa_lawful
