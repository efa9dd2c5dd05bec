-- A stub that fits a fragment is brought by the one PDU that `write_pdu` writes.
use Rattle.acct_client.proofs.Parts.{one_pdu_is}
use Rattle.acct_client.proofs.requests.short_stubs_are_one_pdu.Goals as goal

pub returns : goal.returns
returns c = one_pdu_is
