-- A dialogue is that of the answers that the peer's PDUs bring.
use Rattle.acct_client.proofs.Spoken.{dialogues_are_of_answers_is}
use Rattle.acct_client.proofs.laws.dialogues_are_of_answers.Goals as goal

pub returns : goal.returns
returns c = dialogues_are_of_answers_is (record {
  stable = c.front_is_stable.ensures;
  exact = c.whole_is_exactly_a_pdu.ensures;
})
