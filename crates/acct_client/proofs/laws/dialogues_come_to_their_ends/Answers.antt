-- A dialogue whose link doesn't fail and brings all answers comes to the last of them, unless memory runs out.
use Rattle.acct_client.proofs.Completing.{comes_to_its_end}
use Rattle.acct_client.proofs.laws.dialogues_come_to_their_ends.Goals as goal

pub returns : goal.returns
returns c = comes_to_its_end c.dialogues_are_cut_anywhere.ensures
