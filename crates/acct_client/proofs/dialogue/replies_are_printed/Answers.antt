-- Lines printed over the bytes of replies are those of the replies, since what is written is read back the same.
use Rattle.acct_client.proofs.Serving.{prints_replies_is}
use Rattle.acct_client.proofs.dialogue.replies_are_printed.Goals as goal

pub returns : goal.returns
returns c = prints_replies_is (record {
  stable = c.front_is_stable.ensures;
  back = c.written_is_read_back.ensures;
  brings = c.replies_bring_stubs.ensures;
  samr_again = c.replies_are_read_again.ensures;
  lsa_again = c.replies_are_read_again-2.ensures;
})
