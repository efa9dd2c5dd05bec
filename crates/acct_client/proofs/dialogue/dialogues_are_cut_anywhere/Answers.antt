-- A dialogue may hear the peer's stream in pieces: what is decided of a stream stays, and the stream may be cut.
use Rattle.acct_client.proofs.Running.{spoken_in_pieces_is}
use Rattle.acct_client.proofs.dialogue.dialogues_are_cut_anywhere.Goals as goal

pub returns : goal.returns
returns c = spoken_in_pieces_is c.front_is_stable.ensures c.streams_are_cut_anywhere.ensures
