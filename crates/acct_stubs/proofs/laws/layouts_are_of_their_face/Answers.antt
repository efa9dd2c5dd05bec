-- Each operation's layout is shared or its interface's own, by the tables.
use Rattle.acct_stubs.proofs.Shared.{layouts_of_their_face}
use Rattle.acct_stubs.proofs.laws.layouts_are_of_their_face.Goals as goal

pub returns : goal.returns
returns c = layouts_of_their_face
