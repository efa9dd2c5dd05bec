-- Rows stay sound when a member row that keeps the rules is put, of a group and a user that are there.
use Rattle.acct_rows.proofs.Moves.{member_sound}
use Rattle.acct_rows.proofs.laws.members_stay_sound.Goals as goal

pub returns : goal.returns
returns c = member_sound
