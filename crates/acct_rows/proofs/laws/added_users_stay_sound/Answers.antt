-- Rows stay sound when a new user is added, with its row as a member of its primary group.
use Rattle.acct_rows.proofs.Moves.{added_user_sound}
use Rattle.acct_rows.proofs.laws.added_users_stay_sound.Goals as goal

pub returns : goal.returns
returns c = added_user_sound
