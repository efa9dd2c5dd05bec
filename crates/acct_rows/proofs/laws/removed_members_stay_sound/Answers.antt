-- Rows stay sound when a member row goes that isn't the user's for its primary group.
use Rattle.acct_rows.proofs.Moves.{removed_member_sound}
use Rattle.acct_rows.proofs.laws.removed_members_stay_sound.Goals as goal

pub returns : goal.returns
returns c = removed_member_sound
