-- The SIDs so far are those of the rows so far.
use Rattle.std.proofs.Common.{◌≡◌, take, map}
use Rattle.samr_members.specs.Members.{member_of_row}
use Rattle.samr_members.proofs.aliases.sids_shown.Given as goal

abbrev pub invariant-loop-row : goal.invariant-loop-row
invariant-loop-row l = l.sids ≡ map member_of_row (take l.row-index l.members)
