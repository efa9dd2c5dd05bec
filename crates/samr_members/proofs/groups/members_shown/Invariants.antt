-- The members so far are shown.
use Rattle.std.proofs.Common.{◌≡◌, take, map}
use Rattle.samr_members.specs.Members.{member_shown}
use Rattle.samr_members.proofs.groups.members_shown.Given as goal

abbrev pub invariant-loop-member : goal.invariant-loop-member
invariant-loop-member l = l.shown ≡ map member_shown (take l.member-index l.members)
