-- The groups so far are shown.
use Rattle.std.proofs.Common.{◌≡◌, take, map}
use Rattle.acct_tables.specs.steps.Users.{row_of}
use Rattle.samr_members.specs.Members.{group_shown}
use Rattle.samr_members.proofs.groups.groups_shown.Given as goal

abbrev pub invariant-loop-group : goal.invariant-loop-group
invariant-loop-group l = l.shown ≡ map group_shown (map row_of (take l.group-index l.groups))
