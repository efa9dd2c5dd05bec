-- The identifiers before the place are written.
use Rattle.ndr_types.proofs.Arrays.{HeadsSoFar}
use Rattle.acct_stubs.proofs.MemberLists.{rid_part}
use Rattle.acct_stubs.proofs.members.write_rids.Given as goal

abbrev pub invariant-loop-member : goal.invariant-loop-member
invariant-loop-member l = HeadsSoFar rid_part l.list l.member-index l.fn.to l.to
