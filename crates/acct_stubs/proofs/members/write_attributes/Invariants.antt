-- The attributes before the place are written.
use Rattle.ndr_types.proofs.Arrays.{HeadsSoFar}
use Rattle.acct_stubs.proofs.MemberLists.{bits_part}
use Rattle.acct_stubs.proofs.members.write_attributes.Given as goal

abbrev pub invariant-loop-member : goal.invariant-loop-member
invariant-loop-member l = HeadsSoFar bits_part l.list l.member-index l.fn.to l.to
