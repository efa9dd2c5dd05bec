-- One more identifier is written, and at the end all are.
use Rattle.std.proofs.Common.{get_or, refl}
use Rattle.ndr_types.specs.Listed.{rid_bits_of}
use Rattle.ndr_types.proofs.Arrays.{heads_begin, heads_go_on, heads_written}
use Rattle.acct_stubs.proofs.MemberLists.{rid_part}
use Rattle.acct_stubs.proofs.members.write_rids.Goals as goal

pub loop-member-init : goal.loop-member-init
loop-member-init c = heads_begin rid_part c.args.list.now c.args.to.now

pub loop-member-preserved : goal.loop-member-preserved
loop-member-preserved c =
    let i = c.loop-member.member-index in
    let none = rid_bits_of (0, 0) in
    rw c.in_ok-u32.ensures.ok
    (heads_go_on rid_part c.args.list.now i
    (get_or c.args.list.now i none) none c.args.to.now c.loop-member.to c.loop-member-test.true refl
    c.loop-member.invariant)

pub returns : goal.returns
returns c =
    heads_written rid_part c.args.list.now c.loop-member.member-index c.args.to.now c.loop-member.to
    c.loop-member-test.false c.loop-member.invariant
