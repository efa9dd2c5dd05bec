-- The table has the reply's operation, so its codec is the one that was written with.
use Rattle.std.proofs.Common.{sym}
use Rattle.acct_stubs.proofs.ReplyValues.{has_layout, layout_can_write}
use Rattle.acct_stubs.proofs.replies.write_reply.Goals as goal

pub unreachable-requires : goal.unreachable-requires
unreachable-requires g c =
    let there =
    has_layout g.I.Interface.wire g.met.I.Interface.lawful c.args.opnum c.args.reply.now c.requires c.face.result
    c.layout_of.result c.face.ensures c.layout_of.ensures in
    c.in_default.not-Some there.0 there.1

pub write_done-requires : goal.write_done-requires
write_done-requires g c =
    layout_can_write g.I.Interface.wire g.met.I.Interface.lawful c.args.opnum c.args.reply.now c.requires
    c.face.result c.in-Some.layout c.face.ensures (sym c.in-Some.ensures)
