-- The clauses on a reply that was read, from the laws of the definition and from what the reading gave.
use Rattle.std.proofs.Common.{w8, subst, Result}
use Rattle.std.proofs.lemmas.List.Elements.{All-from_get_or}
use Rattle.std.proofs.Math.Facts.{Fits-lt-pow}
use Rattle.acct_calls.specs.declared.replies.Reply.{Reply}
use Rattle.ndr_core.specs.Cursor.{IsByte, IsBytes}
use Rattle.acct_stubs.specs.declared.errors.WireError.{WireError}
use Rattle.acct_stubs.specs.Calls.{ReadsAllIfRoom}
use Rattle.acct_stubs.proofs.ReplyLaws.{is_found, reply_only, can_be_written}
use Rattle.acct_stubs.proofs.replies.read_reply.Goals as goal

pub returns-clause-found : goal.returns-clause-found
returns-clause-found g c =
    is_found g.I.Interface.wire c.args.opnum c.args.stub.now c.reply_in.result c.reply_in.ensures

pub returns-clause-only : goal.returns-clause-only
returns-clause-only g c = λ r h.
    subst (λ (x : Result Reply WireError). ReadsAllIfRoom c.reply_in.result x)
    (reply_only g.I.Interface.wire c.args.opnum c.args.stub.now r h) c.reply_in.ensures

pub returns-clause-shaped : goal.returns-clause-shaped
returns-clause-shaped g c =
    let bytes : IsBytes c.args.stub.now =
    All-from_get_or IsByte c.args.stub.now 0 (λ i inside. Fits-lt-pow {w = w8} (c.type_inv.stub i)) in
    can_be_written g.I.Interface.wire g.met.I.Interface.lawful c.args.opnum c.args.stub.now c.reply_in.result bytes
    c.reply_in.ensures
