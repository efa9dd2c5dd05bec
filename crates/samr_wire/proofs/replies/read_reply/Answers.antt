-- What is read can be written: no reply of this interface refers to a domain.
use Rattle.std.proofs.Common.{w8}
use Rattle.std.proofs.lemmas.List.Elements.{All-from_get_or}
use Rattle.std.proofs.Math.Facts.{Fits-lt-pow}
use Rattle.ndr_core.specs.Cursor.{IsByte, IsBytes}
use Rattle.acct_stubs.proofs.ReplyLaws.{shared_can_be_written}
use Rattle.samr_wire.specs.Interface.{samr}
use Rattle.samr_wire.specs.Lawful.{no_outputs, samr_lawful}
use Rattle.samr_wire.proofs.replies.read_reply.Goals as goal

pub returns-clause-shaped : goal.returns-clause-shaped
returns-clause-shaped c =
    let bytes : IsBytes c.args.stub.now =
    All-from_get_or IsByte c.args.stub.now 0 (λ i inside. Fits-lt-pow {w = w8} (c.type_inv.stub i)) in
    shared_can_be_written samr samr_lawful no_outputs c.args.opnum c.args.stub.now c.read_reply.result bytes
    c.read_reply.ensures.exact
