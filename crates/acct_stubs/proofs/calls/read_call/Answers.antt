-- The clauses on a call that was read, from the laws of the definition and from what the reading gave.
use Rattle.std.proofs.Common.{w8, subst, Result}
use Rattle.std.proofs.lemmas.List.Elements.{All-from_get_or}
use Rattle.std.proofs.Math.Facts.{Fits-lt-pow}
use Rattle.acct_calls.specs.declared.calls.Call.{Call}
use Rattle.ndr_core.specs.Cursor.{IsByte, IsBytes}
use Rattle.acct_stubs.specs.declared.errors.WireError.{WireError}
use Rattle.acct_stubs.specs.Calls.{ReadsAllIfRoom}
use Rattle.acct_stubs.proofs.CallLaws.{is_found, call_only, can_be_written}
use Rattle.acct_stubs.proofs.calls.read_call.Goals as goal

pub returns-clause-found : goal.returns-clause-found
returns-clause-found g c =
    is_found g.I.Interface.wire c.args.opnum c.args.stub.now c.call_in.result c.call_in.ensures

pub returns-clause-only : goal.returns-clause-only
returns-clause-only g c = λ call e served h.
    subst (λ (r : Result Call WireError). ReadsAllIfRoom c.call_in.result r)
    (call_only g.I.Interface.wire c.args.opnum c.args.stub.now call e served h) c.call_in.ensures

pub returns-clause-spelled : goal.returns-clause-spelled
returns-clause-spelled g c =
    let bytes : IsBytes c.args.stub.now =
    All-from_get_or IsByte c.args.stub.now 0 (λ i inside. Fits-lt-pow {w = w8} (c.type_inv.stub i)) in
    can_be_written g.I.Interface.wire g.met.I.Interface.lawful c.args.opnum c.args.stub.now c.call_in.result bytes
    c.call_in.ensures
