-- A response is the fragment with its type, and with 0 in the place of the opnum.
use Rattle.std.proofs.Common.{◌≡◌, ℕ, true, List, refl, subst, IfOk}
use Rattle.acct_codes.specs.Pdus.{ptype_response}
use Rattle.rpc_pdu.specs.Written.{written, body_bytes}
use Rattle.rpc_session.specs.Answers.{cut_stub, fragment, most_of, response}
use Rattle.rpc_session.proofs.replies.reply_bytes.Goals as goal

same_response : (id context : ℕ)
    → fragment (record { ptype = ptype_response; id = id; context = context; opnum = 0 }) ≡ response id context
unfolding fragment response written body_bytes
same_response id context = refl

pub returns : goal.returns
returns c =
    subst (λ (one : ℕ → ℕ → List ℕ → List ℕ). IfOk c.cut_stub.result
    (λ bytes. bytes.items ≡ cut_stub one (most_of c.args.size) true c.args.stub.now))
    (same_response c.args.id c.args.context) c.cut_stub.ensures
