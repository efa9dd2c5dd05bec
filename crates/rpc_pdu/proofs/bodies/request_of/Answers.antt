-- A stub that couldn't be copied isn't empty.
use Rattle.std.proofs.Common.{◌≡◌, ℕ, length, nat_lt, true, subst}
use Rattle.rpc_pdu.proofs.Wants.{wants, behind}
use Rattle.rpc_pdu.proofs.bodies.request_of.Goals as goal

pub returns-in_err-copy_of-clause-wants : goal.returns-in_err-copy_of-clause-wants
returns-in_err-copy_of-clause-wants c =
    let some = behind c.stub_place.result c.args.bytes.now c.rest_of.result.now c.rest_of.ensures.value
    c.in_err-copy_of.ensures.frugal in
    wants _ (subst (λ (place : ℕ). nat_lt place (length c.args.bytes.now) ≡ true) c.stub_place.ensures some)
