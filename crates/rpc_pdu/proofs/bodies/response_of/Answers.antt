-- A stub that couldn't be copied isn't empty.
use Rattle.rpc_pdu.proofs.Wants.{wants, behind}
use Rattle.rpc_pdu.proofs.bodies.response_of.Goals as goal

pub returns-in_err-copy_of-clause-wants : goal.returns-in_err-copy_of-clause-wants
returns-in_err-copy_of-clause-wants c =
    wants _ (behind _ c.args.bytes.now c.rest_of.result.now c.rest_of.ensures.value c.in_err-copy_of.ensures.frugal)
