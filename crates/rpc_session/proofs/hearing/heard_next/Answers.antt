-- Where bytes are missing at the beginning, no PDU is read, so none runs out of memory.
use Rattle.rpc_pdu.specs.declared.pdus.Side.TheVariants.{Server}
use Rattle.rpc_session.proofs.Still.{wants_isnt_rest}
use Rattle.rpc_session.proofs.hearing.heard_next.Goals as goal

pub returns-in-NoMemory-clause-frugal : goal.returns-in-NoMemory-clause-frugal
returns-in-NoMemory-clause-frugal c =
    λ rest. absurd (wants_isnt_rest Server c.args.bytes.now c.in-NoMemory.ensures.front rest)
