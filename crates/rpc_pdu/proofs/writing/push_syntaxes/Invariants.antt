-- The bytes of the first so many syntaxes were added, and the UUID of each of these has its 16 bytes.
use Rattle.rpc_pdu.specs.Headers.{syntax_bytes}
use Rattle.rpc_pdu.specs.Written.{IsWhole}
use Rattle.rpc_pdu.proofs.Pushes.{Pushed}
use Rattle.rpc_pdu.proofs.writing.push_syntaxes.Given as goal

abbrev pub invariant-loop-syntax : goal.invariant-loop-syntax
invariant-loop-syntax l = Pushed syntax_bytes IsWhole l.fn.out.items l.out.items l.syntaxes l.syntax-index
