-- The opening of a connection over a gate.
use Rattle.std.proofs.Common.{[], ◌∙◌}
use Rattle.acct_machine.specs.declared.machine.Opened.{Opened}
use Rattle.acct_machine.specs.declared.machine.Opened.TheVariants as opens
use Rattle.acct_machine.specs.Machine.{OpensFresh, SameCalls}
use Rattle.acct_machine.specs.Passing.{OthersChangeNothing}
use Rattle.acct_machine.specs.Shown.{Past}
use Rattle.link_sessions.specs.Turns.{HasNoCall, IfConn}

-- a connection that no entry before is of has made no call
pub silent-opened : OthersChangeNothing → (old new : Past) (answer : Opened) → OpensFresh old answer
    → SameCalls old new
    → IfConn answer (HasNoCall new.start new.history)
silent-opened others old new (opens.Conn conn) fresh same =
    let passes = others old.start conn [] old.history fresh in
    record { calls = same.calls conn ∙ passes.calls; replies = same.replies conn ∙ passes.replies }
silent-opened others old new (opens.Full count) fresh same = tt
