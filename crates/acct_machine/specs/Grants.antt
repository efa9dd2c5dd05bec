-- Where the grant of a handle comes from: the call that opened it.
use Rattle.std.specs.Prelude.{◌≡◌, ℕ, ◌+◌, List, ◌∷◌, ◌++◌, Some, All}
use Rattle.acct_calls.specs.declared.calls.Call.{Call}
use Rattle.acct_rules.specs.declared.planned.Opening.{Opening}
use Rattle.acct_rules.specs.declared.planned.Effect.TheVariants as effects
use Rattle.acct_rules.specs.Profiles.{Operation}
use Rattle.acct_machine.specs.declared.entry.Verdict.TheVariants.{Ran}
use Rattle.acct_machine.specs.declared.entry.Entry.{Entry}
use Rattle.acct_machine.specs.declared.entry.Entry.TheVariants.{Called}
use Rattle.acct_machine.specs.declared.state.Held.{Held}
use Rattle.acct_machine.specs.State.{State, Start, last_serial}
use Rattle.acct_machine.specs.Access.{grant_of}
use Rattle.acct_machine.specs.Step.{planned_of, state_at}
use Rattle.acct_machine.specs.Legal.{HasPassed}

-- At the state before it the call's handle passed, and what its operation plans is an opening of the handle's object.
-- The handle has the serial that came next on its connection, and its grant is that of the opening.
pub record OpensHandle (s : State) (held : Held) (call : Call) (o : Operation) (opening : Opening) : Type 0 where
  pub passed : HasPassed o s held.conn call
  pub opens : (planned_of o s held.conn call).effect ≡ effects.Opens opening
  pub object : held.object ≡ opening.object
  pub next : held.serial ≡ last_serial held.conn s.conns + 1
  pub grant : grant_of s held.conn opening.object opening.desired ≡ Some held.granted

-- A call of the handle's connection ran, and opened it.
pub record IsGrantedIn (start : Start) (history : List Entry) (held : Held) : Type 0 where
  pub before : List Entry
  pub call : Call
  pub bytes : ℕ
  pub after : List Entry
  pub o : Operation
  pub opening : Opening
  pub event : history ≡ before ++ Called held.conn call Ran bytes ∷ after
  pub opened : OpensHandle (state_at start before) held call o opening

-- every handle after a history was granted in it
abbrev pub GrantsInHistory : Type 0
GrantsInHistory =
    (start : Start) (history : List Entry) → All (IsGrantedIn start history) (state_at start history).handles
