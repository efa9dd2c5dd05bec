-- The opening of a connection over the machine as a gate.
use Rattle.std.proofs.Common.{◌≡◌, ℕ, List, sym, subst}
use Rattle.acct_machine.specs.declared.entry.Entry.{Entry}
use Rattle.acct_machine.specs.declared.machine.Opened.{Opened}
use Rattle.acct_machine.specs.Machine.{Opens}
use Rattle.acct_machine.specs.Shown.{Past}
use Rattle.link_sessions.specs.Turns.{shown, Turn, MachineOpens}
use Rattle.acct_server.proofs.Moves.{Only}

-- what a turn of the machine does that finds its history
found-here : (old new : Past) (listener : ℕ) (answer : Opened)
    → Turn (Only old.history) (MachineOpens old.start listener answer) new.history
    → MachineOpens old.start listener answer old.history new.history
found-here old new listener answer turn =
    subst (λ (h : List Entry). MachineOpens old.start listener answer h new.history) turn.finds_it turn.does_it

-- the machine after it begins where it began
begun-there : (old new : Past) → new.start ≡ old.start → shown old.start new.history ≡ new
begun-there old new start = λ i. record { start = sym start i; history = new.history }

pub turn-opens : (old new : Past) (listener : ℕ) (answer : Opened)
    → Turn (Only old.history) (MachineOpens old.start listener answer) new.history → new.start ≡ old.start
    → Opens old listener answer new
turn-opens old new listener answer turn start =
    subst (λ (m : Past). Opens old listener answer m) (begun-there old new start)
    (found-here old new listener answer turn).opens
