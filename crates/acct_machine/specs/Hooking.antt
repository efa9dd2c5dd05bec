-- What taking a row out of the outbox answers and leaves.
use Rattle.std.specs.Prelude.{◌≡◌, ℕ, ◌^◌, ◌<◌, ◌≤◌, Option, Some, None}
use Rattle.account_hooks.specs.declared.gate.HookedEnd.{HookedEnd}
use Rattle.account_hooks.specs.declared.gate.HookedEnd.TheVariants as ends
use Rattle.acct_keeper.specs.Faults.{one_more}
use Rattle.acct_machine.specs.declared.entry.Entry.TheVariants.{Hooked}
use Rattle.acct_machine.specs.Machine.{with_entry, state_of}
use Rattle.acct_machine.specs.Outbox.{least_out}
use Rattle.acct_machine.specs.Shown.{Past, Keeping}

-- the number is that of the first row of the outbox
abbrev pub IsFirst : Past → ℕ → Type 0
IsFirst m number = least_out (state_of m).rows ≡ Some number

-- a number that there may be, or 0
abbrev pub or_none : Option ℕ → ℕ
or_none None = 0
or_none (Some number) = number

-- The row left the outbox, and that is entered; or it is the first one still, and nothing changed. Past tells that the
-- number isn't the first one's, and which that is, or 0 where there is none.
abbrev pub Hooks : Past → HookedEnd → ℕ → Past → Type 0
Hooks old ends.Done number new = IsFirst old number × (new ≡ with_entry old (Hooked number))
Hooks old (ends.Past first) number new =
    (IsFirst old number → ⊥) × (first ≡ or_none (least_out (state_of old).rows)) × (new ≡ old)
Hooks old (ends.StoreFault count) number new = IsFirst old number × (new ≡ old)
Hooks old ends.NoMemory number new = IsFirst old number × (new ≡ old)

-- The keeper's count is one more where it failed, and as it was after every other answer. It holds what it held, except
-- where the row left.
abbrev pub HookCommits : Keeping → HookedEnd → Keeping → Type 0
HookCommits old ends.Done new = new.faults ≡ old.faults
HookCommits old (ends.Past first) new = new ≡ old
HookCommits old (ends.StoreFault count) new =
    (count ≡ new.faults) × (count < 2 ^ 64) × (new.faults ≡ one_more old.faults) × (old.faults ≤ new.faults)
    × (new.held ≡ old.held)
HookCommits old ends.NoMemory new = new ≡ old
