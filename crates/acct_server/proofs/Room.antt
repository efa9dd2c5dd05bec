-- One thing is done and then another, unless the first found the history full.
use Rattle.std.proofs.Common.{◌≡◌, ℕ, List, [], ◌++◌, Option, Some, None, refl, sym, ap}
use Rattle.std.proofs.lemmas.List.{append-nil}
use Rattle.acct_machine.specs.declared.entry.Entry.{Entry}
use Rattle.acct_server.specs.Replayed.{Doing, both, both_by}

-- ---- one thing, and then another

-- the other is done where the one found room
pub both-open : (first second : Doing) → first.full ≡ None → both first second ≡ both_by None first second
both-open first second room = ap (λ (o : Option ℕ). both_by o first second) room

-- the entries of the other, where it is done
abbrev pub others_by : Option ℕ → Doing → List Entry
others_by None second = second.entries
others_by (Some count) second = []

pub both-entries : (f : Option ℕ) (first second : Doing)
    → (both_by f first second).entries ≡ first.entries ++ others_by f second
both-entries None first second = refl
both-entries (Some count) first second = sym (append-nil first.entries)

-- where the first found it full, the other isn't done
pub both-full : (first second : Doing) (count : ℕ) → first.full ≡ Some count → both first second ≡ first
both-full first second count full = ap (λ (o : Option ℕ). both_by o first second) full
