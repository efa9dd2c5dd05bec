-- A prefix of a legal history that is full tells the numbers of the whole.
use Rattle.std.proofs.Common.{◌≡◌, ℕ, ◌+◌, ◌<◌, ◌≤◌, ◌⊎◌, inl, inr, Bool, true, false, List, [], ◌∷◌, ◌++◌}
use Rattle.std.proofs.Common.{Option, Some, None, refl, sym, subst, arith}
use Rattle.std.specs.Prelude.{nat_le, nat_lt, if◌then◌else◌}
use Rattle.std.proofs.lemmas.Bool.Decides.{nat_tests}
use Rattle.acct_machine.specs.Legal.{opened_count, call_count, stub_bytes, calls_full, bytes_full, either_full}
use Rattle.acct_machine.specs.Legal.{LimitsAreKept}
use Rattle.acct_machine.specs.declared.entry.Entry.{Entry}
use Rattle.acct_machine.specs.declared.entry.Entry.TheVariants.{Opened, Called, Gone, Hooked}
use Rattle.door_workers.specs.Full.{HasAllCalls, PassesBytes, FullOfConns, FullOfCalls}

opened-less : (xs ys : List Entry) → opened_count xs ≤ opened_count (xs ++ ys)
opened-less [] ys = omega arith
opened-less (Opened conn listener ∷ xs) ys = let rest = opened-less xs ys in omega arith
opened-less (Called conn call verdict bytes ∷ xs) ys = opened-less xs ys
opened-less (Gone conn ∷ xs) ys = opened-less xs ys
opened-less (Hooked number ∷ xs) ys = opened-less xs ys

calls-less : (xs ys : List Entry) → call_count xs ≤ call_count (xs ++ ys)
calls-less [] ys = omega arith
calls-less (Opened conn listener ∷ xs) ys = calls-less xs ys
calls-less (Called conn call verdict bytes ∷ xs) ys = let rest = calls-less xs ys in omega arith
calls-less (Gone conn ∷ xs) ys = calls-less xs ys
calls-less (Hooked number ∷ xs) ys = calls-less xs ys

-- where a test gives a count, it is true, and this is the count
given : (b : Bool) (m n : ℕ) → (if b then Some m else None) ≡ Some n → (b ≡ true) × (m ≡ n)
given true m n is = (refl, cc)
given false m n is = absurd (let other : None ≡ Some n = is in cc)

le-of : (a b : ℕ) → nat_le a b ≡ true → a ≤ b
le-of a b is = grind (arith, nat_tests)

lt-of : (a b : ℕ) → nat_lt a b ≡ true → a < b
lt-of a b is = grind (arith, nat_tests)

pub full-of-conns : LimitsAreKept → FullOfConns
full-of-conns kept start found history n legal front full =
    let is = given (nat_le start.config.limits.max_conns (opened_count found)) (opened_count found) n full in
    let most = le-of start.config.limits.max_conns (opened_count found) is.0 in
    let less = subst (λ (l : List Entry). opened_count found ≤ opened_count l) (sym front.1)
    (opened-less found front.0) in
    let within = (kept start history legal).conns in
    let count = is.1 in
    record { most = omega arith; opened = omega arith }

either : (a b : Option ℕ) (n : ℕ) → either_full a b ≡ Some n → (a ≡ Some n) ⊎ (b ≡ Some n)
either None b n is = inr is
either (Some m) b n is = inl is

pub full-of-calls : LimitsAreKept → FullOfCalls
full-of-calls kept start found history size n legal front full =
    go (either (calls_full start found) (bytes_full start found size) n full)
  where
    go : (calls_full start found ≡ Some n) ⊎ (bytes_full start found size ≡ Some n)
        → HasAllCalls start history n ⊎ PassesBytes start history size n
    go (inl calls) =
        let is = given (nat_le start.config.limits.max_calls (call_count found)) (call_count found) n calls in
        let most = le-of start.config.limits.max_calls (call_count found) is.0 in
        let less = subst (λ (l : List Entry). call_count found ≤ call_count l) (sym front.1)
        (calls-less found front.0) in
        let within = (kept start history legal).calls in
        let count = is.1 in
        inl (record { most = omega arith; made = omega arith })
    go (inr bytes) =
        let is = given (nat_lt start.config.limits.max_bytes (stub_bytes found + size)) (stub_bytes found + size) n
        bytes in
        let above = lt-of start.config.limits.max_bytes (stub_bytes found + size) is.0 in
        let count = is.1 in
        inr (record { front = found; begins = front; sum = sym count; above = omega arith })
