-- Numbers and SIDs that are equal
use Rattle.std.proofs.Common.{◌≡◌, ◌≢◌, ℕ, ◌==◌, true, List, ap, ◌∙◌, inl, inr, ◌⊎◌, arith}
use Rattle.std.proofs.lemmas.Bool.Decides.{nat_tests}
use Rattle.dtyp_sid.specs.Sids.{SidValue}
use Rattle.acct_tables.specs.Keys.{sid_key}
use Rattle.acct_tables.proofs.Orders.{tested}

pub equals : (m n : ℕ) → m ≡ n → (m == n) ≡ true
equals m n e = grind (arith, nat_tests)

pub equal_is : (m n : ℕ) → (m == n) ≡ true → m ≡ n
equal_is m n e = grind (arith, nat_tests)

-- SIDs with one key are one
abbrev sid_made : ℕ → List ℕ → SidValue
sid_made authority subs = record { authority = authority; subs = subs }

pub one_sid : (a b : SidValue) → sid_key a ≡ sid_key b → a ≡ b
one_sid a b key =
    let authority : a.authority ≡ b.authority = cc in
    let subs : a.subs ≡ b.subs = cc in
    ap (λ n. sid_made n a.subs) authority ∙ ap (sid_made b.authority) subs

pub nat_cases : (m n : ℕ) → (m ≡ n) ⊎ (m ≢ n)
nat_cases m n = elim (tested (m == n)) [ inl t ↦ inl (equal_is m n t) | inr t ↦ inr (λ e. cc (t, equals m n e)) ]
