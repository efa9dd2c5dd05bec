-- What a run of lines comes to, line by line.
use Rattle.std.proofs.Common.{◌≡◌, ℕ, zero, suc, ◌+◌, ◌-◌, ◌^◌, ◌≤◌, ◌<◌, ◌==◌, true, false, List, [], ◌∷◌}
use Rattle.std.proofs.Common.{length, min, refl, sym, subst}
use Rattle.std.proofs.Common.{replicate, nat_lt, inl, inr, arith, zero-le, sub-le, le_trans, le_refl, le_antisymm}
use Rattle.std.proofs.Math.Nat.{min-le_left, le-min}
use Rattle.std.proofs.lemmas.Bool.{cases_Bool}
use Rattle.std.proofs.lemmas.Bool.Decides.{nat_tests}
use Rattle.host_lines.specs.declared.tally.Tally.{Tally}
use Rattle.host_lines.specs.Tally.{lines_a_minute, begun, settled, missed, decided}
use Rattle.host_lines.specs.Laws.{turns, after, written_in, left_out_in, told_in, AtMostSoManyAMinute}
use Rattle.host_lines.specs.Laws.{EachIsWrittenOrTold}

same : (n : ℕ) → (n == n) ≡ true
same n = grind (arith, nat_tests)

less_than : (n m : ℕ) → nat_lt n m ≡ true → n < m
less_than n m is = grind (arith, nat_tests)

-- in a minute that runs no more lines are written than it may have yet
in_minute : (count minute : ℕ) (tally : Tally) → (tally.minute == minute) ≡ true
    → written_in (turns tally (replicate count minute)) ≤ lines_a_minute - tally.written
in_minute zero minute tally runs = zero-le
in_minute (suc count) minute tally runs =
    elim (cases_Bool (nat_lt tally.written lines_a_minute)) [
      | inl is ↦
          let later = in_minute count minute (record tally { written = tally.written + 1 }) runs in
          let few = less_than tally.written lines_a_minute is in
          rw runs (rw is (omega (arith, later, few)))
      | inr full ↦
          let later = in_minute count minute (missed 1 tally) runs in
          rw runs (rw full (omega (arith, later)))
    ]

pub at_most : AtMostSoManyAMinute
at_most tally minute zero = zero-le
at_most tally minute (suc count) =
    elim (cases_Bool (tally.minute == minute)) [
      | inl runs ↦ le_trans (in_minute (suc count) minute tally runs) (sub-le lines_a_minute tally.written)
      | inr other ↦
          let later = in_minute count minute (record (begun minute) { written = 1 }) (same minute) in
          rw other (omega (arith, later))
    ]

one_more : (count : ℕ) → count + 1 ≤ 2 ^ 64 - 1 → min (count + 1) (2 ^ 64 - 1) ≡ count + 1
one_more count fits = le_antisymm (min-le_left (count + 1) (2 ^ 64 - 1)) (le-min (le_refl (count + 1)) fits)

abbrev Balances : List ℕ → Tally → Type 0
Balances minutes tally = tally.left_out + left_out_in (turns tally minutes)
    ≡ told_in (turns tally minutes) + (after tally minutes).left_out

-- what was left out before a line, and what it and those after it come to
abbrev BalancesFrom : ℕ → List ℕ → Tally × ℕ → Type 0
BalancesFrom total minutes state = total + left_out_in ((decided state).1 ∷ turns (decided state).0 minutes)
    ≡ told_in ((decided state).1 ∷ turns (decided state).0 minutes) + (after (decided state).0 minutes).left_out

one_line : (total : ℕ) (tally : Tally) (told : ℕ) (minutes : List ℕ) → total ≡ told + tally.left_out
    → tally.left_out + suc (length minutes) ≤ 2 ^ 64 - 1
    → ((next : Tally) → next.left_out + length minutes ≤ 2 ^ 64 - 1 → Balances minutes next)
    → BalancesFrom total minutes (tally, told)
one_line total tally told minutes sum fits later =
    elim (cases_Bool (nat_lt tally.written lines_a_minute)) [
      | inl is ↦
          let behind = later (record tally { written = tally.written + 1 }) (omega (arith, fits)) in
          rw is (omega (arith, behind, sum))
      | inr full ↦
          let more = one_more tally.left_out (omega (arith, fits)) in
          let behind = later (missed 1 tally) (omega (arith, more, fits)) in
          rw full (omega (arith, behind, more, sum))
    ]

settled_running : (minute : ℕ) (tally : Tally) → (tally.minute == minute) ≡ true → settled minute tally ≡ (tally, 0)
settled_running minute tally runs = rw runs refl

settled_anew : (minute : ℕ) (tally : Tally) → (tally.minute == minute) ≡ false
    → settled minute tally ≡ (begun minute, tally.left_out)
settled_anew minute tally other = rw other refl

pub none_is_lost : EachIsWrittenOrTold
none_is_lost tally [] fits = omega arith
none_is_lost tally (minute ∷ minutes) fits =
    let later : (next : Tally) → next.left_out + length minutes ≤ 2 ^ 64 - 1 → Balances minutes next =
    λ next few. none_is_lost next minutes few in
    elim (cases_Bool (tally.minute == minute)) [
      | inl runs ↦
          subst (BalancesFrom tally.left_out minutes) (sym (settled_running minute tally runs))
          (one_line tally.left_out tally 0 minutes (omega arith) fits later)
      | inr other ↦
          subst (BalancesFrom tally.left_out minutes) (sym (settled_anew minute tally other))
          (one_line tally.left_out (begun minute) tally.left_out minutes (omega arith) (omega (arith, fits)) later)
    ]
