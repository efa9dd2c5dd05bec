-- Histories with more events at the end.
use Rattle.std.proofs.Common.{◌≡◌, inl, inr, ◌⊎◌, ℕ, zero, suc, ◌+◌, ◌<◌, ◌≤◌, Bool, true, false, cond, List, [], ◌∷◌}
use Rattle.std.proofs.Common.{◌++◌, length, refl, sym, ap, subst, append_assoc, arith}
use Rattle.std.proofs.lemmas.List.{append-nil}
use Rattle.acct_machine.specs.declared.entry.Entry.{Entry}
use Rattle.acct_machine.specs.State.{State, Start}
use Rattle.acct_machine.specs.Step.{step, state_after}
use Rattle.acct_machine.specs.Legal.{May, LegalAfter}

pub state-append : (s : State) (es fs : List Entry) → state_after s (es ++ fs) ≡ state_after (state_after s es) fs
state-append s [] fs = refl
state-append s (e ∷ es) fs = state-append (step s e) es fs

pub legal-push : (start : Start) (before history : List Entry) (e : Entry) → LegalAfter start before history
    → May start (before ++ history) e
    → LegalAfter start before (history ++ e ∷ [])
legal-push start before [] e legal may = (subst (λ (es : List Entry). May start es e) (append-nil before) may, tt)
legal-push start before (a ∷ history) e legal may =
    let same : before ++ a ∷ history ≡ (before ++ a ∷ []) ++ history = sym (append_assoc before (a ∷ []) history) in (
      legal.0,
      legal-push start (before ++ a ∷ []) history e legal.1 (subst (λ (es : List Entry). May start es e) same may),
    )

-- one element more at the beginning, where a test says so
pub push-by : {A : Type 0} (here : Bool) (x : A) (all xs ys : List A) → all ≡ xs ++ ys
    → cond here (x ∷ all) all ≡ cond here (x ∷ xs) xs ++ ys
push-by true x all xs ys is = ap (λ zs. x ∷ zs) is
push-by false x all xs ys is = is

pub length-push : {A : Type 0} (xs : List A) (x : A) → length (xs ++ x ∷ []) ≡ length xs + 1
length-push [] x = refl
length-push (y ∷ ys) x = let rest = length-push ys x in omega (arith, rest)

pub le-or : (a b : ℕ) → (a ≤ b) ⊎ (b < a)
le-or zero b = inl (omega arith)
le-or (suc a) zero = inr (omega arith)
le-or (suc a) (suc b) = elim (le-or a b) [ inl le ↦ inl (omega (arith, le)) | inr lt ↦ inr (omega (arith, lt)) ]
