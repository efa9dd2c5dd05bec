-- What holds of each row of a table holds of what is found in it
use Rattle.std.proofs.Common.{◌≡◌, ℕ, Bool, true, cond, List, [], ◌∷◌, Some, sym, ap, subst, ◌∙◌}
use Rattle.std.proofs.Common.{inl, inr}
use Rattle.std.specs.List.{list_all}
use Rattle.std.specs.Cmp.{first_so, second_so}
use Rattle.acct_tables.specs.Keyed.{same_key, at}
use Rattle.acct_tables.proofs.Lookups.{same_Some}
use Rattle.acct_tables.proofs.Orders.{tested}

-- each of some values has a property
abbrev pub Each : {A : Type 0} → (A → Type 0) → List A → Type 0
Each P [] = Unit {0}
Each P (x ∷ xs) = P x × Each P xs

module _ {A : Type 0} (key : A → List ℕ) where
  pub found_is : (P : A → Type 0) (q : List ℕ) (xs : List A) (a : A) → Each P xs → at key q xs ≡ Some a → P a
  found_is P q [] a each e = cc
  found_is P q (x ∷ xs) a each e =
      elim (tested (same_key q (key x))) [
        | inl s ↦ subst P (same_Some (sym (ap (λ b. cond b (Some x) (at key q xs)) s) ∙ e)) each.0
        | inr s ↦ found_is P q xs a each.1 (sym (ap (λ b. cond b (Some x) (at key q xs)) s) ∙ e)
      ]

  pub found_passes : (p : A → Bool) (q : List ℕ) (xs : List A) (a : A) → list_all p xs ≡ true → at key q xs ≡ Some a
      → p a ≡ true
  found_passes p q [] a h e = cc
  found_passes p q (x ∷ xs) a h e =
      elim (tested (same_key q (key x))) [
        | inl s ↦ ap p (sym (same_Some (sym (ap (λ b. cond b (Some x) (at key q xs)) s) ∙ e))) ∙ first_so _ _ h
        | inr s ↦ found_passes p q xs a (second_so _ _ h) (sym (ap (λ b. cond b (Some x) (at key q xs)) s) ∙ e)
      ]
