-- What is put at a key that nothing had, and removed again, leaves the rows as they were.
use Rattle.std.proofs.Common.{◌≡◌, ℕ, Bool, true, false, not, cond, List, [], ◌∷◌, Some, None}
use Rattle.std.proofs.Common.{refl, ap, ◌∙◌}
use Rattle.std.specs.declared.cmp.Ordering.TheVariants.{Less, Equal, Greater}
use Rattle.std.specs.Ordering.{is_eq}
use Rattle.acct_tables.specs.KeyedRows.{compare, same_key, by_order, at, put, without}
use Rattle.acct_rows.specs.Laws.{PutsAreUndone}
use Rattle.acct_tables.specs.Keys.{member_key, alias_key}
use Rattle.acct_tables.proofs.Orders.{same_key-itself}

module _ {A : Type 0} (key : A → List ℕ) where
  abbrev keep : List ℕ → A → Bool
  keep k x = not (same_key k (key x))

  -- where the key isn't found, nothing goes
  none-goes : (k : List ℕ) (xs : List A) → at key k xs ≡ None → without key k xs ≡ xs
  none-goes k [] none = refl
  none-goes k (x ∷ xs) none =
      elim (same_key k (key x)) as (λ b. cond b (Some x) (at key k xs) ≡ None
      → cond (not b) (x ∷ without key k xs) (without key k xs) ≡ x ∷ xs) [
        | true ↦ λ no. cc
        | false ↦ λ no. ap (λ ys. x ∷ ys) (none-goes k xs no)
      ] none

  -- the row itself goes
  goes : (a : A) (ys : List A) → without key (key a) (a ∷ ys) ≡ without key (key a) ys
  goes a ys =
      ap (λ b. cond (not b) (a ∷ without key (key a) ys) (without key (key a) ys)) (same_key-itself (key a))

  -- a neighbour stays
  stays : (a x : A) (ys : List A) → same_key (key a) (key x) ≡ false
      → without key (key a) (x ∷ ys) ≡ x ∷ without key (key a) ys
  stays a x ys other = ap (λ b. cond (not b) (x ∷ without key (key a) ys) (without key (key a) ys)) other

  pub put-undone : (a : A) (xs : List A) → at key (key a) xs ≡ None → without key (key a) (put key a xs) ≡ xs
  put-undone a [] none = goes a []
  put-undone a (x ∷ xs) none =
      elim (compare (key a) (key x)) as
      (λ r. compare (key a) (key x) ≡ r → cond (is_eq r) (Some x) (at key (key a) xs) ≡ None
      → without key (key a) (by_order r (a ∷ x ∷ xs) (a ∷ xs) (x ∷ put key a xs)) ≡ x ∷ xs) [
        | Less ↦ λ p no. goes a (x ∷ xs) ∙ none-goes (key a) (x ∷ xs) none
        | Equal ↦ λ p no. cc
        | Greater ↦ λ p no. stays a x (put key a xs) (ap is_eq p) ∙ ap (λ ys. x ∷ ys) (put-undone a xs no)
      ] refl none

pub undone : PutsAreUndone
undone r = record {
  member = λ m none. ap (λ rows. record r { members = rows }) (put-undone member_key m r.members none);
  alias = λ a none. ap (λ rows. record r { aliases = rows }) (put-undone alias_key a r.aliases none);
}
