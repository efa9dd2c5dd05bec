-- The accounts by primary group: how they change, and whether one of them is a user
use Rattle.std.proofs.Common.{◌≡◌, ℕ, ◌<◌, ◌≤◌, nat_lt, Bool, true, false, ◌&&◌, ◌||◌, cond, List, [], ◌∷◌, map}
use Rattle.std.proofs.Common.{Some, None, refl, sym, ap, subst, ◌∙◌, inl, inr, arith}
use Rattle.std.specs.List.{filter, list_any}
use Rattle.std.specs.List.Sorted.{IsNonDecreasingBy, IsPermutation, IsSortedByKey}
use Rattle.std.specs.declared.cmp.Ordering.TheVariants.{Less, Equal, Greater}
use Rattle.std.specs.Ordering.{nat_cmp, ordering_then, is_eq}
use Rattle.std.specs.Cmp.{first_so, second_so, nat_cmp_is}
use Rattle.std.proofs.lemmas.Bool.Decides.{nat_tests}
use Rattle.acct_tables.specs.steps.Indexes.{index}
use Rattle.acct_tables.specs.KeyedRows.{compare, at, put, without, by_order, is_ascending}
use Rattle.acct_tables.specs.steps.Primaries.{primary_key, by_primary, primaries_of, is_for}
use Rattle.acct_tables.specs.Keys.{account_key}
use Rattle.acct_tables.specs.Selected.{has_primary}
use Rattle.acct_tables.specs.declared.primaries.ByPrimary.{ByPrimary}
use Rattle.acct_tables.specs.declared.row.AccountRow.{AccountRow}
use Rattle.acct_tables.proofs.Halving.{rises}
use Rattle.acct_tables.proofs.Lookups.{below_apart}
use Rattle.acct_tables.proofs.Orders.{tested}
use Rattle.acct_tables.proofs.Indexed.{index_ascends, index_put_over, index_without, without_none, absent}
use Rattle.acct_tables.proofs.Sorts.{sorted_is}

-- ---- keys

primary_tells : (a b : AccountRow) → primary_key (by_primary a) ≡ primary_key (by_primary b)
    → account_key a ≡ account_key b
primary_tells a b e =
    let domain : a.domain ≡ b.domain = cc in
    let rid : a.rid ≡ b.rid = cc in
    rw (domain, rid) refl

abbrev pub primary : ByPrimary → ℕ
primary e = e.primary

primary_le : (a b : ByPrimary) → compare (primary_key a) (primary_key b) ≡ Less → primary a ≤ primary b
primary_le a b lt =
    elim (tested (nat_lt (primary b) (primary a))) [
      | inl t ↦ absurd (
          let lower : primary b < primary a = grind (arith, nat_tests) in
          let greater : nat_cmp (primary a) (primary b) ≡ Greater =
          sym (nat_cmp_is (primary a) (primary b) Greater lower) in
          let is : compare (primary_key a) (primary_key b) ≡ Greater =
          ap (λ r. ordering_then r (compare (a.domain ∷ a.rid ∷ []) (b.domain ∷ b.rid ∷ []))) greater in
          cc (lt, is))
      | inr t ↦ grind (arith, nat_tests)
    ]

-- the primary groups don't fall
pub primaries_rise : (xs : List ByPrimary) → is_ascending primary_key xs ≡ true → IsNonDecreasingBy primary xs
primaries_rise = rises primary_key primary primary_le

-- ---- changes

pub primaries_ascend : (accounts : List AccountRow) → is_ascending primary_key (primaries_of accounts) ≡ true
unfolding primaries_of
primaries_ascend = index_ascends by_primary account_key primary_key primary_tells

pub no_primaries : [] ≡ primaries_of []
unfolding primaries_of
no_primaries = refl

-- the accounts, sorted by primary group, whatever their order was
pub primaries_sorted : (accounts : List AccountRow) (entries sorted : List ByPrimary)
    → is_ascending account_key accounts ≡ true → entries ≡ map by_primary accounts → IsPermutation entries sorted
    → IsSortedByKey primary_key compare sorted → sorted ≡ primaries_of accounts
unfolding primaries_of
primaries_sorted accounts entries sorted h are moved rising =
    sorted_is by_primary account_key primary_key primary_tells accounts sorted h
    (subst (λ es. IsPermutation es sorted) are moved) rising

module _ (accounts : List AccountRow) (h : is_ascending account_key accounts ≡ true) where
  -- a put where the account with its key is gone
  pub primaries_put : (a : AccountRow)
      → put primary_key (by_primary a) (primaries_of (without account_key (account_key a) accounts))
      ≡ primaries_of (put account_key a accounts)
  unfolding primaries_of
  primaries_put a = sym (index_put_over by_primary account_key primary_key primary_tells a accounts h)

  pub primaries_without : (k : List ℕ) (old : AccountRow) → at account_key k accounts ≡ Some old
      → without primary_key (primary_key (by_primary old)) (primaries_of accounts)
      ≡ primaries_of (without account_key k accounts)
  unfolding primaries_of
  primaries_without k old there =
      sym (index_without by_primary account_key primary_key primary_tells k accounts old h there)

  pub primaries_stay : (k : List ℕ) → at account_key k accounts ≡ None
      → primaries_of accounts ≡ primaries_of (without account_key k accounts)
  primaries_stay k none = ap primaries_of (sym (without_none account_key k accounts h none))

-- ---- whose it is

exchanged : (a b c : Bool) → (a || (b || c)) ≡ (b || (a || c))
exchanged true true c = refl
exchanged true false c = refl
exchanged false true c = refl
exchanged false false c = refl

module _ {A : Type 0} (key : A → List ℕ) (p : A → Bool) where
  any_put : (x : A) (ys : List A) → at key (key x) ys ≡ None
      → list_any p (put key x ys) ≡ (p x || list_any p ys)
  any_put x [] none = refl
  any_put x (y ∷ ys) none =
      let rest = any_put x ys in
      elim (compare (key x) (key y)) as (λ r. cond (is_eq r) (Some y) (at key (key x) ys) ≡ None
      → list_any p (by_order r (x ∷ y ∷ ys) (x ∷ ys) (y ∷ put key x ys)) ≡ (p x || list_any p (y ∷ ys))) [
        | Less ↦ λ n. refl
        | Equal ↦ λ n. absurd cc
        | Greater ↦ λ n. ap (λ b. p y || b) (rest n) ∙ exchanged (p y) (p x) (list_any p ys)
      ] none

-- one of the entries passes where one of the accounts does
any_entry : (p : ByPrimary → Bool) (accounts : List AccountRow) → is_ascending account_key accounts ≡ true
    → list_any p (index by_primary primary_key accounts) ≡ list_any (λ a. p (by_primary a)) accounts
any_entry p [] h = refl
any_entry p (a ∷ others) h =
    let none : at account_key (account_key a) others ≡ None =
    below_apart account_key (account_key a) others (first_so _ _ h) in
    any_put primary_key p (by_primary a) (index by_primary primary_key others)
    (absent by_primary account_key primary_key primary_tells a others none)
    ∙ ap (λ b. p (by_primary a) || b) (any_entry p others (second_so _ _ h))

no_and : (b : Bool) → (b && false) ≡ false
no_and true = refl
no_and false = refl

and_so : (b : Bool) → (b && true) ≡ b
and_so true = refl
and_so false = refl

any_among : {A : Type 0} (p q : A → Bool) (xs : List A) → list_any q (filter p xs) ≡ list_any (λ x. q x && p x) xs
any_among p q [] = refl
any_among p q (x ∷ xs) =
    let rest = any_among p q xs in
    elim (p x) as (λ b. list_any q (cond b (x ∷ filter p xs) (filter p xs))
    ≡ ((q x && b) || list_any (λ y. q y && p y) xs)) [
      | true ↦ ap (λ c. q x || c) rest ∙ ap (λ c. c || list_any (λ y. q y && p y) xs) (sym (and_so (q x)))
      | false ↦ rest ∙ ap (λ c. c || list_any (λ y. q y && p y) xs) (sym (no_and (q x)))
    ]

pub primary_found : (group : ℕ) (accounts : List AccountRow) → is_ascending account_key accounts ≡ true
    → list_any (λ e. e.is_user) (filter (is_for group) (primaries_of accounts))
    ≡ list_any (has_primary group) accounts
unfolding primaries_of
primary_found group accounts h =
    any_among (is_for group) (λ (e : ByPrimary). e.is_user) (index by_primary primary_key accounts)
    ∙ any_entry (λ e. e.is_user && is_for group e) accounts h
