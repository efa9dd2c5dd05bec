-- What a look-up at a key finds: at the key's place, and after a change, by cases.
use Rattle.std.proofs.Common.{◌≡◌, ◌≢◌, ℕ, Bool, true, false, cond, not, List, [], ◌∷◌, Option, Some, None, Result, Ok}
use Rattle.std.proofs.Common.{Err, get_or, refl, sym, ap, subst, ◌∙◌, inl, inr, ◌⊎◌}
use Rattle.std.specs.Prelude.{if◌then◌else◌}
use Rattle.std.specs.List.{filter, find}
use Rattle.std.specs.declared.cmp.Ordering.TheVariants.{Less, Equal, Greater}
use Rattle.std.specs.Ordering.{is_eq}
use Rattle.std.specs.Cmp.{first_so, second_so}
use Rattle.acct_tables.specs.Keyed.{Key, compare, same_key, by_order, place, further, at, put, without, is_ascending}
use Rattle.acct_tables.specs.Keyed.{below_all}
use Rattle.acct_tables.proofs.Orders.{tested, less, tied-is, same_key-is, same_key-itself, apart}
use Rattle.acct_tables.proofs.Ascending.{below_less}

pub shadowed : {A : Type 0} (b : Bool) (x y z : A) → cond b x z ≡ cond b x (cond b y z)
shadowed true x y z = refl
shadowed false x y z = refl

pub swapped : {A : Type 0} (a b : Bool) (x y z : A) → (a ≡ true → b ≢ true)
    → cond a x (cond b y z) ≡ cond b y (cond a x z)
swapped true true x y z differ = absurd (differ refl refl)
swapped true false x y z differ = refl
swapped false b x y z differ = refl

same_either : {A : Type 0} (b : Bool) (x : A) → x ≡ cond b x x
same_either true x = refl
same_either false x = refl

module _ {A : Type 0} (key : A → Key) where
  pub below_apart : (q : Key) (xs : List A) → below_all key q xs ≡ true → at key q xs ≡ None
  below_apart q [] h = refl
  below_apart q (x ∷ xs) h = ap (λ r. cond (is_eq r) (Some x) (at key q xs)) (less _ (first_so _ _ h))
      ∙ below_apart q xs (second_so _ _ h)

  abbrev found_at : Result ℕ ℕ → A → List A → Option A
  found_at (Ok i) d xs = Some (get_or xs i d)
  found_at (Err i) d xs = None

  found_further : (r : Result ℕ ℕ) (d x : A) (xs : List A) → found_at (further r) d (x ∷ xs) ≡ found_at r d xs
  found_further (Ok i) d x xs = refl
  found_further (Err i) d x xs = refl

  at-place : (q : Key) (d : A) (xs : List A) → is_ascending key xs ≡ true
      → at key q xs ≡ found_at (place key q xs) d xs
  at-place q d [] h = refl
  at-place q d (x ∷ xs) h =
      let rest = at-place q d xs (second_so _ _ h) in
      elim (compare q (key x)) as
      (λ r. compare q (key x) ≡ r
      → cond (is_eq r) (Some x) (at key q xs)
      ≡ found_at (by_order r (Err 0) (Ok 0) (further (place key q xs))) d (x ∷ xs)) [
        | Less ↦ λ p. below_apart q xs (below_less key q (key x) xs p (first_so _ _ h))
        | Equal ↦ λ p. refl
        | Greater ↦ λ p. rest ∙ sym (found_further (place key q xs) d x xs)
      ] refl

  pub at-placed : (q : Key) (xs : List A) (i : ℕ) (x : A) → is_ascending key xs ≡ true → Ok i ≡ place key q xs
      → x ≡ get_or xs i x → Some x ≡ at key q xs
  at-placed q xs i x h p is = sym (at-place q x xs h ∙ ap (λ r. found_at r x xs) (sym p) ∙ ap Some (sym is))

  -- no value is at hand where there is none
  pub at-unplaced : (q : Key) (xs : List A) (i : ℕ) → is_ascending key xs ≡ true → Err i ≡ place key q xs
      → at key q xs ≡ None
  at-unplaced q [] i h p = refl
  at-unplaced q (x ∷ xs) i h p = at-place q x (x ∷ xs) h ∙ ap (λ r. found_at r x (x ∷ xs)) (sym p)

-- ---- after a change

module _ {A : Type 0} (key : A → Key) where
  -- the row that was put is found at its key, and at every other key what was there
  pub at-put : (q : List ℕ) (a : A) (xs : List A)
      → at key q (put key a xs) ≡ (if same_key q (key a) then Some a else at key q xs)
  at-put q a [] = refl
  at-put q a (x ∷ xs) =
      elim (compare (key a) (key x)) as
      (λ r. compare (key a) (key x) ≡ r
      → at key q (by_order r (a ∷ x ∷ xs) (a ∷ xs) (x ∷ put key a xs))
      ≡ (if same_key q (key a) then Some a else at key q (x ∷ xs))) [
        | Less ↦ λ p. refl
        | Equal ↦ λ p. subst (λ (k : List ℕ). cond (same_key q (key a)) (Some a) (at key q xs)
            ≡ cond (same_key q (key a)) (Some a) (cond (same_key q k) (Some x) (at key q xs))) (tied-is _ _ p)
            (shadowed (same_key q (key a)) (Some a) (Some x) (at key q xs))
        | Greater ↦ λ p. ap (cond (same_key q (key x)) (Some x)) (at-put q a xs)
            ∙ swapped (same_key q (key x)) (same_key q (key a)) (Some x) (Some a) (at key q xs)
            (λ u v. apart (key a) (key x) (sym (same_key-is q (key a) v) ∙ same_key-is q (key x) u) p)
      ] refl

  -- a filter by the key
  pub at-filter : (p : List ℕ → Bool) (q : List ℕ) (xs : List A)
      → at key q (filter (λ x. p (key x)) xs) ≡ (if p q then at key q xs else None)
  at-filter p q [] = same_either (p q) None
  at-filter p q (x ∷ xs) =
      let rest = at-filter p q xs in
      elim (p (key x)) as (λ b. p (key x) ≡ b
      → at key q (cond b (x ∷ filter (λ y. p (key y)) xs) (filter (λ y. p (key y)) xs))
      ≡ cond (p q) (cond (same_key q (key x)) (Some x) (at key q xs)) None) [
        | true ↦ λ e. passes e (same_key q (key x)) refl rest
        | false ↦ λ e. fails e (same_key q (key x)) refl rest
      ] refl
    where
      passes : p (key x) ≡ true → (s : Bool) → same_key q (key x) ≡ s
          → at key q (filter (λ y. p (key y)) xs) ≡ cond (p q) (at key q xs) None
          → cond s (Some x) (at key q (filter (λ y. p (key y)) xs)) ≡ cond (p q) (cond s (Some x) (at key q xs)) None
      passes e true s rest = ap (λ b. cond b (Some x) None) (sym e ∙ ap p (sym (same_key-is _ _ s)))
      passes e false s rest = rest

      fails : p (key x) ≡ false → (s : Bool) → same_key q (key x) ≡ s
          → at key q (filter (λ y. p (key y)) xs) ≡ cond (p q) (at key q xs) None
          → at key q (filter (λ y. p (key y)) xs) ≡ cond (p q) (cond s (Some x) (at key q xs)) None
      fails e true s rest = let no : p q ≡ false = ap p (same_key-is _ _ s) ∙ e in rest
          ∙ ap (λ b. cond b (at key q xs) None) no ∙ sym (ap (λ b. cond b (Some x) None) no)
      fails e false s rest = rest

  pub at-without : (q k : List ℕ) (xs : List A)
      → at key q (without key k xs) ≡ (if not (same_key k q) then at key q xs else None)
  at-without q k xs = at-filter (λ j. not (same_key k j)) q xs

pub same_Some : {A : Type 0} {x y : A} → Some x ≡ Some y → x ≡ y
same_Some e = cc

module _ {A : Type 0} (key : A → List ℕ) where
  pub key_found : (q : List ℕ) (xs : List A) (a : A) → at key q xs ≡ Some a → key a ≡ q
  key_found q [] a e = cc
  key_found q (x ∷ xs) a e =
      elim (same_key q (key x)) as (λ b. same_key q (key x) ≡ b → cond b (Some x) (at key q xs) ≡ Some a → key a ≡ q) [
        | true ↦ λ s e. ap key (sym (same_Some e)) ∙ sym (same_key-is _ _ s)
        | false ↦ λ s e. key_found q xs a e
      ] refl e

  pub put_here : (a : A) (xs : List A) → at key (key a) (put key a xs) ≡ Some a
  put_here a xs = at-put key (key a) a xs ∙ ap (λ b. cond b (Some a) (at key (key a) xs)) (same_key-itself (key a))

  -- what is found after a put is what was put, or was there
  pub put_cases : (q : List ℕ) (a : A) (xs : List A) (b : A) → at key q (put key a xs) ≡ Some b
      → ((q ≡ key a) × (b ≡ a)) ⊎ (at key q xs ≡ Some b)
  put_cases q a xs b e =
      elim (same_key q (key a)) as
      (λ s. same_key q (key a) ≡ s → cond s (Some a) (at key q xs) ≡ Some b
      → ((q ≡ key a) × (b ≡ a)) ⊎ (at key q xs ≡ Some b)) [
        | true ↦ λ s e. inl (same_key-is _ _ s, sym (same_Some e))
        | false ↦ λ s e. inr e
      ] refl (sym (at-put key q a xs) ∙ e)

  pub put_elsewhere : (q : List ℕ) (a : A) (xs : List A) → q ≢ key a → at key q (put key a xs) ≡ at key q xs
  put_elsewhere q a xs apart =
      at-put key q a xs ∙ elim (same_key q (key a)) as
      (λ s. same_key q (key a) ≡ s
      → cond s (Some a) (at key q xs)
      ≡ at key q xs) [ true ↦ λ s. absurd (apart (same_key-is _ _ s)) | false ↦ λ s. refl ] refl

  -- a row that was there is there after a put of a new key
  pub put_keeps : (q : List ℕ) (a : A) (xs : List A) (b : A) → at key (key a) xs ≡ None → at key q xs ≡ Some b
      → at key q (put key a xs) ≡ Some b
  put_keeps q a xs b new e =
      put_elsewhere q a xs (λ same. let n : at key q xs ≡ None = ap (λ k. at key k xs) same ∙ new in cc) ∙ e

pub put_either : {A : Type 0} (key : A → List ℕ) (q : List ℕ) (a : A) (xs : List A)
    → ((q ≡ key a) × (at key q (put key a xs) ≡ Some a)) ⊎ (at key q (put key a xs) ≡ at key q xs)
put_either key q a xs =
    elim (tested (same_key q (key a))) [
      | inl s ↦ inl (same_key-is _ _ s, at-put key q a xs ∙ ap (λ b. cond b (Some a) (at key q xs)) s)
      | inr s ↦ inr (at-put key q a xs ∙ ap (λ b. cond b (Some a) (at key q xs)) s)
    ]

pub there_or_not : {A : Type 0} (o : Option A) → ((a : A) × (o ≡ Some a)) ⊎ (o ≡ None)
there_or_not None = inr refl
there_or_not (Some a) = inl (a, refl)

-- nothing that is found at a key passes a test that nothing passes
pub find_none : {A : Type 0} (key : A → List ℕ) (p : A → Bool) (q : List ℕ) (xs : List A) (b : A) → find p xs ≡ None
    → at key q xs ≡ Some b → p b ≡ false
find_none key p q [] b none e = cc
find_none key p q (x ∷ xs) b none e =
    elim (p x) as (λ t. p x ≡ t → cond t (Some x) (find p xs) ≡ None → p b ≡ false) [
      | true ↦ λ t n. cc
      | false ↦ λ t n. elim (same_key q (key x)) as (λ s. cond s (Some x) (at key q xs) ≡ Some b → p b ≡ false) [
        | true ↦ λ f. ap p (sym (same_Some f)) ∙ t
        | false ↦ λ f. find_none key p q xs b n f
      ] e
    ] refl none
