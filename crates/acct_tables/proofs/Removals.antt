-- What a look-up at a key finds after removals, by cases
use Rattle.std.proofs.Common.{◌≡◌, ◌≢◌, ℕ, Bool, true, false, ◌||◌, not, cond, List, [], ◌∷◌, map, Some}
use Rattle.std.proofs.Common.{None, refl, sym, ap, ◌∙◌, inl, inr}
use Rattle.std.specs.List.{filter, list_any}
use Rattle.acct_tables.specs.Keyed.{same_key, at, without, without_keys, is_ascending}
use Rattle.acct_tables.proofs.Ascending.{is_ascending-filter}
use Rattle.acct_tables.proofs.Lookups.{at-without, same_Some, key_found}
use Rattle.acct_tables.proofs.Orders.{same_key-is, same_key-itself, tested}

module _ {A : Type 0} (key : A → List ℕ) where
  -- what is found after a removal was there, at another key
  pub without_found : (q k : List ℕ) (xs : List A) (b : A) → at key q (without key k xs) ≡ Some b
      → (at key q xs ≡ Some b) × (k ≢ q)
  without_found q k xs b e =
      elim (tested (same_key k q)) [
        | inl s ↦ absurd (let n : at key q (without key k xs) ≡ None = at-without key q k xs
            ∙ ap (λ t. cond (not t) (at key q xs) None) s in cc)
        | inr s ↦ (
          sym (at-without key q k xs ∙ ap (λ t. cond (not t) (at key q xs) None) s)
              ∙ e,
          λ same. let t : same_key k q ≡ true = ap (same_key k) (sym same) ∙ same_key-itself k in cc,
        )
      ]

  pub without_keeps : (q k : List ℕ) (xs : List A) → k ≢ q → at key q (without key k xs) ≡ at key q xs
  without_keeps q k xs apart =
      elim (tested (same_key k q)) [
        | inl s ↦ absurd (apart (same_key-is _ _ s))
        | inr s ↦ at-without key q k xs ∙ ap (λ t. cond (not t) (at key q xs) None) s
      ]

  pub is_ascending-without_all : (ks : List (List ℕ)) (xs : List A) → is_ascending key xs ≡ true
      → is_ascending key (without_keys key ks xs) ≡ true
  is_ascending-without_all [] xs h = h
  is_ascending-without_all (k ∷ ks) xs h =
      is_ascending-without_all ks (without key k xs) (is_ascending-filter key _ xs h)

  -- a row that is found after the removal of some keys was there, at none of them
  all_found : (q : List ℕ) (ks : List (List ℕ)) (xs : List A) (b : A) → at key q (without_keys key ks xs) ≡ Some b
      → (at key q xs ≡ Some b) × (list_any (λ k. same_key k q) ks ≡ false)
  all_found q [] xs b e = (e, refl)
  all_found q (k ∷ ks) xs b e =
      let rest : (at key q (without key k xs) ≡ Some b) × (list_any (λ k. same_key k q) ks ≡ false) =
      all_found q ks (without key k xs) b e in
      let here : (at key q xs ≡ Some b) × (k ≢ q) = without_found q k xs b rest.0 in (
        here.0,
        elim (tested (same_key k q)) [
          | inl s ↦ absurd (here.1 (same_key-is _ _ s))
          | inr s ↦ rw
              (s, rest.1) refl
        ],
      )

  all_keep : (q : List ℕ) (ks : List (List ℕ)) (xs : List A) → list_any (λ k. same_key k q) ks ≡ false
      → at key q (without_keys key ks xs) ≡ at key q xs
  all_keep q [] xs h = refl
  all_keep q (k ∷ ks) xs h =
      elim (tested (same_key k q)) [
        | inl s ↦ absurd (let t : (same_key k q || list_any (λ k. same_key k q) ks) ≡ true =
            ap (λ b. b || list_any (λ k. same_key k q) ks) s in cc)
        | inr s ↦ all_keep q ks (without key k xs) (sym (ap (λ b. b || list_any (λ k. same_key k q) ks) s) ∙ h)
            ∙ without_keeps q k xs
            (λ same. let t : same_key k q ≡ true = ap (same_key k) (sym same) ∙ same_key-itself k in cc)
      ]

  module _ (p : A → Bool) where
    -- the keys of the rows that pass have the key of one that is found and passes
    listed : (q : List ℕ) (xs : List A) (b : A) → at key q xs ≡ Some b → p b ≡ true
        → list_any (λ k. same_key k q) (map key (filter p xs)) ≡ true
    listed q [] b e t = cc
    listed q (x ∷ xs) b e t =
        elim (tested (same_key q (key x))) [
          | inl s ↦
              let one : x ≡ b = same_Some (sym (ap (λ c. cond c (Some x) (at key q xs)) s) ∙ e) in
              let pass : p x ≡ true = ap p one ∙ t in
              let same : same_key (key x) q ≡ true = ap (same_key (key x)) (same_key-is _ _ s)
              ∙ same_key-itself (key x) in
              ap (λ c. list_any (λ k. same_key k q) (map key (cond c (x ∷ filter p xs) (filter p xs)))) pass
              ∙ ap (λ c. c || list_any (λ k. same_key k q) (map key (filter p xs))) same
          | inr s ↦
              let rest = listed q xs b (sym (ap (λ c. cond c (Some x) (at key q xs)) s) ∙ e) t in
              elim (p x) as (λ c. list_any (λ k. same_key k q) (map key (cond c (x ∷ filter p xs) (filter p xs)))
              ≡ true) [
                | true ↦ later (same_key (key x) q) _ rest
                | false ↦ rest
              ]
        ]
      where
        later : (a b : Bool) → b ≡ true → (a || b) ≡ true
        later true b h = refl
        later false b h = h

    pub unlisted : ((x y : A) → key x ≡ key y → p x ≡ p y) → (q : List ℕ) (xs : List A) (b : A) → key b ≡ q
        → p b ≡ false
        → list_any (λ k. same_key k q) (map key (filter p xs)) ≡ false
    unlisted alike q [] b e f = refl
    unlisted alike q (x ∷ xs) b e f =
        let rest = unlisted alike q xs b e f in
        elim (tested (p x)) [
          | inr no_pass ↦ ap (λ c. list_any (λ k. same_key k q)
              (map key (cond c (x ∷ filter p xs) (filter p xs)))) no_pass ∙ rest
          | inl pass ↦ elim (tested (same_key (key x) q)) [
            | inl s ↦ absurd (let same : p x ≡ p b = alike x b (same_key-is _ _ s ∙ sym e) in cc)
            | inr s ↦ ap (λ c. list_any (λ k. same_key k q) (map key (cond c (x ∷ filter p xs) (filter p xs)))) pass
                ∙ ap (λ c. c || list_any (λ k. same_key k q) (map key (filter p xs))) s ∙ rest
          ]
        ]

    -- what is found after the rows that pass were removed was there, and doesn't pass
    pub purged_found : (q : List ℕ) (xs : List A) (b : A)
        → at key q (without_keys key (map key (filter p xs)) xs) ≡ Some b → (at key q xs ≡ Some b) × (p b ≡ false)
    purged_found q xs b e =
        let found : (at key q xs ≡ Some b) × (list_any (λ k. same_key k q) (map key (filter p xs)) ≡ false) =
        all_found q (map key (filter p xs)) xs b e in (
          found.0,
          elim (tested (p b)) [
            | inl t ↦ absurd
                (let any = listed q xs b found.0 t in cc (any, found.1))
            | inr f ↦ f
          ],
        )

    pub purged_keeps : ((x y : A) → key x ≡ key y → p x ≡ p y) → (q : List ℕ) (xs : List A) (b : A)
        → at key q xs ≡ Some b → p b ≡ false → at key q (without_keys key (map key (filter p xs)) xs) ≡ Some b
    purged_keeps alike q xs b e f =
        all_keep q (map key (filter p xs)) xs (unlisted alike q xs b (key_found key q xs b e) f) ∙ e
