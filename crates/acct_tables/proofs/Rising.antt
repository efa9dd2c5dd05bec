-- The aliases of some SIDs rise strictly, as alias rows stand by alias
use Rattle.std.proofs.Common.{◌≡◌, ℕ, ◌<◌, ◌≤◌, ◌==◌, nat_lt, ◌&&◌, Bool, true, cond, List, [], ◌∷◌, map, refl}
use Rattle.std.proofs.Common.{sym, ap, subst, ◌∙◌}
use Rattle.std.proofs.Common.{inl, inr, arith}
use Rattle.std.specs.List.{filter, list_all}
use Rattle.std.specs.Cmp.{first_so, second_so, nat_cmp_is}
use Rattle.std.specs.declared.result.Result.{Result}
use Rattle.std.specs.declared.result.Result.TheVariants.{Ok, Err}
use Rattle.std.specs.Result.{IfOk}
use Rattle.std.specs.Ordering.{nat_cmp, ordering_then, is_lt}
use Rattle.std.specs.declared.cmp.Ordering.TheVariants.{Less, Equal, Greater}
use Rattle.std.proofs.lemmas.Bool.Decides.{nat_tests}
use Rattle.dtyp_sid.specs.Sids.{SidValue}
use Rattle.acct_tables.specs.KeyedRows.{compare, below_all, is_ascending}
use Rattle.acct_tables.specs.Keys.{sid_key, alias_key}
use Rattle.acct_tables.specs.Selected.{has_one, each_once_after, each_once}
use Rattle.acct_tables.specs.declared.row.AliasRow.{AliasRow}
use Rattle.acct_tables.proofs.Ascending.{below_less, is_ascending-filter}
use Rattle.acct_tables.proofs.Orders.{less, tested}

abbrev pub number_key : ℕ → List ℕ
number_key n = n ∷ []

-- numbers from one on that don't fall
abbrev DontFall : ℕ → List ℕ → Type 0
DontFall before [] = Unit {0}
DontFall before (n ∷ ns) = (before ≤ n) × DontFall n ns

both : (a b : Bool) → a ≡ true → b ≡ true → (a && b) ≡ true
both a b p q = rw (p, q) refl

pub number_less : (m n : ℕ) → m < n → compare (m ∷ []) (n ∷ []) ≡ Less
number_less m n lt = ap (λ r. ordering_then r Equal) (sym (nat_cmp_is m n Less lt))

once_rises : (before : ℕ) (ns : List ℕ) → DontFall before ns
    → (below_all number_key (before ∷ []) (each_once_after before ns) ≡ true) ×
    (is_ascending number_key (each_once_after before ns) ≡ true)
once_rises before [] dont = (refl, refl)
once_rises before (n ∷ ns) dont =
    elim (tested (n == before)) [
      | inl t ↦
          let same : n ≡ before = grind (arith, nat_tests) in
          let rest = once_rises before ns (subst (λ k. DontFall k ns) same dont.1) in (
            ap (λ b. below_all number_key (before ∷ [])
                (cond b (each_once_after before ns) (n ∷ each_once_after n ns))) t ∙ rest.0,
            ap (λ b. is_ascending number_key (cond b (each_once_after before ns) (n ∷ each_once_after n ns))) t
                ∙ rest.1,
          )
      | inr t ↦
          let rest = once_rises n ns dont.1 in
          let above : before < n = grind (arith, nat_tests, dont.0) in
          let under : compare (before ∷ []) (n ∷ []) ≡ Less = number_less before n above in (
            ap (λ b. below_all number_key (before ∷ [])
                (cond b (each_once_after before ns) (n ∷ each_once_after n ns))) t
                ∙ both _ _ (ap is_lt under)
                (below_less number_key (before ∷ []) (n ∷ []) (each_once_after n ns) under rest.0),
            ap (λ b. is_ascending number_key (cond b (each_once_after before ns) (n ∷ each_once_after n ns))) t
                ∙ both _ _ rest.0 rest.1,
          )
    ]

-- rows of one domain that ascend have aliases that don't fall
alias_le : (a b : AliasRow) → a.domain ≡ b.domain → compare (alias_key a) (alias_key b) ≡ Less → a.alias ≤ b.alias
alias_le a b same lt =
    elim (tested (nat_lt b.alias a.alias)) [
      | inl t ↦ absurd (
          let lower : b.alias < a.alias = grind (arith, nat_tests) in
          let greater : nat_cmp a.alias b.alias ≡ Greater = sym (nat_cmp_is a.alias b.alias Greater lower) in
          let equal : nat_cmp a.domain b.domain ≡ Equal = sym (nat_cmp_is a.domain b.domain Equal same) in
          let members = compare (sid_key a.member) (sid_key b.member) in
          let is : compare (alias_key a) (alias_key b) ≡ Greater =
          ap (λ r. ordering_then r (ordering_then (nat_cmp a.alias b.alias) members)) equal
          ∙ ap (λ r. ordering_then r members) greater in
          cc (lt, is))
      | inr t ↦ grind (arith, nat_tests)
    ]

dont_fall : (domain : ℕ) (a : AliasRow) (xs : List AliasRow) → list_all (λ x. x.domain == domain) (a ∷ xs) ≡ true
    → is_ascending alias_key (a ∷ xs) ≡ true → DontFall a.alias (map (λ x. x.alias) xs)
dont_fall domain a [] all h = tt
dont_fall domain a (x ∷ xs) all h =
    let first : (a.domain == domain) ≡ true = first_so _ _ all in
    let second : (x.domain == domain) ≡ true = first_so _ _ (second_so _ _ all) in
    let same : a.domain ≡ x.domain = grind (arith, nat_tests) in (
      alias_le a x same (less _ (first_so _ _ (first_so _ _ h))),
      dont_fall domain x xs (second_so _ _ all)
          (second_so _ _ h),
    )

in_domain : (domain : ℕ) (sids : List SidValue) (xs : List AliasRow)
    → list_all (λ x. x.domain == domain) (filter (has_one domain sids) xs) ≡ true
in_domain domain sids [] = refl
in_domain domain sids (x ∷ xs) =
    let rest = in_domain domain sids xs in
    elim (tested (has_one domain sids x)) [
      | inl t ↦ ap (λ b. list_all (λ y. y.domain == domain)
          (cond b (x ∷ filter (has_one domain sids) xs) (filter (has_one domain sids) xs))) t
          ∙ both _ _ (first_so _ _ t) rest
      | inr t ↦ ap (λ b. list_all (λ y. y.domain == domain)
          (cond b (x ∷ filter (has_one domain sids) xs) (filter (has_one domain sids) xs))) t ∙ rest
    ]

rows_rise : (domain : ℕ) (xs : List AliasRow) → list_all (λ x. x.domain == domain) xs ≡ true
    → is_ascending alias_key xs ≡ true
    → is_ascending number_key (each_once (map (λ x. x.alias) xs)) ≡ true
rows_rise domain [] all h = refl
rows_rise domain (x ∷ xs) all h =
    let rest = once_rises x.alias (map (λ y. y.alias) xs) (dont_fall domain x xs all h) in
    both _ _ rest.0 rest.1

pub aliases_rise : (domain : ℕ) (sids : List SidValue) (xs : List AliasRow) → is_ascending alias_key xs ≡ true
    → is_ascending number_key (each_once (map (λ x. x.alias) (filter (has_one domain sids) xs))) ≡ true
aliases_rise domain sids xs h =
    rows_rise domain (filter (has_one domain sids) xs) (in_domain domain sids xs)
    (is_ascending-filter alias_key (has_one domain sids) xs h)

-- so do those that were found, if there was memory
pub found_rise : {E : Type 0} (domain : ℕ) (sids : List SidValue) (xs : List AliasRow) (r : Result (List ℕ) E)
    → is_ascending alias_key xs ≡ true
    → IfOk r (λ ns. ns ≡ each_once (map (λ x. x.alias) (filter (has_one domain sids) xs)))
    → IfOk r (λ ns. is_ascending (λ n. n ∷ []) ns ≡ true)
found_rise domain sids xs (Ok ns) h is =
    subst (λ ms. is_ascending number_key ms ≡ true) (sym is) (aliases_rise domain sids xs h)
found_rise domain sids xs (Err e) h is = is
