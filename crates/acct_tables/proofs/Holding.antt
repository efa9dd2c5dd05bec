-- The members of aliases by SID: the rows of one SID in a domain, and the aliases that these name
use Rattle.std.proofs.Common.{◌≡◌, ◌≢◌, ℕ, suc, ◌+◌, ◌<◌, ◌==◌, Bool, true, false, cond, List, [], ◌∷◌, map}
use Rattle.std.proofs.Common.{get_or, drop, refl, sym, ap, subst, ◌∙◌, inl, inr, arith}
use Rattle.std.proofs.lemmas.Bool.{eq-eqb}
use Rattle.std.proofs.lemmas.List.Concat.{flat_map-cons}
use Rattle.std.specs.Prelude.{◌↔◌, IfOk}
use Rattle.std.specs.List.{filter, flat_map, list_any, Contains}
use Rattle.std.specs.List.Sorted.{IsStrictlyIncreasing, IsPermutation, IsSortedByKey}
use Rattle.std.specs.declared.result.Result.{Result}
use Rattle.std.specs.declared.result.Result.TheVariants.{Ok, Err}
use Rattle.std.specs.declared.cmp.Ordering.TheVariants.{Less, Equal, Greater}
use Rattle.std.specs.Ordering.{nat_cmp, ordering_then}
use Rattle.std.specs.Cmp.{first_so, second_so, tied_itself, nat_cmp_is}
use Rattle.std.proofs.lemmas.Cmp.{nat_cmp_total}
use Rattle.std.specs.Cmp.Lexicographic.{nat_list_cmp_total}
use Rattle.std.specs.FinMap.{nat_cmp-IsAntisymmetric}
use Rattle.dtyp_sid.specs.Sids.{SidValue, sid_eq, sid_cmp}
use Rattle.dtyp_sid.proofs.Equal.{equal_sids}
use Rattle.acct_tables.specs.steps.Indexes.{held, membership_key, index, membership_of, memberships_of, is_for}
use Rattle.acct_tables.specs.steps.Indexes.{alias_number_of, held_by}
use Rattle.acct_tables.specs.KeyedRows.{compare, at, put, without, place, is_ascending}
use Rattle.acct_tables.specs.Keys.{alias_key, sid_key}
use Rattle.acct_tables.specs.Selected.{has_one, each_once, each_once_after}
use Rattle.acct_tables.specs.declared.row.AliasRow.{AliasRow}
use Rattle.acct_tables.specs.declared.membership.Membership.{Membership}
use Rattle.acct_tables.proofs.Ascending.{In, below_less}
use Rattle.acct_tables.proofs.Ended.{then_then, ended-compare, ended-parts}
use Rattle.acct_tables.proofs.Lookups.{there_or_not, key_found}
use Rattle.acct_tables.proofs.Standing.{in_map, map_in, contains_in, in_contains, any_in, in_any}
use Rattle.acct_tables.proofs.Orders.{tested, tied-is}
use Rattle.acct_tables.proofs.Sorted.{in_left, in_right, in_either}
use Rattle.acct_tables.proofs.FoldOrder.{alone, squeezed, not_below}
use Rattle.acct_tables.proofs.Indexed.{index_ascends, index_put, index_put_over, index_without, without_none, put_over}
use Rattle.acct_tables.proofs.Indexed.{absent, in_index, index_in, same_members}
use Rattle.acct_tables.proofs.Equals.{equal_is}
use Rattle.acct_tables.proofs.Rising.{number_key, number_less, aliases_rise}
use Rattle.acct_tables.proofs.Runs.{spot, leading, run}
use Rattle.acct_tables.proofs.Sorts.{sorted_is}

-- ---- keys

held-compare : (s t : SidValue) (d e a b : ℕ)
    → compare (held s d a) (held t e b)
    ≡ ordering_then (nat_cmp s.authority t.authority)
    (ordering_then (compare s.subs t.subs) (ordering_then (nat_cmp d e) (nat_cmp a b)))
held-compare s t d e a b =
    ap (ordering_then (nat_cmp s.authority t.authority)) (ended-compare s.subs t.subs (d ∷ a ∷ []) (e ∷ b ∷ [])
    ∙ ap (λ r. ordering_then (compare s.subs t.subs) (ordering_then (nat_cmp d e) r)) (alone a b))

pub held_order : (s t : SidValue) (d e a b : ℕ)
    → compare (held s d a) (held t e b) ≡ ordering_then (ordering_then (sid_cmp s t) (nat_cmp d e)) (nat_cmp a b)
held_order s t d e a b =
    held-compare s t d e a b
    ∙ sym (then_then (sid_cmp s t) (nat_cmp d e) (nat_cmp a b)
    ∙ then_then (nat_cmp s.authority t.authority) (compare s.subs t.subs) (ordering_then (nat_cmp d e) (nat_cmp a b)))

sid_is : (s t : SidValue) → s.authority ≡ t.authority → s.subs ≡ t.subs → s ≡ t
sid_is s t authority subs =
    ap (λ n. record { authority = n; subs = s.subs }) authority
    ∙ ap (λ ns. record { authority = t.authority; subs = ns }) subs

pub membership_tells : (a b : AliasRow) → membership_key (membership_of a) ≡ membership_key (membership_of b)
    → alias_key a ≡ alias_key b
membership_tells a b e =
    let authority : a.member.authority ≡ b.member.authority = cc in
    let rest = ended-parts a.member.subs b.member.subs (a.domain ∷ a.alias ∷ []) (b.domain ∷ b.alias ∷ []) cc in
    let numbers = rest.1 in
    let domain : a.domain ≡ b.domain = cc in
    let alias : a.alias ≡ b.alias = cc in
    rw (domain, alias, authority, rest.0) refl

told : (domain alias : ℕ) (sid : SidValue) (a : AliasRow) → alias_key a ≡ domain ∷ alias ∷ sid_key sid
    → membership_key (membership_of a) ≡ held sid domain alias
told domain alias sid a e =
    let domains : a.domain ≡ domain = cc in
    let aliases : a.alias ≡ alias = cc in
    let authority : a.member.authority ≡ sid.authority = cc in
    let subs : a.member.subs ≡ sid.subs = cc in
    rw (domains, aliases, authority, subs) refl

-- ---- changes

pub memberships_ascend : (aliases : List AliasRow) → is_ascending membership_key (memberships_of aliases) ≡ true
unfolding memberships_of
memberships_ascend = index_ascends membership_of alias_key membership_key membership_tells

pub no_memberships : [] ≡ memberships_of []
unfolding memberships_of
no_memberships = refl

-- the alias rows, sorted by SID, whatever their order was
pub memberships_sorted : (aliases : List AliasRow) (entries memberships : List Membership)
    → is_ascending alias_key aliases ≡ true → entries ≡ map membership_of aliases → IsPermutation entries memberships
    → IsSortedByKey membership_key compare memberships → memberships ≡ memberships_of aliases
unfolding memberships_of
memberships_sorted aliases entries memberships h are moved sorted =
    sorted_is membership_of alias_key membership_key membership_tells aliases memberships h
    (subst (λ es. IsPermutation es memberships) are moved) sorted

module _ (aliases : List AliasRow) (h : is_ascending alias_key aliases ≡ true) where
  pub memberships_put : (a : AliasRow)
      → put membership_key (membership_of a) (memberships_of aliases) ≡ memberships_of (put alias_key a aliases)
  unfolding memberships_of
  memberships_put a =
      let all : List Membership = index membership_of membership_key aliases in
      elim (there_or_not (at alias_key (alias_key a) aliases)) [
        | inr none ↦ sym (index_put membership_of alias_key membership_key membership_tells a aliases none)
        | inl w ↦
            let same : membership_key (membership_of w.0) ≡ membership_key (membership_of a) =
            told a.domain a.alias a.member w.0 (key_found alias_key (alias_key a) aliases w.0 w.1) in
            put_over membership_key (membership_of a) all
            (index_ascends membership_of alias_key membership_key membership_tells aliases)
            ∙ ap (λ k. put membership_key (membership_of a) (without membership_key k all)) (sym same)
            ∙ ap (put membership_key (membership_of a))
            (sym (index_without membership_of alias_key membership_key membership_tells (alias_key a) aliases w.0 h
            w.1))
            ∙ sym (index_put_over membership_of alias_key membership_key membership_tells a aliases h)
      ]

  pub memberships_without : (domain alias : ℕ) (sid : SidValue)
      → without membership_key (held sid domain alias) (memberships_of aliases)
      ≡ memberships_of (without alias_key (domain ∷ alias ∷ sid_key sid) aliases)
  unfolding memberships_of
  memberships_without domain alias sid =
      let k : List ℕ = domain ∷ alias ∷ sid_key sid in
      let row : AliasRow = record { domain = domain; alias = alias; member = sid } in
      let all : List Membership = index membership_of membership_key aliases in
      elim (there_or_not (at alias_key k aliases)) [
        | inr none ↦
            without_none membership_key (held sid domain alias) all
            (index_ascends membership_of alias_key membership_key membership_tells aliases)
            (absent membership_of alias_key membership_key membership_tells row aliases none)
            ∙ ap (index membership_of membership_key) (sym (without_none alias_key k aliases h none))
        | inl w ↦
            ap (λ j. without membership_key j all)
            (sym (told domain alias sid w.0 (key_found alias_key k aliases w.0 w.1)))
            ∙ sym (index_without membership_of alias_key membership_key membership_tells k aliases w.0 h w.1)
      ]

-- ---- the members of a SID in a domain

module _ (d : ℕ) (sid : SidValue) where
  is : (m : Membership) → is_for d sid m ≡ true → (m.domain ≡ d) × (m.member ≡ sid)
  is m t = (equal_is m.domain d (first_so _ _ t), (equal_sids m.member sid).0.0 (second_so _ _ t))

  so : (m : Membership) → m.domain ≡ d → m.member ≡ sid → is_for d sid m ≡ true
  so m domain member = rw (eq-eqb m.domain d domain, (equal_sids m.member sid).0.1 member) refl

  low : (m : Membership) → is_for d sid m ≡ true → compare (held sid d 0) (membership_key m) ≢ Greater
  low m t gt =
      let w = is m t in
      let alike : compare (held sid d 0) (membership_key m) ≡ nat_cmp 0 m.alias =
      held-compare sid m.member d m.domain 0 m.alias
      ∙ ap (λ o. ordering_then o (ordering_then (compare sid.subs m.member.subs)
      (ordering_then (nat_cmp d m.domain) (nat_cmp 0 m.alias))))
      (sym (nat_cmp_is sid.authority m.member.authority Equal (ap (λ s. s.authority) (sym w.1))))
      ∙ ap (λ o. ordering_then o (ordering_then (nat_cmp d m.domain) (nat_cmp 0 m.alias)))
      (ap (λ s. compare sid.subs s.subs) w.1 ∙ tied_itself nat_list_cmp_total sid.subs)
      ∙ ap (λ o. ordering_then o (nat_cmp 0 m.alias)) (sym (nat_cmp_is d m.domain Equal (sym w.0))) in
      not_below m.alias (sym alike ∙ gt)

  over : (x y : Membership) → compare (held sid d 0) (membership_key x) ≢ Greater → is_for d sid x ≡ false
      → compare (membership_key x) (membership_key y) ≡ Less → is_for d sid y ≡ false
  over x y up f lt =
      elim (tested (is_for d sid y)) [
        | inl t ↦ absurd (
            let w = is y t in
            let s = x.member in
            let r = y.member in
            let first = squeezed (nat_cmp sid.authority s.authority)
            (ordering_then (compare sid.subs s.subs) (ordering_then (nat_cmp d x.domain) (nat_cmp 0 x.alias)))
            (ordering_then (compare s.subs r.subs)
            (ordering_then (nat_cmp x.domain y.domain) (nat_cmp x.alias y.alias)))
            (λ gt. up (held-compare sid s d x.domain 0 x.alias ∙ gt))
            (ap (λ o. ordering_then o (ordering_then (compare s.subs r.subs)
            (ordering_then (nat_cmp x.domain y.domain) (nat_cmp x.alias y.alias))))
            (sym (ap (λ v. nat_cmp s.authority v.authority) w.1 ∙ nat_cmp_total.antisymm s.authority sid.authority))
            ∙ sym (held-compare s r x.domain y.domain x.alias y.alias) ∙ lt) in
            let second = squeezed (compare sid.subs s.subs) (ordering_then (nat_cmp d x.domain) (nat_cmp 0 x.alias))
            (ordering_then (nat_cmp x.domain y.domain) (nat_cmp x.alias y.alias)) first.1
            (ap (λ o. ordering_then o (ordering_then (nat_cmp x.domain y.domain) (nat_cmp x.alias y.alias)))
            (sym (ap (λ v. compare s.subs v.subs) w.1 ∙ nat_list_cmp_total.antisymm s.subs sid.subs)) ∙ first.2) in
            let third = squeezed (nat_cmp d x.domain) (nat_cmp 0 x.alias) (nat_cmp x.alias y.alias) second.1
            (ap (λ o. ordering_then o (nat_cmp x.alias y.alias))
            (sym (ap (nat_cmp x.domain) w.0 ∙ nat_cmp_total.antisymm x.domain d)) ∙ second.2) in
            let authority : s.authority ≡ sid.authority =
            sym (nat_cmp-IsAntisymmetric sid.authority s.authority first.0) in
            let subs : s.subs ≡ sid.subs = sym (tied-is _ _ second.0) in
            let domain : x.domain ≡ d = sym (nat_cmp-IsAntisymmetric d x.domain third.0) in
            let yes : is_for d sid x ≡ true = so x domain (sid_is s sid authority subs) in
            cc)
        | inr g ↦ g
      ]

  pub run_of : (ms : List Membership) → is_ascending membership_key ms ≡ true
      → filter (is_for d sid) ms
      ≡ leading (is_for d sid) (drop (spot (place membership_key (held sid d 0) ms)) ms)
  run_of = run membership_key (is_for d sid) (held sid d 0) low over

-- ---- numbers, each once

one_more : (k : ℕ) → suc k + 1 ≡ suc (k + 1)
one_more k = omega arith

pub numbers_rise : (ns : List ℕ) → IsStrictlyIncreasing ns → is_ascending number_key ns ≡ true
numbers_rise [] up = refl
numbers_rise (n ∷ []) up = refl
numbers_rise (n ∷ m ∷ ns) up =
    let rest = numbers_rise (m ∷ ns) (λ k lt. subst (λ j. get_or (m ∷ ns) k 0 < get_or (n ∷ m ∷ ns) j 0) (one_more k)
    (up (suc k) (omega arith))) in
    let lt : n < m = up 0 (omega arith) in
    let under = number_less n m lt in
    rw (under, below_less number_key (n ∷ []) (m ∷ []) ns under (first_so _ _ rest), rest) refl

in_once_after : (n before : ℕ) (ns : List ℕ) → In n (before ∷ each_once_after before ns) → In n (before ∷ ns)
in_once_after n before [] e = e
in_once_after n before (m ∷ ms) e =
    elim (tested (m == before)) [
      | inl t ↦
          let rest = in_once_after n before ms
          (subst (λ b. In n (before ∷ cond b (each_once_after before ms) (m ∷ each_once_after m ms))) t e) in
          elim rest [ inl l ↦ inl l | inr r ↦ inr (inr r) ]
      | inr f ↦
          elim (subst (λ b. In n (before ∷ cond b (each_once_after before ms) (m ∷ each_once_after m ms))) f e) [
            | inl l ↦ inl l
            | inr r ↦ inr (in_once_after n m ms r)
          ]
    ]

once_after_in : (n before : ℕ) (ns : List ℕ) → In n (before ∷ ns) → In n (before ∷ each_once_after before ns)
once_after_in n before [] e = e
once_after_in n before (m ∷ ms) e =
    elim (tested (m == before)) [
      | inl t ↦
          let same : m ≡ before = equal_is m before t in
          let shorter : In n (before ∷ ms) = elim e [
            | inl l ↦ inl l
            | inr r ↦ elim r [ inl l ↦ inl (l ∙ same) | inr q ↦ inr q ]
          ] in
          subst (λ b. In n (before ∷ cond b (each_once_after before ms) (m ∷ each_once_after m ms))) (sym t)
          (once_after_in n before ms shorter)
      | inr f ↦
          subst (λ b. In n (before ∷ cond b (each_once_after before ms) (m ∷ each_once_after m ms))) (sym f)
          (elim e [ inl l ↦ inl l | inr r ↦ inr (once_after_in n m ms r) ])
    ]

in_once : (n : ℕ) (ns : List ℕ) → In n (each_once ns) → In n ns
in_once n [] e = e
in_once n (m ∷ ms) e = in_once_after n m ms e

once_in : (n : ℕ) (ns : List ℕ) → In n ns → In n (each_once ns)
once_in n [] e = e
once_in n (m ∷ ms) e = once_after_in n m ms e

-- ---- the aliases of some SIDs

in_passing : {A : Type 0} (p : A → Bool) (x : A) (xs : List A) → In x xs → p x ≡ true → In x (filter p xs)
in_passing p x [] e t = e
in_passing p x (y ∷ ys) (inl e) t =
    let here : p y ≡ true = ap p (sym e) ∙ t in
    subst (λ b. In x (cond b (y ∷ filter p ys) (filter p ys))) (sym here) (inl e)
in_passing p x (y ∷ ys) (inr e) t =
    let rest = in_passing p x ys e t in
    elim (p y) as (λ b. In x (cond b (y ∷ filter p ys) (filter p ys))) [ true ↦ inr rest | false ↦ rest ]

passing_in : {A : Type 0} (p : A → Bool) (x : A) (xs : List A) → In x (filter p xs) → In x xs × (p x ≡ true)
passing_in p x [] e = absurd e
passing_in p x (y ∷ ys) e =
    elim (tested (p y)) [
      | inl t ↦ elim (subst (λ b. In x (cond b (y ∷ filter p ys) (filter p ys))) t e) [
        | inl l ↦ (inl l, ap p l ∙ t)
        | inr r ↦ let rest = passing_in p x ys r in (inr rest.0, rest.1)
      ]
      | inr f ↦
          let rest = passing_in p x ys (subst (λ b. In x (cond b (y ∷ filter p ys) (filter p ys))) f e) in
          (inr rest.0, rest.1)
    ]

in_flat : {A B : Type 0} (f : A → List B) (b : B) (xs : List A) → In b (flat_map f xs) → (a : A) × In a xs × In b (f a)
in_flat f b [] e = absurd e
in_flat f b (x ∷ xs) e =
    elim (in_either b (f x) (flat_map f xs) (subst (In b) (flat_map-cons f x xs) e)) [
      | inl l ↦ (x, inl refl, l)
      | inr r ↦ let rest = in_flat f b xs r in (rest.0, inr rest.1, rest.2)
    ]

flat_in : {A B : Type 0} (f : A → List B) (b : B) (a : A) (xs : List A) → In a xs → In b (f a) → In b (flat_map f xs)
flat_in f b a [] e i = absurd e
flat_in f b a (x ∷ xs) (inl e) i =
    subst (In b) (sym (flat_map-cons f x xs)) (in_left b (f x) (flat_map f xs) (subst (λ y. In b (f y)) e i))
flat_in f b a (x ∷ xs) (inr e) i =
    subst (In b) (sym (flat_map-cons f x xs)) (in_right b (f x) (flat_map f xs) (flat_in f b a xs e i))

module _ (d : ℕ) (sids : List SidValue) (aliases : List AliasRow) (h : is_ascending alias_key aliases ≡ true) where
  abbrev rids : List ℕ
  rids = map (λ a. a.alias) (filter (has_one d sids) aliases)

  abbrev of_sid : SidValue → List ℕ
  of_sid sid = map alias_number_of (filter (is_for d sid) (memberships_of aliases))

  held_in : (n : ℕ) → In n (held_by d (memberships_of aliases) sids) → In n rids
  unfolding memberships_of
  held_in n e =
      let w = in_flat of_sid n sids e in
      let v = map_in alias_number_of n (filter (is_for d w.0) (memberships_of aliases)) w.2 in
      let m = passing_in (is_for d w.0) v.0 (memberships_of aliases) v.1 in
      let a = in_index membership_of alias_key membership_key membership_tells v.0 aliases m.0 in
      let is_it = is d w.0 v.0 m.1 in
      let domain : a.0.domain ≡ d = ap (λ x. x.domain) (sym a.2) ∙ is_it.0 in
      let member : a.0.member ≡ w.0 = ap (λ x. x.member) (sym a.2) ∙ is_it.1 in
      let any : list_any (sid_eq a.0.member) sids ≡ true =
      in_any (sid_eq a.0.member) w.0 sids w.1 ((equal_sids a.0.member w.0).0.1 member) in
      let one : has_one d sids a.0 ≡ true = rw (eq-eqb a.0.domain d domain, any) refl in
      let number : n ≡ a.0.alias = v.2 ∙ ap (λ x. x.alias) a.2 in
      subst (λ k. In k rids) (sym number)
      (in_map (λ x. x.alias) a.0 (filter (has_one d sids) aliases) (in_passing (has_one d sids) a.0 aliases a.1 one))

  in_held : (n : ℕ) → In n rids → In n (held_by d (memberships_of aliases) sids)
  unfolding memberships_of
  in_held n e =
      let v = map_in (λ x. x.alias) n (filter (has_one d sids) aliases) e in
      let a = passing_in (has_one d sids) v.0 aliases v.1 in
      let s = any_in (sid_eq v.0.member) sids (second_so _ _ a.1) in
      let m : In (membership_of v.0) (index membership_of membership_key aliases) =
      index_in membership_of alias_key membership_key membership_tells v.0 aliases h a.0 in
      let for_it : is_for d s.0 (membership_of v.0) ≡ true =
      so d s.0 (membership_of v.0) (equal_is v.0.domain d (first_so _ _ a.1)) ((equal_sids v.0.member s.0).0.0 s.2) in
      flat_in of_sid n s.0 sids s.1 (subst (λ k. In k (of_sid s.0)) (sym v.2)
      (in_map alias_number_of (membership_of v.0) (filter (is_for d s.0) (memberships_of aliases))
      (in_passing (is_for d s.0) (membership_of v.0) (memberships_of aliases) m for_it)))

  -- numbers that rise and are those of the aliases held are the aliases of the SIDs
  pub held_are : (ns : List ℕ) → is_ascending number_key ns ≡ true
      → ((n : ℕ) → Contains ns n ↔ Contains (held_by d (memberships_of aliases) sids) n)
      → ns ≡ each_once (map (λ a. a.alias) (filter (has_one d sids) aliases))
  held_are ns up same =
      same_members number_key ns (each_once rids) up (aliases_rise d sids aliases h)
      (λ n e. once_in n rids (held_in n (contains_in n _ ((same n).0 (in_contains n ns e)))))
      (λ n e. contains_in n ns ((same n).1 (in_contains n _ (in_held n (in_once n rids e)))))

pub held_are_found : {E : Type 0} (d : ℕ) (sids : List SidValue) (aliases : List AliasRow) (r : Result (List ℕ) E)
    → is_ascending alias_key aliases ≡ true
    → IfOk r (λ ns. is_ascending (λ n. n ∷ []) ns ≡ true)
    → IfOk r (λ ns. (n : ℕ) → Contains ns n ↔ Contains (held_by d (memberships_of aliases) sids) n)
    → IfOk r (λ ns. ns ≡ each_once (map (λ a. a.alias) (filter (has_one d sids) aliases)))
held_are_found d sids aliases (Ok ns) h up same = held_are d sids aliases h ns up same
held_are_found d sids aliases (Err e) h up same = up
