-- Pairs in another order, of which no key stands twice, are looked up alike and break the same rules.
use Rattle.std.proofs.Common.{◌≡◌, ◌≢◌, ℕ, ◌+◌, ◌==◌, ◌≤◌, Bool, true, false, ◌&&◌, ◌||◌, cond, List, [], ◌∷◌}
use Rattle.std.proofs.Common.{Option, Some, None, refl, sym, ap, ◌∙◌, arith, inl, inr}
use Rattle.std.specs.Prelude.{is_some, not, nat_le}
use Rattle.std.specs.Str.{bytes_eq}
use Rattle.std.specs.List.{list_any}
use Rattle.std.specs.List.Sorted.{IsPermutation, IsSortedBy}
use Rattle.std.proofs.lemmas.List.Sorted.{IsPermutation-sym}
use Rattle.acct_codes.specs.declared.kind.Kind.{Kind}
use Rattle.acct_codes.specs.declared.kind.Kind.TheVariants.{Group, Alias, User}
use Rattle.acct_keeper.specs.declared.pairs.Pair.{Pair}
use Rattle.acct_keeper.specs.Pairs as kept
use Rattle.std.specs.Ordering.{is_lt, is_eq}
use Rattle.acct_tables.specs.KeyedRows.{compare, same_key, is_ascending}
use Rattle.acct_rows.specs.Loading.{BadPairs}
use Rattle.acct_rows.specs.PairRules.{pair_key, pair_at, is_there, domain_in, is_missing, is_past}
use Rattle.acct_rows.specs.PairRules.{is_earlier, has_taken_name, lacks_primary}
use Rattle.acct_rows.specs.PairRules.{breaks_among, breaks_rule, is_format, is_broken_at}
use Rattle.acct_tables.specs.RowRules.{breaks_alone}
use Rattle.acct_rows.specs.PairRules.{is_broken, AreUnbroken, IsSmallestBroken, is_other, as_domain, as_account}
use Rattle.acct_rows.specs.PairRules.{has_value, is_old, next_in, next_out_in, is_next_out, is_out_of_turn, lacks}
use Rattle.acct_rows.specs.PairsOf.{HoldPairs, migration, migrated, keys_differ, AscendingKeysDiffer}
use Rattle.acct_rows.specs.Rows.{Lists}
use Rattle.acct_tables.specs.Selected.{same_kind}
use Rattle.acct_tables.specs.Spelled.{stored_key, format_key, format_value, old_format_value, next_out_key}
use Rattle.acct_base.specs.Reading.{◌>>=◌}
use Rattle.acct_tables.specs.Stored.{row_of, next_out_of}
use Rattle.acct_tables.specs.declared.object.Object.{Object}
use Rattle.acct_tables.specs.declared.object.Object.TheVariants as objects
use Rattle.acct_tables.specs.declared.row.RowKey.{RowKey}
use Rattle.acct_rows.specs.declared.pairs.loading.PairsError.{PairsError}
use Rattle.acct_rows.specs.declared.pairs.loading.PairsError.TheVariants.{BadPair, Memory}
use Rattle.acct_tables.specs.declared.row.Row.{Row}
use Rattle.acct_tables.specs.declared.row.Row.TheVariants as rows
use Rattle.acct_tables.specs.declared.row.RowKey.TheVariants as keys
use Rattle.acct_tables.proofs.Ascending.{In}
use Rattle.acct_tables.proofs.Lookups.{there_or_not, key_found}
use Rattle.acct_tables.proofs.Standing.{at_in, in_at, in_permutation, one_if}
use Rattle.acct_tables.proofs.Orders.{same_key-is, same_key-itself, less, tested}
use Rattle.acct_rows.proofs.Changed.{set_here, set_apart}
use Rattle.acct_rows.proofs.Members.{count, count-permutation, precedes, sorted_ascends, ascending-kept}

both_parts : (a b : Bool) → (a && b) ≡ true → (a ≡ true) × (b ≡ true)
both_parts true b e = (refl, e)
both_parts false b e = absurd cc

not_so : (b : Bool) → not b ≡ true → b ≡ false
not_so false e = refl
not_so true e = absurd cc

either_false : (a b : Bool) → (a || b) ≡ false → (a ≡ false) × (b ≡ false)
either_false true b e = absurd cc
either_false false b e = (refl, e)

-- ---- a key that differs from the others stands once

none_same : (k : List ℕ) (ps : List Pair) → list_any (λ q. same_key k q.key) ps ≡ false → count k ps ≡ 0
none_same k [] e = refl
none_same k (p ∷ ps) e =
    let parts = either_false (same_key k p.key) (list_any (λ q. same_key k q.key) ps) e in
    let rest = none_same k ps parts.1 in
    let here : one_if (same_key k p.key) ≡ 0 = ap one_if parts.0 in
    omega arith

pub stands_once : (ps : List Pair) → keys_differ ps ≡ true → (k : List ℕ) → count k ps ≤ 1
stands_once [] e k = omega arith
stands_once (p ∷ ps) e k =
    let parts = both_parts (not (list_any (λ q. same_key p.key q.key) ps)) (keys_differ ps) e in
    elim (tested (same_key k p.key)) [
      | inl t ↦
          let is : k ≡ p.key = same_key-is k p.key t in
          let none : count k ps ≡ 0 =
          ap (λ j. count j ps) is
          ∙ none_same p.key ps (not_so (list_any (λ q. same_key p.key q.key) ps) parts.0) in
          let here : one_if (same_key k p.key) ≡ 1 = ap one_if t in
          omega arith
      | inr t ↦
          let rest = stands_once ps parts.1 k in
          let here : one_if (same_key k p.key) ≡ 0 = ap one_if t in
          omega arith
    ]

pub shuffled_ascend : (ps qs : List Pair) → keys_differ ps ≡ true → IsPermutation ps qs → IsSortedBy precedes qs
    → is_ascending pair_key qs ≡ true
shuffled_ascend ps qs differ perm up =
    let once : (k : List ℕ) → count k qs ≤ 1 =
    λ k. (let same = count-permutation k ps qs perm in let all = stands_once ps differ k in omega arith) in
    ascending-kept qs ∙ sorted_ascends qs up once

-- pairs that ascend have no key twice
below_differ : (k : List ℕ) (ps : List Pair) → kept.below_all k ps ≡ true → list_any (λ q. same_key k q.key) ps ≡ false
below_differ k [] e = refl
below_differ k (p ∷ ps) e =
    let parts = both_parts (is_lt (compare k p.key)) (kept.below_all k ps) e in
    let apart : same_key k p.key ≡ false = ap is_eq (less (compare k p.key) parts.0) in
    ap (λ b. b || list_any (λ q. same_key k q.key) ps) apart ∙ below_differ k ps parts.1

pub ascending_differ : AscendingKeysDiffer
ascending_differ [] e = refl
ascending_differ (p ∷ ps) e =
    let parts = both_parts (kept.below_all p.key ps) (kept.is_ascending ps) e in
    ap (λ b. not b && keys_differ ps) (below_differ p.key ps parts.0) ∙ ascending_differ ps parts.1

in_counts : (p : Pair) (ps : List Pair) → In p ps → 1 ≤ count p.key ps
in_counts p [] i = absurd i
in_counts p (q ∷ qs) (inl e) =
    let here : one_if (same_key p.key q.key) ≡ 1 =
    ap one_if (ap (λ r. same_key p.key r.key) (sym e) ∙ same_key-itself p.key) in
    omega arith
in_counts p (q ∷ qs) (inr i) = let rest = in_counts p qs i in omega arith

in_found : (p : Pair) (ps : List Pair) → keys_differ ps ≡ true → In p ps → pair_at p.key ps ≡ Some p
in_found p [] differ i = absurd i
in_found p (q ∷ qs) differ i =
    let parts = both_parts (not (list_any (λ r. same_key q.key r.key) qs)) (keys_differ qs) differ in
    elim (tested (same_key p.key q.key)) [
      | inl t ↦ elim i [
        | inl e ↦ ap (λ b. cond b (Some q) (pair_at p.key qs)) t ∙ ap (λ x. Some x) (sym e)
        | inr j ↦ absurd (
            let once = stands_once (q ∷ qs) differ p.key in
            let there = in_counts p qs j in
            let here : one_if (same_key p.key q.key) ≡ 1 = ap one_if t in
            omega arith)
      ]
      | inr t ↦ elim i [
        | inl e ↦ absurd (
            let same : same_key p.key q.key ≡ true = ap (λ r. same_key p.key r.key) (sym e) ∙ same_key-itself p.key in
            cc (same, t))
        | inr j ↦ ap (λ b. cond b (Some q) (pair_at p.key qs)) t ∙ in_found p qs parts.1 j
      ]
    ]

any_of : {A : Type 0} (p : A → Bool) (xs : List A) → list_any p xs ≡ true → (x : A) × In x xs × (p x ≡ true)
any_of p [] e = absurd cc
any_of p (x ∷ xs) e =
    elim (tested (p x)) [
      | inl t ↦ (x, inl refl, t)
      | inr t ↦
          let rest = any_of p xs (sym (ap (λ b. b || list_any p xs) t) ∙ e) in
          (rest.0, inr rest.1, rest.2)
    ]

or_so : (a b : Bool) → b ≡ true → (a || b) ≡ true
or_so true b e = refl
or_so false b e = e

of_any : {A : Type 0} (p : A → Bool) (x : A) (xs : List A) → In x xs → p x ≡ true → list_any p xs ≡ true
of_any p x [] i e = absurd i
of_any p x (y ∷ ys) (inl is) e = ap (λ b. b || list_any p ys) (ap p (sym is) ∙ e)
of_any p x (y ∷ ys) (inr i) e = or_so (p y) (list_any p ys) (of_any p x ys i e)

module _ (ps qs : List Pair) (differ : keys_differ ps ≡ true) (perm : IsPermutation ps qs)
    (up : is_ascending pair_key qs ≡ true) where
  there : (p : Pair) → In p ps → In p qs
  there p i = in_permutation p ps qs perm i

  back : (p : Pair) → In p qs → In p ps
  back p i = in_permutation p qs ps (IsPermutation-sym ps qs perm) i

  found_alike : (k : List ℕ) → pair_at k ps ≡ pair_at k qs
  found_alike k =
      elim (there_or_not (pair_at k ps)) [
        | inl f ↦
            let key : f.0.key ≡ k = key_found pair_key k ps f.0 f.1 in
            let other = in_at pair_key f.0 qs up (there f.0 (at_in pair_key k f.0 ps f.1)) in
            f.1 ∙ sym other ∙ ap (λ j. pair_at j qs) key
        | inr none ↦ elim (there_or_not (pair_at k qs)) [
          | inr n ↦ none ∙ sym n
          | inl f ↦ absurd (
              let key : f.0.key ≡ k = key_found pair_key k qs f.0 f.1 in
              let found = in_found f.0 ps differ (back f.0 (at_in pair_key k f.0 qs f.1)) in
              let is : pair_at k ps ≡ Some f.0 = ap (λ j. pair_at j ps) (sym key) ∙ found in
              cc (is, none))
        ]
      ]

  any_alike : (p : Pair → Bool) → list_any p ps ≡ list_any p qs
  any_alike p =
      elim (tested (list_any p ps)) [
        | inl t ↦ let x = any_of p ps t in t ∙ sym (of_any p x.0 qs (there x.0 x.1) x.2)
        | inr t ↦ elim (tested (list_any p qs)) [
          | inr u ↦ t ∙ sym u
          | inl u ↦ absurd (let x = any_of p qs u in let so = of_any p x.0 ps (back x.0 x.1) x.2 in cc (so, t))
        ]
      ]

  domain_alike : (number : ℕ) → domain_in ps number ≡ domain_in qs number
  domain_alike number = ap (λ o. (o >>= row_of) >>= as_domain) (found_alike (stored_key (keys.Domain number)))

  missing_alike : (kind : Kind) (domain rid : ℕ) → is_missing kind ps domain rid ≡ is_missing kind qs domain rid
  missing_alike kind domain rid =
      ap (λ o. not (is_some o) || is_other kind ((o >>= row_of) >>= as_account))
      (found_alike (stored_key (keys.Account domain rid)))

  pub old_alike : is_old ps ≡ is_old qs
  old_alike = ap (has_value old_format_value) (found_alike format_key)

  next_alike : next_out_in ps ≡ next_out_in qs
  next_alike = ap next_in (found_alike next_out_key)

  turn_alike : (number : ℕ) (next : Option ℕ) → is_out_of_turn ps number next ≡ is_out_of_turn qs number next
  turn_alike number None = refl
  turn_alike number (Some next) =
      ap (λ o. nat_le next number || (not (number + 1 == next) && not (is_some o)))
      (found_alike (stored_key (keys.Out (number + 1))))

  there_alike : (key : RowKey) → not (is_there ps key) ≡ not (is_there qs key)
  there_alike key = ap (λ o. not (is_some o)) (found_alike (stored_key key))

  lacks_alike : (object : Object) → lacks ps object ≡ lacks qs object
  lacks_alike objects.Server = refl
  lacks_alike objects.Policy = refl
  lacks_alike (objects.Domain number) = there_alike (keys.Domain number)
  lacks_alike (objects.Group rid) = missing_alike Group 0 rid
  lacks_alike (objects.Alias domain rid) = missing_alike Alias domain rid
  lacks_alike (objects.User rid) = missing_alike User 0 rid
  lacks_alike (objects.Account sid) = there_alike (keys.Lsa sid)

  among_alike : (row : Row) → breaks_among ps row ≡ breaks_among qs row
  among_alike (rows.Domain d) = refl
  among_alike (rows.Account a) =
      ap (λ o. is_past a.rid o || (has_taken_name ps (rows.Account a) || (false || (lacks_primary ps (rows.Account a)
      || (false || (false || (false || false))))))) (domain_alike a.domain)
      ∙ ap (λ b. is_past a.rid (domain_in qs a.domain)
      || (b || (false || (lacks_primary ps (rows.Account a) || (false || (false || (false || false)))))))
      (any_alike (λ pair. is_earlier a (row_of pair)))
      ∙ ap (λ b. is_past a.rid (domain_in qs a.domain) || (has_taken_name qs (rows.Account a) || (false
      || ((same_kind User a.kind && (b || not (is_there ps (keys.Member a.primary a.rid))))
      || (false || (false || (false || false)))))))
      (missing_alike Group 0 a.primary)
      ∙ ap (λ o. is_past a.rid (domain_in qs a.domain) || (has_taken_name qs (rows.Account a) || (false
      || ((same_kind User a.kind && (is_missing Group qs 0 a.primary || not (is_some o)))
      || (false || (false || (false || false)))))))
      (found_alike (stored_key (keys.Member a.primary a.rid)))
  among_alike (rows.Member m) =
      ap (λ b. (b || is_missing User ps 0 m.user) || false) (missing_alike Group 0 m.group)
      ∙ ap (λ b. (is_missing Group qs 0 m.group || b) || false) (missing_alike User 0 m.user)
  among_alike (rows.Alias a) = missing_alike Alias a.domain a.alias
  among_alike (rows.Lsa l) = refl
  among_alike (rows.Desc d) =
      ap (λ b. b || (is_old ps || false)) (lacks_alike d.object)
      ∙ ap (λ b. lacks qs d.object || (b || false)) old_alike
  among_alike (rows.Out o) =
      ap (λ next. ((o.number == 0) || is_out_of_turn ps o.number next) || (is_old ps || false)) next_alike
      ∙ ap (λ b. ((o.number == 0) || b) || (is_old ps || false)) (turn_alike o.number (next_out_in qs))
      ∙ ap (λ b. ((o.number == 0) || is_out_of_turn qs o.number (next_out_in qs)) || (b || false)) old_alike

  rule_alike : (o : Option Row) → breaks_rule ps o ≡ breaks_rule qs o
  rule_alike None = refl
  rule_alike (Some row) = ap (λ b. breaks_alone row || b) (among_alike row)

  broken_at_alike : (k : List ℕ) (o : Option Pair) → is_broken_at ps k o ≡ is_broken_at qs k o
  broken_at_alike k None = refl
  broken_at_alike k (Some p) =
      ap (λ b. not (is_format p) && (not (bytes_eq p.key next_out_key && (is_some (next_out_of p.value) && not b))
      && breaks_rule ps (row_of p))) old_alike
      ∙ ap (λ b. not (is_format p) && (not (is_next_out qs p) && b)) (rule_alike (row_of p))

  broken_alike : (k : List ℕ) → is_broken ps k ≡ is_broken qs k
  broken_alike k = broken_at_alike k (pair_at k ps) ∙ ap (is_broken_at qs k) (found_alike k)

  pub unbroken_alike : AreUnbroken qs → AreUnbroken ps
  unbroken_alike f k = broken_alike k ∙ f k

  smallest_alike : (k : List ℕ) → IsSmallestBroken qs k → IsSmallestBroken ps k
  smallest_alike k s = record {
    broken = broken_alike k ∙ s.broken;
    smallest = λ other e. s.smallest other (sym (broken_alike other) ∙ e);
  }

  pub bad_alike : (e : PairsError) → BadPairs qs e → BadPairs ps e
  bad_alike (BadPair key) b = smallest_alike key b
  bad_alike Memory b = tt

  -- so are they once they are migrated
  migrated_alike : (k : List ℕ) → pair_at k (migrated ps) ≡ pair_at k (migrated qs)
  migrated_alike k =
      ap (λ b. pair_at k (cond b (kept.after (migration ∷ []) ps) ps)) old_alike ∙ elim (is_old qs) as
      (λ b. pair_at k (cond b (kept.after (migration ∷ []) ps) ps)
      ≡ pair_at k (cond b (kept.after (migration ∷ []) qs) qs)) [
        | true ↦ elim (tested (same_key k format_key)) [
          | inl t ↦
              let key : k ≡ format_key = same_key-is k format_key t in
              ap (λ j. pair_at j (kept.after (migration ∷ []) ps)) key
              ∙ set_here format_key (Some format_value) ps ∙ sym (set_here format_key (Some format_value) qs)
              ∙ ap (λ j. pair_at j (kept.after (migration ∷ []) qs)) (sym key)
          | inr t ↦
              let apart : k ≢ format_key = λ same. (
              let so : same_key k format_key ≡ true = ap (same_key k) (sym same) ∙ same_key-itself k in cc (so, t)) in
              set_apart k format_key (Some format_value) ps apart ∙ found_alike k
              ∙ sym (set_apart k format_key (Some format_value) qs apart)
        ]
        | false ↦ found_alike k
      ]

  pub hold_alike : (lists : Lists) → HoldPairs lists (migrated qs) → HoldPairs lists (migrated ps)
  hold_alike lists held p = (
    (λ e. (held p).0 (sym (migrated_alike p.key) ∙ e)),
    (λ e. migrated_alike p.key ∙ (held p).1 e),
  )
