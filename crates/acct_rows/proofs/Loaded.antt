-- The smallest broken key, and the rows that are loaded of pairs of which none is broken.
use Rattle.std.proofs.Common.{◌≡◌, ◌≢◌, ℕ, zero, suc, ◌^◌, ◌<◌, Bool, true, false, ◌&&◌, ◌||◌, cond, List, [], ◌∷◌}
use Rattle.std.proofs.Common.{length, get_or, map, All, Option, Some, None, refl}
use Rattle.std.proofs.Common.{sym, ap, subst, ◌∙◌, arith, inl, inr, ◌⊎◌}
use Rattle.std.proofs.Common.{Ok, ◌+◌, ◌≤◌, drop, nat_lt}
use Rattle.std.specs.Prelude.{is_some, option_map, not, nat_le}
use Rattle.std.specs.List.{list_any, find, AllByRecursion}
use Rattle.std.specs.Str.{bytes_eq}
use Rattle.std.specs.Cmp.{first_so, second_so, tied_itself}
use Rattle.std.specs.Cmp.Lexicographic.{nat_list_cmp_total}
use Rattle.std.specs.Ordering.{is_lt, is_eq, ordering_reverse}
use Rattle.std.specs.declared.cmp.Ordering.{Ordering}
use Rattle.std.specs.declared.cmp.Ordering.TheVariants.{Less, Equal, Greater}
use Rattle.std.proofs.lemmas.Bool.Decides.{nat_tests}
use Rattle.std.proofs.lemmas.List.{get_or_default, drop_more}
use Rattle.std.proofs.lemmas.Slice.Eq.{bytes_eq-Decides}
use Rattle.std.proofs.lemmas.List.Elements.{recursion_from_All}
use Rattle.dtyp_sid.specs.Sids.{WrittenBytesAreRead, WrittenBytesHaveLengths, ReadBytesAreWritten, EqualSidsAreOne}
use Rattle.acct_keeper.specs.declared.pairs.Pair.{Pair}
use Rattle.acct_rows.specs.Changes.{row_at, is_put, same_row_key}
use Rattle.acct_tables.specs.KeyedRows.{compare, same_key, place, below_all, is_ascending}
use Rattle.acct_rows.specs.Loading.{IsReadWell, no_lists, placed, somes, loaded, smaller, first_missing}
use Rattle.acct_rows.specs.Loading.{smallest_broken}
use Rattle.acct_rows.specs.PairRules.{pair_key, pair_at, is_there, is_missing, is_other, as_domain, as_account, is_past}
use Rattle.acct_rows.specs.PairRules.{is_past_next, is_earlier, has_taken_name, lacks_primary, lacks_object}
use Rattle.acct_rows.specs.PairRules.{is_misnumbered, has_value, is_old, next_in, next_out_in, is_format, is_next_out}
use Rattle.acct_rows.specs.PairRules.{breaks_among, breaks_rule, is_broken_pair, needed_keys}
use Rattle.acct_tables.specs.RowRules.{breaks_alone}
use Rattle.acct_rows.specs.PairRules.{is_broken_at, is_broken, AreUnbroken, IsSmallestBroken}
use Rattle.acct_rows.specs.PairsOf.{AreTables, IsRowOf, IsNextOut, HoldPairs, migration, migrated}
use Rattle.acct_rows.specs.Rows.{Lists}
use Rattle.acct_tables.specs.Keys.{domain_key, account_key, member_key, alias_key, lsa_key, desc_key, out_key}
use Rattle.acct_rows.specs.Rows.{place_row}
use Rattle.acct_tables.specs.Selected.{same_kind}
use Rattle.acct_tables.specs.Spelled.{rid_bytes, stored_key, key_of, pair_of, format_key, format_value}
use Rattle.acct_tables.specs.Spelled.{old_format_value}
use Rattle.acct_tables.specs.Spelled.{format_pair, next_out_key, next_out_value, next_out_pair, Fits, IsSpelled}
use Rattle.acct_tables.specs.Stored.{row_key, row_of, next_out_of}
use Rattle.acct_base.specs.Reading.{◌>>=◌, front_at}
use Rattle.acct_codes.specs.declared.kind.Kind.{Kind}
use Rattle.acct_codes.specs.declared.kind.Kind.TheVariants.{Group, Alias, User}
use Rattle.acct_keeper.specs.Pairs as kept
use Rattle.acct_tables.specs.declared.row.AccountRow.{AccountRow}
use Rattle.std.specs.Int.{w64, from_le_bytes}
use Rattle.std.specs.Option.{unwrap_or}
use Rattle.acct_tables.specs.declared.row.Row.{Row}
use Rattle.acct_tables.specs.declared.row.Row.TheVariants as rows
use Rattle.acct_tables.specs.declared.row.RowKey.{RowKey}
use Rattle.acct_tables.specs.declared.row.RowKey.TheVariants as keys
use Rattle.acct_tables.proofs.Ascending.{is_ascending-put, In, below_in}
use Rattle.acct_tables.proofs.Lookups.{same_Some, there_or_not, key_found, at-placed}
use Rattle.acct_tables.proofs.Standing.{at_in, in_at, map_in}
use Rattle.acct_tables.proofs.Orders.{same_key-is, same_key-itself, tested}
use Rattle.acct_tables.proofs.SpelledRows.{fits_key}
use Rattle.acct_rows.proofs.Changed.{set_here, set_apart}
use Rattle.acct_tables.proofs.Judged.{either_false, both_false}
use Rattle.acct_tables.proofs.Taken.{bind_some, passed}
use Rattle.acct_rows.proofs.Translated.{is_row_at, at_is_row, not_format, not_next_out, format_key_none, first_byte}
use Rattle.acct_rows.proofs.Translated.{lower_apart, keys_apart}
use Rattle.acct_rows.proofs.RowsAt.{same_itself, same_or_not, last_placed, row_place_here, row_place_apart}
use Rattle.acct_rows.proofs.RowsAt.{placed_keeps}

-- ---- what is found at a place

nth : {A : Type 0} (xs : List A) (i : ℕ) → i < length xs → (x : A) × (x ≡ get_or xs i x)
nth [] i lt = absurd (omega arith)
nth (x ∷ xs) zero lt = (x, refl)
nth (x ∷ xs) (suc i) lt = nth xs i (omega arith)

pub placed_there : (pairs : List Pair) (key : List ℕ) (i : ℕ) → is_ascending pair_key pairs ≡ true
    → Ok i ≡ place pair_key key pairs → i < length pairs → is_some (pair_at key pairs) ≡ true
placed_there pairs key i up placed lt =
    let p = nth pairs i lt in
    ap is_some (sym (at-placed pair_key key pairs i p.0 up placed p.1))

-- ---- the first that passes a test

module _ {A : Type 0} (p : A → Bool) where
  pub find_so : (xs : List A) (x : A) → find p xs ≡ Some x → (p x ≡ true) × In x xs
  find_so [] x e = absurd cc
  find_so (y ∷ ys) x e =
      elim (tested (p y)) [
        | inl t ↦
            let is : y ≡ x = same_Some (sym (ap (λ b. cond b (Some y) (find p ys)) t) ∙ e) in
            (ap p (sym is) ∙ t, inl (sym is))
        | inr t ↦
            let rest = find_so ys x (sym (ap (λ b. cond b (Some y) (find p ys)) t) ∙ e) in
            (rest.0, inr rest.1)
      ]

  pub find_none : (xs : List A) → find p xs ≡ None → (x : A) → In x xs → p x ≡ false
  find_none [] e x i = absurd i
  find_none (y ∷ ys) e x i =
      elim (tested (p y)) [
        | inl t ↦ absurd (
            let some : Some y ≡ None = sym (ap (λ b. cond b (Some y) (find p ys)) t) ∙ e in cc)
        | inr t ↦ elim i [
          | inl is ↦ ap p is ∙ t
          | inr j ↦ find_none ys (sym (ap (λ b. cond b (Some y) (find p ys)) t) ∙ e) x j
        ]
      ]

  -- of those that ascend it is the least
  pub find_least : (key : A → List ℕ) (xs : List A) (x y : A) → is_ascending key xs ≡ true → find p xs ≡ Some x
      → In y xs
      → p y ≡ true → compare (key y) (key x) ≢ Less
  find_least key [] x y up e i so = absurd cc
  find_least key (z ∷ zs) x y up e i so =
      elim (tested (p z)) [
        | inl t ↦
            let is : z ≡ x = same_Some (sym (ap (λ b. cond b (Some z) (find p zs)) t) ∙ e) in
            subst (λ w. compare (key y) (key w) ≢ Less) is (first z zs y i
            (first_so (below_all key (key z) zs) (is_ascending key zs) up))
        | inr t ↦ elim i [
          | inl is ↦ absurd (let f : p y ≡ false = ap p is ∙ t in cc (f, so))
          | inr j ↦ find_least key zs x y (second_so (below_all key (key z) zs) (is_ascending key zs) up)
              (sym (ap (λ b. cond b (Some z) (find p zs)) t) ∙ e) j so
        ]
      ]
    where
      first : (z : A) (zs : List A) (y : A) → In y (z ∷ zs) → below_all key (key z) zs ≡ true
          → compare (key y) (key z) ≢ Less
      first z zs y (inl is) above lt =
          let same : compare (key z) (key z) ≡ Equal = tied_itself nat_list_cmp_total (key z) in
          let less : compare (key z) (key z) ≡ Less = ap (λ w. compare (key w) (key z)) (sym is) ∙ lt in
          cc (same, less)
      first z zs y (inr j) above lt =
          let over : compare (key z) (key y) ≡ Less = below_in key (key z) y zs above j in
          let turned : compare (key y) (key z) ≡ Greater =
          nat_list_cmp_total.antisymm (key y) (key z) ∙ ap ordering_reverse over in
          cc (turned, lt)

-- ---- keys in order

not_below_itself : (k : List ℕ) → compare k k ≢ Less
not_below_itself k lt = let same = tied_itself nat_list_cmp_total k in cc (same, lt)

below_both : (i j k : List ℕ) → compare i j ≡ Less → compare j k ≡ Less → compare i k ≡ Less
below_both i j k p q = nat_list_cmp_total.trans i j k p q

-- what is below one key, and another isn't
not_less : (j k : List ℕ) → is_lt (compare k j) ≡ false → (i : List ℕ) → compare i j ≡ Less → compare i k ≡ Less
not_less j k t i lt = by_cases (compare k j) refl t
  where
    by_cases : (r : Ordering) → compare k j ≡ r → is_lt r ≡ false → compare i k ≡ Less
    by_cases Less e u = absurd cc
    by_cases Equal e u = ap (compare i) (same_key-is k j (ap is_eq e)) ∙ lt
    by_cases Greater e u =
        below_both i j k lt (nat_list_cmp_total.antisymm j k ∙ ap ordering_reverse e)

is_less : (j k : List ℕ) → is_lt (compare j k) ≡ true → compare j k ≡ Less
is_less j k t = by_cases (compare j k) t
  where
    by_cases : (r : Ordering) → is_lt r ≡ true → r ≡ Less
    by_cases Less e = refl
    by_cases Equal e = absurd cc
    by_cases Greater e = absurd cc

any_in : (k : List ℕ) (ks : List (List ℕ)) → list_any (same_key k) ks ≡ true → In k ks
any_in k [] e = absurd cc
any_in k (j ∷ js) e =
    elim (tested (same_key k j)) [
      | inl t ↦ inl (same_key-is k j t)
      | inr t ↦ inr (any_in k js (sym (ap (λ b. b || list_any (same_key k) js) t) ∙ e))
    ]

or_so : (a b : Bool) → b ≡ true → (a || b) ≡ true
or_so true b e = refl
or_so false b e = e

in_any : (k : List ℕ) (ks : List (List ℕ)) → In k ks → list_any (same_key k) ks ≡ true
in_any k [] i = absurd i
in_any k (j ∷ js) (inl e) =
    ap (λ b. b || list_any (same_key k) js) (ap (same_key k) (sym e) ∙ same_key-itself k)
in_any k (j ∷ js) (inr i) = or_so (same_key k j) (list_any (same_key k) js) (in_any k js i)

needed_ascend : is_ascending (λ (k : List ℕ). k) needed_keys ≡ true
unfolding rid_bytes
needed_ascend = refl

none_there : {A : Type 0} (o : Option A) → not (is_some o) ≡ true → o ≡ None
none_there None e = refl
none_there (Some a) e = absurd cc

module _ (pairs : List Pair) (up : is_ascending pair_key pairs ≡ true) where
  lacks : List ℕ → Bool
  lacks k = not (is_some (pair_at k pairs))

  -- a broken key is that of a pair that breaks a rule, or a missing one
  abbrev IsCause : List ℕ → Type 0
  IsCause k = ((p : Pair) × In p pairs × (p.key ≡ k) × (is_broken_pair pairs p ≡ true))
      ⊎ (In k needed_keys × (not (is_some (pair_at k pairs)) ≡ true))

  cause : (k : List ℕ) → is_broken pairs k ≡ true → IsCause k
  cause k e =
      elim (there_or_not (pair_at k pairs)) [
        | inl found ↦ inl (
          found.0,
          at_in pair_key k found.0 pairs found.1,
          key_found pair_key k pairs found.0 found.1,
          sym (ap (is_broken_at pairs k) found.1) ∙ e,
        )
        | inr none ↦ inr (
          any_in k needed_keys (sym (ap (is_broken_at pairs k) none) ∙ e),
          ap (λ o. not (is_some o))
              none,
        )
      ]

  pair_broken : (p : Pair) → In p pairs → is_broken_pair pairs p ≡ true → is_broken pairs p.key ≡ true
  pair_broken p i e = ap (is_broken_at pairs p.key) (in_at pair_key p pairs up i) ∙ e

  missing_broken : (k : List ℕ) → In k needed_keys → not (is_some (pair_at k pairs)) ≡ true → is_broken pairs k ≡ true
  missing_broken k i e =
      ap (is_broken_at pairs k) (none_there (pair_at k pairs) e) ∙ in_any k needed_keys i

  abbrev found_pair : Option Pair
  found_pair = find (is_broken_pair pairs) pairs

  abbrev found_key : Option (List ℕ)
  found_key = first_missing pairs

  abbrev is_lacking : List ℕ → Bool
  is_lacking k = not (is_some (pair_at k pairs))

  not_below_pair : (p : Pair) → found_pair ≡ Some p → (k : List ℕ)
      → ((q : Pair) × In q pairs × (q.key ≡ k) × (is_broken_pair pairs q ≡ true)) → compare k p.key ≢ Less
  not_below_pair p e k q =
      subst (λ j. compare j p.key ≢ Less) q.2
      (find_least (is_broken_pair pairs) pair_key pairs p q.0 up e q.1 q.3)

  not_below_key : (j : List ℕ) → found_key ≡ Some j → (k : List ℕ) → In k needed_keys → is_lacking k ≡ true
      → compare k j ≢ Less
  not_below_key j e k i so = find_least is_lacking (λ (x : List ℕ). x) needed_keys j k needed_ascend e i so

  by_found : (f : Option Pair) (m : Option (List ℕ)) → found_pair ≡ f → found_key ≡ m → (k : List ℕ)
      → smaller (option_map (λ p. p.key) f) m ≡ Some k → IsSmallestBroken pairs k
  by_found None None ef em k e = absurd cc
  by_found None (Some j) ef em k e =
      let is : j ≡ k = same_Some e in
      let so = find_so is_lacking needed_keys j em in
      subst (IsSmallestBroken pairs) is (record {
        broken = missing_broken j so.1 so.0;
        smallest = λ other b. elim (cause other b) [
          | inl q ↦ absurd (
              let none = find_none (is_broken_pair pairs) pairs ef q.0 q.1 in
              let some = q.3 in
              cc (none, some))
          | inr n ↦ not_below_key j em other n.0 n.1
        ];
      })
  by_found (Some p) None ef em k e =
      let is : p.key ≡ k = same_Some e in
      let so = find_so (is_broken_pair pairs) pairs p ef in
      subst (IsSmallestBroken pairs) is (record {
        broken = pair_broken p so.1 so.0;
        smallest = λ other b. elim (cause other b) [
          | inl q ↦ not_below_pair p ef other q
          | inr n ↦ absurd (
              let none = find_none is_lacking needed_keys em other n.0 in
              let some = n.1 in
              cc (none, some))
        ];
      })
  by_found (Some p) (Some j) ef em k e =
      let one = find_so (is_broken_pair pairs) pairs p ef in
      let two = find_so is_lacking needed_keys j em in
      elim (tested (is_lt (compare j p.key))) [
        | inl t ↦
            let is : j ≡ k = same_Some (sym (ap (λ b. cond b (Some j) (Some p.key)) t) ∙ e) in
            let lt = is_less j p.key t in
            subst (IsSmallestBroken pairs) is (record {
              broken = missing_broken j two.1 two.0;
              smallest = λ other b. elim (cause other b) [
                | inl q ↦ λ less. not_below_pair p ef other q (below_both other j p.key less lt)
                | inr n ↦ not_below_key j em other n.0 n.1
              ];
            })
        | inr t ↦
            let is : p.key ≡ k = same_Some (sym (ap (λ b. cond b (Some j) (Some p.key)) t) ∙ e) in
            subst (IsSmallestBroken pairs) is (record {
              broken = pair_broken p one.1 one.0;
              smallest = λ other b. elim (cause other b) [
                | inl q ↦ not_below_pair p ef other q
                | inr n ↦ λ less. not_below_key j em other n.0 n.1 (not_less p.key j t other less)
              ];
            })
      ]

  pub smallest_is : (k : List ℕ) → smallest_broken pairs ≡ Some k → IsSmallestBroken pairs k
  unfolding smallest_broken
  smallest_is k e = by_found found_pair found_key refl refl k e

  none_found : (f : Option Pair) (m : Option (List ℕ)) → smaller (option_map (λ p. p.key) f) m ≡ None
      → (f ≡ None) × (m ≡ None)
  none_found None None e = (refl, refl)
  none_found None (Some j) e = absurd cc
  none_found (Some p) None e = absurd cc
  none_found (Some p) (Some j) e =
      elim (tested (is_lt (compare j p.key))) [
        | inl t ↦ absurd (let some : Some j ≡ None = sym (ap (λ b. cond b (Some j) (Some p.key)) t) ∙ e in cc)
        | inr t ↦ absurd (let some : Some p.key ≡ None = sym (ap (λ b. cond b (Some j) (Some p.key)) t) ∙ e in cc)
      ]

  pub none_is_unbroken : smallest_broken pairs ≡ None → AreUnbroken pairs
  unfolding smallest_broken
  none_is_unbroken e k =
      let none = none_found found_pair found_key e in
      elim (tested (is_broken pairs k)) [
        | inr t ↦ t
        | inl t ↦ absurd (elim (cause k t) [
          | inl q ↦ (
              let not = find_none (is_broken_pair pairs) pairs none.0 q.0 q.1 in
              let some = q.3 in
              cc (not, some))
          | inr n ↦ (
              let not = find_none is_lacking needed_keys none.1 k n.0 in
              let some = n.1 in
              cc (not, some))
        ])
      ]

-- ---- the rows that are loaded

somes_in : (os : List (Option Row)) (row : Row) → In row (somes os) → In (Some row) os
somes_in [] row i = absurd i
somes_in (None ∷ os) row i = inr (somes_in os row i)
somes_in (Some r ∷ os) row (inl e) = inl (ap (λ x. Some x) e)
somes_in (Some r ∷ os) row (inr i) = inr (somes_in os row i)

in_somes : (os : List (Option Row)) (row : Row) → In (Some row) os → In row (somes os)
in_somes [] row i = absurd i
in_somes (None ∷ os) row (inl e) = absurd cc
in_somes (None ∷ os) row (inr i) = in_somes os row i
in_somes (Some r ∷ os) row (inl e) = inl (same_Some e)
in_somes (Some r ∷ os) row (inr i) = inr (in_somes os row i)

in_mapped : {A B : Type 0} (f : A → B) (a : A) (b : B) (xs : List A) → In a xs → b ≡ f a → In b (map f xs)
in_mapped f a b [] i e = absurd i
in_mapped f a b (x ∷ xs) (inl i) e = inl (e ∙ ap f i)
in_mapped f a b (x ∷ xs) (inr i) e = inr (in_mapped f a b xs i e)

each_in : {A : Type 0} (P : A → Type 0) (a : A) (xs : List A) → AllByRecursion P xs → In a xs → P a
each_in P a [] all i = absurd i
each_in P a (x ∷ xs) all (inl i) = subst P (sym i) all.0
each_in P a (x ∷ xs) all (inr i) = each_in P a xs all.1 i

tables_place : (row : Row) (lists : Lists) → AreTables lists → AreTables (place_row row lists)
tables_place (rows.Domain d) lists up = record {
  domains = is_ascending-put domain_key d lists.domains up.domains;
  accounts = up.accounts;
  members = up.members;
  aliases = up.aliases;
  lsa = up.lsa;
  descriptors = up.descriptors;
  outs = up.outs;
}
tables_place (rows.Account a) lists up = record {
  domains = up.domains;
  accounts = is_ascending-put account_key a lists.accounts up.accounts;
  members = up.members;
  aliases = up.aliases;
  lsa = up.lsa;
  descriptors = up.descriptors;
  outs = up.outs;
}
tables_place (rows.Member m) lists up = record {
  domains = up.domains;
  accounts = up.accounts;
  members = is_ascending-put member_key m lists.members up.members;
  aliases = up.aliases;
  lsa = up.lsa;
  descriptors = up.descriptors;
  outs = up.outs;
}
tables_place (rows.Alias x) lists up = record {
  domains = up.domains;
  accounts = up.accounts;
  members = up.members;
  aliases = is_ascending-put alias_key x lists.aliases up.aliases;
  lsa = up.lsa;
  descriptors = up.descriptors;
  outs = up.outs;
}
tables_place (rows.Lsa l) lists up = record {
  domains = up.domains;
  accounts = up.accounts;
  members = up.members;
  aliases = up.aliases;
  lsa = is_ascending-put lsa_key l lists.lsa up.lsa;
  descriptors = up.descriptors;
  outs = up.outs;
}
tables_place (rows.Desc t) lists up = record {
  domains = up.domains;
  accounts = up.accounts;
  members = up.members;
  aliases = up.aliases;
  lsa = up.lsa;
  descriptors = is_ascending-put desc_key t lists.descriptors up.descriptors;
  outs = up.outs;
}
tables_place (rows.Out o) lists up = record {
  domains = up.domains;
  accounts = up.accounts;
  members = up.members;
  aliases = up.aliases;
  lsa = up.lsa;
  descriptors = up.descriptors;
  outs = is_ascending-put out_key o lists.outs up.outs;
}

tables_placed : (puts : List Row) (lists : Lists) → AreTables lists → AreTables (placed puts lists)
tables_placed [] lists up = up
tables_placed (p ∷ ps) lists up = tables_placed ps (place_row p lists) (tables_place p lists up)

pub loaded_tables : (puts : List Row) (next : ℕ) → AreTables (placed puts (no_lists next))
loaded_tables puts next =
    tables_placed puts (no_lists next) (record {
      domains = refl;
      accounts = refl;
      members = refl;
      aliases = refl;
      lsa = refl;
      descriptors = refl;
      outs = refl;
    })

one_loaded : (o : Option Row) (os : List (Option Row)) (lists : Lists)
    → placed (somes os) (placed (somes (o ∷ [])) lists) ≡ placed (somes (o ∷ os)) lists
one_loaded None os lists = refl
one_loaded (Some row) os lists = refl

-- pairs are loaded one by one
pub next_loaded : (pairs : List Pair) (i : ℕ) (p : Pair) (lists : Lists) → i < length pairs → p ≡ get_or pairs i p
    → placed (somes (map row_of (drop (i + 1) pairs))) (placed (somes (row_of p ∷ [])) lists)
    ≡ placed (somes (map row_of (drop i pairs))) lists
next_loaded pairs i p lists lt is =
    one_loaded (row_of p) (map row_of (drop (i + 1) pairs)) lists
    ∙ ap (λ (x : Pair). placed (somes (row_of x ∷ map row_of (drop (i + 1) pairs))) lists) is
    ∙ ap (λ (ps : List Pair). placed (somes (map row_of ps)) lists) (sym (drop_more pairs i p lt))

pub all_loaded : (pairs : List Pair) (i : ℕ) (lists : Lists) → length pairs ≤ i
    → placed (somes (map row_of (drop i pairs))) lists ≡ lists
all_loaded [] zero lists le = refl
all_loaded [] (suc i) lists le = refl
all_loaded (p ∷ ps) zero lists le = absurd (omega arith)
all_loaded (p ∷ ps) (suc i) lists le = all_loaded ps i lists (omega arith)

pub next_read : (pairs : List Pair) (i : ℕ) (p : Pair) → i < length pairs → p ≡ get_or pairs i p → IsReadWell p
    → ((k : ℕ) (d : Pair) → k < i → IsReadWell (get_or pairs k d))
    → (k : ℕ) (d : Pair) → k < i + 1 → IsReadWell (get_or pairs k d)
next_read pairs i p lt is well below k d under =
    elim (tested (nat_lt k i)) [
      | inl t ↦ below k d (grind (arith, nat_tests))
      | inr f ↦
          let here : i ≡ k = grind (arith, nat_tests) in
          subst IsReadWell (is ∙ get_or_default pairs i p d lt ∙ ap (λ n. get_or pairs n d) here) well
    ]

nothing_there : (next : ℕ) (key : RowKey) → row_at (no_lists next) key ≡ None
nothing_there next (keys.Domain n) = refl
nothing_there next (keys.Account n i) = refl
nothing_there next (keys.Member n i) = refl
nothing_there next (keys.Alias n i s) = refl
nothing_there next (keys.Lsa s) = refl
nothing_there next (keys.Desc x) = refl
nothing_there next (keys.Out n) = refl

module _ (equal_sids : EqualSidsAreOne) where
  -- what is found after puts was put, or was there
  puts_cases : (puts : List Row) (lists : Lists) (key : RowKey) (row : Row)
      → row_at (placed puts lists) key ≡ Some row
      → In row puts ⊎ (row_at lists key ≡ Some row)
  puts_cases [] lists key row e = inr e
  puts_cases (p ∷ ps) lists key row e =
      elim (puts_cases ps (place_row p lists) key row e) [
        | inl i ↦ inl (inr i)
        | inr f ↦ elim (same_or_not equal_sids key (key_of p)) [
          | inl is ↦
              let same : Some row ≡ Some p =
              sym f ∙ ap (row_at (place_row p lists)) is ∙ row_place_here lists p in
              inl (inl (same_Some same))
          | inr n ↦ inr (sym (row_place_apart lists p key n.1) ∙ f)
        ]
      ]

  put_in : (ps : List Row) (key : RowKey) → is_put ps key ≡ true → (q : Row) × In q ps × (key_of q ≡ key)
  put_in [] key e = absurd cc
  put_in (p ∷ ps) key e =
      elim (same_or_not equal_sids key (key_of p)) [
        | inl is ↦ (p, inl refl, sym is)
        | inr n ↦
            let rest = put_in ps key (sym (ap (λ b. b || is_put ps key) n.0) ∙ e) in
            (rest.0, inr rest.1, rest.2)
      ]

  in_put : (ps : List Row) (row : Row) → In row ps → is_put ps (key_of row) ≡ true
  in_put [] row i = absurd i
  in_put (p ∷ ps) row (inl e) =
      ap (λ b. b || is_put ps (key_of row))
      (ap (λ r. same_row_key (key_of row) (key_of r)) (sym e) ∙ same_itself equal_sids (key_of row))
  in_put (p ∷ ps) row (inr i) =
      or_so (same_row_key (key_of row) (key_of p)) (is_put ps (key_of row)) (in_put ps row i)

  -- a row of which no other has the key is found after the puts
  one_found : (puts : List Row) (lists : Lists) (row : Row) → In row puts
      → ((q : Row) → In q puts → key_of q ≡ key_of row → q ≡ row)
      → row_at (placed puts lists) (key_of row) ≡ Some row
  one_found [] lists row i one = absurd i
  one_found (p ∷ ps) lists row i one =
      elim (tested (is_put ps (key_of row))) [
        | inl t ↦
            let q = put_in ps (key_of row) t in
            let is : q.0 ≡ row = one q.0 (inr q.1) q.2 in
            one_found ps (place_row p lists) row (subst (λ r. In r ps) is q.1) (λ r j same. one r (inr j) same)
        | inr t ↦ elim i [
          | inr j ↦ absurd (let so = in_put ps row j in cc (so, t))
          | inl is ↦
              let none : is_put ps (key_of p) ≡ false = ap (λ r. is_put ps (key_of r)) (sym is) ∙ t in
              ap (λ r. row_at (placed (p ∷ ps) lists) (key_of r)) is ∙ last_placed equal_sids p ps lists none
              ∙ ap (λ r. Some r) (sym is)
        ]
      ]

unlike : (j k : List ℕ) → j ≢ k → bytes_eq j k ≡ false
unlike j k apart =
    elim (tested (bytes_eq j k)) [ inl t ↦ absurd (apart ((bytes_eq-Decides j k).0 t)) | inr t ↦ t ]

some_is_there : {A : Type 0} (o : Option A) → is_some o ≡ true → (a : A) × (o ≡ Some a)
some_is_there (Some a) e = (a, refl)
some_is_there None e = absurd cc

-- no row has the format's key
format_row : (p : Pair) → p.key ≡ format_key → row_of p ≡ None
unfolding row_of
format_row p key = rw (ap row_key key ∙ format_key_none) refl

-- a next out number that is read isn't 1
next_two : (value : List ℕ) (n : ℕ) → next_out_of value ≡ Some n → 2 ≤ n
unfolding next_out_of
next_two value n e =
    let b = bind_some (front_at 8 value) _ n e in
    let g = passed _ _ n b.2 in
    let low : nat_le 2 (from_le_bytes w64 b.0.0) ≡ true = first_so _ _ (second_so _ _ g.0) in
    let is = g.1 in
    grind (arith, nat_tests, low, is)

next_most : (value : List ℕ) (n : ℕ) → next_out_of value ≡ Some n → n ≤ 2 ^ 63
unfolding next_out_of
next_most value n e =
    let b = bind_some (front_at 8 value) _ n e in
    let g = passed _ _ n b.2 in
    let high : nat_le (from_le_bytes w64 b.0.0) (2 ^ 63) ≡ true = second_so _ _ (second_so _ _ g.0) in
    let is = g.1 in
    grind (arith, nat_tests, high, is)

and_none : (a b : Bool) → (a && (b && false)) ≡ false
and_none true true = refl
and_none true false = refl
and_none false b = refl

never : (b : Bool) → (b && false) ≡ false
never true = refl
never false = refl

any_put : (p : Pair → Bool) (a : Pair) (ps : List Pair) → p a ≡ false → list_any p ps ≡ false
    → list_any p (kept.put a ps) ≡ false
any_put p a [] off none = both_false (p a) false off refl
any_put p a (x ∷ xs) off none =
    let parts = either_false (p x) (list_any p xs) none in
    elim (compare a.key x.key) as (λ r. list_any p (kept.by_order r (a ∷ x ∷ xs) (a ∷ xs) (x ∷ kept.put a xs)) ≡ false) [
      | Less ↦ both_false (p a) _ off none
      | Equal ↦ both_false (p a) _ off parts.1
      | Greater ↦ both_false (p x) _ parts.0 (any_put p a xs off parts.1)
    ]

both_parts : (a b : Bool) → (a && b) ≡ true → (a ≡ true) × (b ≡ true)
both_parts true b e = (refl, e)
both_parts false b e = absurd cc

module _ (back : WrittenBytesAreRead) (sizes : WrittenBytesHaveLengths) (only : ReadBytesAreWritten)
    (equal_sids : EqualSidsAreOne) (pairs : List Pair) (up : is_ascending pair_key pairs ≡ true)
    (well : All IsReadWell pairs) where
  abbrev read : List Row
  read = somes (map row_of pairs)

  abbrev lists : Lists
  lists = loaded pairs

  abbrev next : ℕ
  next = unwrap_or (next_out_in pairs) 1

  pub next_loaded_is : lists.next_out ≡ next
  next_loaded_is = placed_keeps read (no_lists next)

  -- a next out number that is read has 64 bits
  pub next_fits : lists.next_out < 2 ^ 64
  next_fits = subst (λ n. n < 2 ^ 64) (sym next_loaded_is) (fits_in (pair_at next_out_key pairs))
    where
      fits_in : (o : Option Pair) → unwrap_or (next_in o) 1 < 2 ^ 64
      fits_in None = omega arith
      fits_in (Some p) = elim (there_or_not (next_out_of p.value)) [
        | inl found ↦
            let most = next_most p.value found.0 found.1 in
            subst (λ o. unwrap_or o 1 < 2 ^ 64) (sym found.1) (omega (arith, most))
        | inr none ↦ subst (λ o. unwrap_or o 1 < 2 ^ 64) (sym none) (omega arith)
      ]

  pub spelled : (p : Pair) → In p pairs → (row : Row) → row_of p ≡ Some row → IsSpelled p row
  spelled p i row e = (each_in IsReadWell p pairs (recursion_from_All IsReadWell pairs well) i).0 row e

  read_in : (row : Row) → In row read → (p : Pair) × In p pairs × (row_of p ≡ Some row)
  read_in row i =
      let found = map_in row_of (Some row) pairs (somes_in (map row_of pairs) row i) in
      (found.0, found.1, sym found.2)

  -- one of the rows was read of a pair
  pub source : (row : Row) → IsRowOf lists row → (p : Pair) × In p pairs × (row_of p ≡ Some row) × IsSpelled p row
  source row e =
      elim (puts_cases equal_sids read (no_lists next) (key_of row) row (is_row_at lists row e)) [
        | inl i ↦ let p = read_in row i in (p.0, p.1, p.2, spelled p.0 p.1 row p.2)
        | inr f ↦ absurd (let none = nothing_there next (key_of row) in cc (f, none))
      ]

  pub loaded_fits : (row : Row) → IsRowOf lists row → Fits row
  loaded_fits row e = (source row e).3.fits

  one : (row : Row) → In row read → (q : Row) → In q read → key_of q ≡ key_of row → q ≡ row
  one row i q j same =
      let p = read_in row i in
      let r = read_in q j in
      let sp = spelled p.0 p.1 row p.2 in
      let sr = spelled r.0 r.1 q r.2 in
      let keys_are : r.0.key ≡ p.0.key = ap pair_key sr.spelled ∙ ap stored_key same ∙ sym (ap pair_key sp.spelled) in
      let here : pair_at p.0.key pairs ≡ Some p.0 = in_at pair_key p.0 pairs up p.1 in
      let there : pair_at p.0.key pairs ≡ Some r.0 =
      ap (λ k. pair_at k pairs) (sym keys_are) ∙ in_at pair_key r.0 pairs up r.1 in
      let is : r.0 ≡ p.0 = same_Some (sym there ∙ here) in
      same_Some (sym r.2 ∙ ap row_of is ∙ p.2)

  row_loaded : (row : Row) → In row read → IsRowOf lists row
  row_loaded row i =
      (at_is_row lists (key_of row) row (one_found equal_sids read (no_lists next) row i (one row i))).0

  -- what is read of a pair is one of the rows
  pub read_is_row : (p : Pair) → In p pairs → (row : Row) → row_of p ≡ Some row → IsRowOf lists row
  read_is_row p i row e =
      row_loaded row (in_somes (map row_of pairs) row (in_mapped row_of p (Some row) pairs i (sym e)))

  -- the next out number is read of the value that it is written as
  next_spelled : (p : Pair) → In p pairs → (n : ℕ) → next_out_of p.value ≡ Some n → p.value ≡ next_out_value n
  next_spelled p i n e = (each_in IsReadWell p pairs (recursion_from_All IsReadWell pairs well) i).1 n e

  module _ (unbroken : AreUnbroken pairs) where
    -- a pair of another key than the format's is that of the next out number, or that of a row
    next_kind : (p : Pair) → In p pairs → is_next_out pairs p ≡ true → IsNextOut lists.next_out p
    next_kind p i e =
        let parts = both_parts (bytes_eq p.key next_out_key) _ e in
        let key : p.key ≡ next_out_key = (bytes_eq-Decides p.key next_out_key).0 parts.0 in
        let read = (both_parts (is_some (next_out_of p.value)) (not (is_old pairs)) parts.1).0 in
        let found = some_is_there (next_out_of p.value) read in
        let n = found.0 in
        let value : p.value ≡ next_out_value n = next_spelled p i n found.1 in
        let there : pair_at next_out_key pairs ≡ Some p =
        ap (λ k. pair_at k pairs) (sym key) ∙ in_at pair_key p pairs up i in
        let is : lists.next_out ≡ n =
        next_loaded_is ∙ ap (λ o. unwrap_or (next_in o) 1) there ∙ ap (λ o. unwrap_or o 1) found.1 in
        let written : p ≡ next_out_pair n = λ j. record { key = key j; value = value j } in (
          (λ one. (
              let two : 2 ≤ n = next_two p.value n found.1 in
              omega (arith, two, is, one))),
          written ∙ ap (λ m. next_out_pair m) (sym is),
        )

    kinds : (p : Pair) → In p pairs → p.key ≢ format_key
        → IsNextOut lists.next_out p ⊎ ((row : Row) × (row_of p ≡ Some row) × (p ≡ pair_of row))
    kinds p i apart =
        let other : is_format p ≡ false =
        ap (λ b. b && (bytes_eq p.value format_value || bytes_eq p.value old_format_value))
        (unlike p.key format_key apart) in
        let whole : is_broken_pair pairs p ≡ false =
        sym (ap (is_broken_at pairs p.key) (in_at pair_key p pairs up i)) ∙ unbroken p.key in
        elim (tested (is_next_out pairs p)) [
          | inl t ↦ inl (next_kind p i t)
          | inr t ↦
              let rule : breaks_rule pairs (row_of p) ≡ false =
              sym (ap (λ b. not b && (not (is_next_out pairs p) && breaks_rule pairs (row_of p))) other
              ∙ ap (λ b. not b && breaks_rule pairs (row_of p)) t) ∙ whole in
              elim (there_or_not (row_of p)) [
                | inl found ↦ inr (found.0, found.1, (spelled p i found.0 found.1).spelled)
                | inr none ↦ absurd (let broken : breaks_rule pairs (row_of p) ≡ true = ap (breaks_rule pairs) none in
                    cc (broken, rule))
              ]
        ]

    needed_pair : (k : List ℕ) → In k needed_keys → (p : Pair) × (pair_at k pairs ≡ Some p)
    needed_pair k i =
        elim (there_or_not (pair_at k pairs)) [
          | inl found ↦ found
          | inr none ↦ absurd (
              let broken : is_broken pairs k ≡ true = ap (is_broken_at pairs k) none ∙ in_any k needed_keys i in
              let whole = unbroken k in
              cc (broken, whole))
        ]

    -- the pair at the format's key has one of two values, as no row has the key
    format_value_is : (p : Pair) → pair_at format_key pairs ≡ Some p
        → (p.value ≡ format_value) ⊎ (p.value ≡ old_format_value)
    format_value_is p e =
        let key : p.key ≡ format_key = key_found pair_key format_key pairs p e in
        let i : In p pairs = at_in pair_key format_key p pairs e in
        let whole : is_broken_pair pairs p ≡ false = sym (ap (is_broken_at pairs format_key) e) ∙ unbroken format_key in
        elim (tested (is_format p)) [
          | inl t ↦
              let value = (both_parts (bytes_eq p.key format_key) _ t).1 in
              elim (tested (bytes_eq p.value format_value)) [
                | inl u ↦ inl ((bytes_eq-Decides p.value format_value).0 u)
                | inr u ↦ inr ((bytes_eq-Decides p.value old_format_value).0
                    (sym (ap (λ b. b || bytes_eq p.value old_format_value) u) ∙ value))
              ]
          | inr t ↦ absurd (
              let other : is_next_out pairs p ≡ false =
              ap (λ (k : List ℕ). bytes_eq k next_out_key && (is_some (next_out_of p.value) && not (is_old pairs))) key in
              let none : row_of p ≡ None = format_row p key in
              let broken : is_broken_pair pairs p ≡ true =
              ap (λ b. not b && (not (is_next_out pairs p) && breaks_rule pairs (row_of p))) t
              ∙ ap (λ b. not b && breaks_rule pairs (row_of p)) other ∙ ap (breaks_rule pairs) none in
              cc (broken, whole))
        ]

    abbrev new : List Pair
    new = migrated pairs

    format_there : pair_at format_key new ≡ Some format_pair
    format_there =
        elim (tested (is_old pairs)) [
          | inl t ↦ ap (λ b. pair_at format_key (cond b (kept.after (migration ∷ []) pairs) pairs)) t
              ∙ set_here format_key (Some format_value) pairs
          | inr t ↦
              let found = needed_pair format_key (inr (inr (inr (inl refl)))) in
              let p = found.0 in
              let key : p.key ≡ format_key = key_found pair_key format_key pairs p found.1 in
              ap (λ b. pair_at format_key (cond b (kept.after (migration ∷ []) pairs) pairs)) t
              ∙ elim (format_value_is p found.1) [
                | inl value ↦
                    let is : p ≡ format_pair = λ j. record { key = key j; value = value j } in
                    found.1 ∙ ap (λ x. Some x) is
                | inr value ↦ absurd (
                    let old : is_old pairs ≡ true =
                    ap (has_value old_format_value) found.1 ∙ (bytes_eq-Decides old_format_value p.value).1 (sym value) in
                    cc (old, t))
              ]
        ]

    others_there : (k : List ℕ) → k ≢ format_key → pair_at k new ≡ pair_at k pairs
    others_there k apart =
        elim (tested (is_old pairs)) [
          | inl t ↦ ap (λ b. pair_at k (cond b (kept.after (migration ∷ []) pairs) pairs)) t
              ∙ set_apart k format_key (Some format_value) pairs apart
          | inr t ↦ ap (λ b. pair_at k (cond b (kept.after (migration ∷ []) pairs) pairs)) t
        ]

    pub loaded_held : HoldPairs lists new
    loaded_held p = (
      (λ e. elim (tested (bytes_eq p.key format_key)) [
        | inl t ↦
            let key : p.key ≡ format_key = (bytes_eq-Decides p.key format_key).0 t in
            inl (same_Some (sym e ∙ ap (λ k. pair_at k new) key ∙ format_there))
        | inr t ↦
            let apart : p.key ≢ format_key = λ key. (
            let so : bytes_eq p.key format_key ≡ true = (bytes_eq-Decides p.key format_key).1 key in cc (so, t)) in
            let within : In p pairs = at_in pair_key p.key p pairs (sym (others_there p.key apart) ∙ e) in
            elim (kinds p within apart) [
              | inl n ↦ inr (inl n)
              | inr r ↦ inr (inr (r.0, read_is_row p within r.0 r.1, r.2))
            ]
      ]),
      (λ e. elim e [
        | inl is ↦ subst (λ q. pair_at q.key new ≡ Some q) (sym is) format_there
        | inr other ↦ elim other [
          | inl n ↦ subst (λ q. pair_at q.key new ≡ Some q) (sym n.1)
              (others_there next_out_key (λ same. keys_apart (sym same)) ∙ next_pair n.0)
          | inr r ↦
              let q = source r.0 r.1 in
              let is : q.0 ≡ p = q.3.spelled ∙ sym r.2 in
              let apart = not_format back sizes only (key_of r.0) (fits_key back sizes only r.0 q.3.fits) in
              others_there p.key (λ same. apart (sym (ap pair_key r.2) ∙ same))
              ∙ subst (λ x. pair_at x.key pairs ≡ Some x) is (in_at pair_key q.0 pairs up q.1)
        ]
      ]),
    )
      where
        next_pair : lists.next_out ≢ 1 → pair_at next_out_key pairs ≡ Some (next_out_pair lists.next_out)
        next_pair apart =
            elim (there_or_not (pair_at next_out_key pairs)) [
              | inr none ↦ absurd (apart (next_loaded_is ∙ ap (λ o. unwrap_or (next_in o) 1) none))
              | inl found ↦
                  let p = found.0 in
                  let key : p.key ≡ next_out_key = key_found pair_key next_out_key pairs p found.1 in
                  let within : In p pairs = at_in pair_key next_out_key p pairs found.1 in
                  elim (kinds p within (λ same. keys_apart (sym same ∙ key))) [
                    | inl n ↦ found.1 ∙ ap (λ x. Some x) n.1
                    | inr r ↦ absurd (not_next_out back sizes only (key_of r.0)
                        (fits_key back sizes only r.0 (spelled p within r.0 r.1).fits)
                        (sym (ap pair_key r.2) ∙ key))
                  ]
            ]

    -- ---- the pairs in format 2 break no rule

    row_key_apart : (key : RowKey) → stored_key key ≢ format_key
    row_key_apart (keys.Domain n) e = lower_apart 0x64 0x66 (omega arith) (ap first_byte e)
    row_key_apart (keys.Account n i) e = lower_apart 0x61 0x66 (omega arith) (ap first_byte e)
    row_key_apart (keys.Member n i) e = lower_apart 0x66 0x6D (omega arith) (sym (ap first_byte e))
    row_key_apart (keys.Alias n i s) e = lower_apart 0x66 0x6C (omega arith) (sym (ap first_byte e))
    row_key_apart (keys.Lsa s) e = lower_apart 0x66 0x73 (omega arith) (sym (ap first_byte e))
    row_key_apart (keys.Desc x) e = lower_apart 0x66 0x6F (omega arith) (sym (ap first_byte e))
    row_key_apart (keys.Out n) e = lower_apart 0x66 0x71 (omega arith) (sym (ap first_byte e))

    there_alike : (key : RowKey) → pair_at (stored_key key) new ≡ pair_at (stored_key key) pairs
    there_alike key = others_there (stored_key key) (row_key_apart key)

    missing_alike : (kind : Kind) (domain rid : ℕ) → is_missing kind new domain rid ≡ is_missing kind pairs domain rid
    missing_alike kind domain rid =
        ap (λ o. not (is_some o) || is_other kind ((o >>= row_of) >>= as_account)) (there_alike (keys.Account domain rid))

    no_earlier : (a : AccountRow) → is_old pairs ≡ true → list_any (λ pair. is_earlier a (row_of pair)) pairs ≡ false
        → list_any (λ pair. is_earlier a (row_of pair)) new ≡ false
    no_earlier a old none =
        ap (λ b. list_any (λ pair. is_earlier a (row_of pair)) (cond b (kept.after (migration ∷ []) pairs) pairs)) old
        ∙ any_put (λ pair. is_earlier a (row_of pair)) format_pair pairs
        (ap (is_earlier a) (format_row format_pair refl)) none

    among_alike : (row : Row) → is_old pairs ≡ true → breaks_among pairs row ≡ false → breaks_among new row ≡ false
    among_alike (rows.Domain d) old e = refl
    among_alike (rows.Lsa l) old e = refl
    among_alike (rows.Account a) old e =
        let row = rows.Account a in
        let past = either_false (is_past_next pairs row) _ e in
        let taken = either_false (has_taken_name pairs row) _ past.1 in
        let primary = either_false (lacks_primary pairs row) false taken.1 in
        both_false _ _ (ap (λ o. is_past a.rid ((o >>= row_of) >>= as_domain)) (there_alike (keys.Domain a.domain)) ∙ past.0)
        (both_false _ _ (no_earlier a old taken.0) (both_false _ false (
        ap (λ b. same_kind User a.kind && (b || not (is_there new (keys.Member a.primary a.rid))))
        (missing_alike Group 0 a.primary)
        ∙ ap (λ o. same_kind User a.kind && (is_missing Group pairs 0 a.primary || not (is_some o)))
        (there_alike (keys.Member a.primary a.rid)) ∙ primary.0) refl))
    among_alike (rows.Member m) old e =
        ap (λ b. (b || is_missing User new 0 m.user) || false) (missing_alike Group 0 m.group)
        ∙ ap (λ b. (is_missing Group pairs 0 m.group || b) || false) (missing_alike User 0 m.user) ∙ e
    among_alike (rows.Alias a) old e = missing_alike Alias a.domain a.alias ∙ e
    among_alike (rows.Desc d) old e = absurd (
        let lacking = either_false (lacks_object pairs (rows.Desc d)) _ e in
        let new_one = either_false (is_old pairs) false lacking.1 in cc (new_one.0, old))
    among_alike (rows.Out o) old e = absurd (
        let misnumbered = either_false (is_misnumbered pairs (rows.Out o)) _ e in
        let new_one = either_false (is_old pairs) false misnumbered.1 in cc (new_one.0, old))

    rule_alike : (o : Option Row) → is_old pairs ≡ true → breaks_rule pairs o ≡ false → breaks_rule new o ≡ false
    rule_alike None old e = e
    rule_alike (Some row) old e =
        let parts = either_false (breaks_alone row) (breaks_among pairs row) e in
        both_false _ _ parts.0 (among_alike row old parts.1)

    old_unbroken : is_old pairs ≡ true → AreUnbroken new
    old_unbroken old k =
        elim (tested (bytes_eq k format_key)) [
          | inl t ↦
              let key : k ≡ format_key = (bytes_eq-Decides k format_key).0 t in
              ap (is_broken_at new k) (ap (λ j. pair_at j new) key ∙ format_there)
          | inr t ↦
              let apart : k ≢ format_key = λ key. (
              let so : bytes_eq k format_key ≡ true = (bytes_eq-Decides k format_key).1 key in cc (so, t)) in
              ap (is_broken_at new k) (others_there k apart) ∙ elim (there_or_not (pair_at k pairs)) [
                | inr none ↦
                    ap (is_broken_at new k) none ∙ sym (ap (is_broken_at pairs k) none) ∙ unbroken k
                | inl found ↦
                    let p = found.0 in
                    let key : p.key ≡ k = key_found pair_key k pairs p found.1 in
                    let whole : is_broken_pair pairs p ≡ false = sym (ap (is_broken_at pairs k) found.1) ∙ unbroken k in
                    ap (is_broken_at new k) found.1
                    ∙ pair_alike p old (λ same. apart (sym key ∙ same)) whole
              ]
        ]
      where
        pair_alike : (p : Pair) → is_old pairs ≡ true → p.key ≢ format_key → is_broken_pair pairs p ≡ false
            → is_broken_pair new p ≡ false
        pair_alike p old apart whole =
            let other : is_format p ≡ false =
            ap (λ b. b && (bytes_eq p.value format_value || bytes_eq p.value old_format_value))
            (unlike p.key format_key apart) in
            let no_next : is_next_out pairs p ≡ false =
            ap (λ b. bytes_eq p.key next_out_key && (is_some (next_out_of p.value) && not b)) old
            ∙ and_none (bytes_eq p.key next_out_key) (is_some (next_out_of p.value)) in
            let rule : breaks_rule pairs (row_of p) ≡ false =
            sym (ap (λ b. not b && (not (is_next_out pairs p) && breaks_rule pairs (row_of p))) other
            ∙ ap (λ b. not b && breaks_rule pairs (row_of p)) no_next) ∙ whole in
            ap (λ b. not b && (not (is_next_out new p) && breaks_rule new (row_of p))) other
            ∙ ap (λ b. not (is_next_out new p) && b) (rule_alike (row_of p) old rule)
            ∙ never (not (is_next_out new p))

    pub migrated_unbroken : AreUnbroken new
    migrated_unbroken =
        elim (tested (is_old pairs)) [
          | inl t ↦ old_unbroken t
          | inr t ↦ subst AreUnbroken (sym (ap (λ b. cond b (kept.after (migration ∷ []) pairs) pairs) t)) unbroken
        ]
