-- The accounts by domain and folded name: where one stands, and which is found there
use Rattle.std.proofs.Common.{◌≡◌, ◌≢◌, ℕ, suc, zero, ◌<◌, ◌≤◌, Bool, true, false, ◌&&◌, cond, List, [], ◌∷◌, map}
use Rattle.std.proofs.Common.{length, get_or, drop, set, insert, remove, Some, None, Result, Ok, Err, refl, sym, ap}
use Rattle.std.proofs.Common.{subst, ◌∙◌, inl, inr, ◌⊎◌, arith}
use Rattle.std.proofs.lemmas.Bool.{eq-eqb}
use Rattle.std.specs.List.{filter, find}
use Rattle.std.specs.List.Sorted.{IsPermutation, IsSortedByKey}
use Rattle.std.proofs.lemmas.List.Sorted.{IsPermutation-map}
use Rattle.std.specs.declared.cmp.Ordering.{Ordering}
use Rattle.std.specs.declared.cmp.Ordering.TheVariants.{Less, Equal, Greater}
use Rattle.std.specs.Ordering.{nat_cmp, is_lt, ordering_then, ordering_reverse}
use Rattle.std.specs.Cmp.{first_so, second_so, tied_itself, nat_cmp_is}
use Rattle.std.proofs.lemmas.Cmp.{nat_cmp_total}
use Rattle.std.specs.Cmp.Lexicographic.{nat_list_cmp_total}
use Rattle.std.specs.FinMap.{nat_cmp-IsAntisymmetric}
use Rattle.acct_calls.specs.Names.{folded_points, TestTellsSame}
use Rattle.acct_tables.specs.steps.Indexes.{named, name_key, by_name, numbers_of, names_of, key_at, found_key, put_in}
use Rattle.acct_tables.specs.steps.Indexes.{with_pair}
use Rattle.acct_tables.specs.KeyedRows.{compare, at, put, without, place, by_order, further, below_all, is_ascending}
use Rattle.acct_tables.specs.Keys.{account_key}
use Rattle.acct_tables.specs.Selected.{has_name}
use Rattle.acct_tables.specs.declared.row.AccountRow.{AccountRow}
use Rattle.acct_tables.proofs.Ascending.{In, below_in}
use Rattle.acct_tables.proofs.Ended.{ended-compare, ended-parts}
use Rattle.acct_tables.proofs.Lookups.{shadowed, swapped}
use Rattle.acct_tables.proofs.Standing.{in_at, count_by, sorted_rises}
use Rattle.acct_tables.proofs.Orders.{tested, tied-is}
use Rattle.acct_tables.proofs.Places.{put-place, put_at, without-placed, without_at}
use Rattle.acct_tables.proofs.FoldOrder.{alone, squeezed, not_below}
use Rattle.acct_tables.proofs.Indexed.{without_none, index_ascends, index_put_over, index_without, in_index}
use Rattle.acct_tables.proofs.Equals.{equal_is}
use Rattle.acct_tables.proofs.Runs.{spot, first_if, first_found}
use Rattle.acct_tables.proofs.Sorts.{moved_differ, moved_is, count-shown, ascending-shown, map_same}

-- ---- keys

name_tells : (a b : AccountRow) → name_key a ≡ name_key b → account_key a ≡ account_key b
name_tells a b e =
    let domain : a.domain ≡ b.domain = cc in
    let rest = ended-parts (folded_points a.name) (folded_points b.name) (a.rid ∷ []) (b.rid ∷ []) cc in
    ap (λ n. n ∷ a.rid ∷ []) domain ∙ ap (λ ns. b.domain ∷ ns) rest.1

named-compare : (d e : ℕ) (m n : List ℕ) (i j : ℕ)
    → compare (named d m i) (named e n j)
    ≡ ordering_then (nat_cmp d e) (ordering_then (compare (folded_points m) (folded_points n)) (nat_cmp i j))
named-compare d e m n i j =
    ap (ordering_then (nat_cmp d e)) (ended-compare (folded_points m) (folded_points n) (i ∷ []) (j ∷ [])
    ∙ ap (ordering_then (compare (folded_points m) (folded_points n))) (alone i j))

-- the order of an account's key and another, as it is told part by part
pub row_order : (a : AccountRow) (d : ℕ) (n : List ℕ) (i : ℕ) (first names : Ordering) → first ≡ nat_cmp a.domain d
    → names ≡ compare (folded_points a.name) (folded_points n)
    → compare (name_key a) (named d n i) ≡ ordering_then first (ordering_then names (nat_cmp a.rid i))
row_order a d n i first names is are =
    named-compare a.domain d a.name n a.rid i
    ∙ ap (λ o. ordering_then o (ordering_then (compare (folded_points a.name) (folded_points n)) (nat_cmp a.rid i)))
    (sym is)
    ∙ ap (λ o. ordering_then first (ordering_then o (nat_cmp a.rid i))) (sym are)

-- ---- the accounts by name

pub by_name_ascends : (accounts : List AccountRow) → is_ascending name_key (by_name accounts) ≡ true
by_name_ascends = index_ascends (λ (a : AccountRow). a) account_key name_key name_tells

-- rows that are among others
abbrev pub Among : List AccountRow → List AccountRow → Type 0
Among ys accounts = (y : AccountRow) → In y ys → In y accounts

by_name_among : (accounts : List AccountRow) → Among (by_name accounts) accounts
by_name_among accounts y e =
    let w = in_index (λ (a : AccountRow). a) account_key name_key name_tells y accounts e in
    subst (λ a. In a accounts) (sym w.2) w.1

in_filter : (p : AccountRow → Bool) (accounts : List AccountRow) → Among (filter p accounts) accounts
in_filter p [] y e = e
in_filter p (x ∷ xs) y e =
    let rest = in_filter p xs y in
    elim (p x) as (λ b. In y (cond b (x ∷ filter p xs) (filter p xs)) → (y ≡ x) ⊎ In y xs) [
      | true ↦ λ i. elim i [ inl l ↦ inl l | inr r ↦ inr (rest r) ]
      | false ↦ λ i. inr (rest i)
    ] e

-- ---- pairs in place of rows

module _ (accounts : List AccountRow) (h : is_ascending account_key accounts ≡ true) where
  key_of_pair : (a : AccountRow) → In a accounts → key_at accounts (numbers_of a) ≡ name_key a
  key_of_pair a e = ap found_key (in_at account_key a accounts h e)

  pub place_pairs : (q : List ℕ) (ys : List AccountRow) → Among ys accounts
      → place (key_at accounts) q (map numbers_of ys) ≡ place name_key q ys
  place_pairs q [] among = refl
  place_pairs q (y ∷ ys) among =
      ap (λ k. by_order (compare q k) (Err 0) (Ok 0) (further (place (key_at accounts) q (map numbers_of ys))))
      (key_of_pair y (among y (inl refl)))
      ∙ ap (λ r. by_order (compare q (name_key y)) (Err 0) (Ok 0) (further r))
      (place_pairs q ys (λ z e. among z (inr e)))

  below_pairs : (q : List ℕ) (ys : List AccountRow) → Among ys accounts
      → below_all (key_at accounts) q (map numbers_of ys) ≡ below_all name_key q ys
  below_pairs q [] among = refl
  below_pairs q (y ∷ ys) among =
      ap (λ k. is_lt (compare q k) && below_all (key_at accounts) q (map numbers_of ys))
      (key_of_pair y (among y (inl refl)))
      ∙ ap (λ b. is_lt (compare q (name_key y)) && b) (below_pairs q ys (λ z e. among z (inr e)))

  pub ascending_pairs : (ys : List AccountRow) → Among ys accounts
      → is_ascending (key_at accounts) (map numbers_of ys) ≡ is_ascending name_key ys
  ascending_pairs [] among = refl
  ascending_pairs (y ∷ ys) among =
      ap (λ k. below_all (key_at accounts) k (map numbers_of ys) && is_ascending (key_at accounts) (map numbers_of ys))
      (key_of_pair y (among y (inl refl)))
      ∙ ap (λ b. b && is_ascending (key_at accounts) (map numbers_of ys))
      (below_pairs (name_key y) ys (λ z e. among z (inr e)))
      ∙ ap (λ b. below_all name_key (name_key y) ys && b) (ascending_pairs ys (λ z e. among z (inr e)))

put_in-map : (r : Result ℕ ℕ) (a : AccountRow) (ys : List AccountRow)
    → put_in r (numbers_of a) (map numbers_of ys) ≡ map numbers_of (put_in r a ys)
put_in-map (Ok i) a ys = sets i ys
  where
    sets : (i : ℕ) (ys : List AccountRow) → set (map numbers_of ys) i (numbers_of a) ≡ map numbers_of (set ys i a)
    sets i [] = refl
    sets zero (y ∷ ys) = refl
    sets (suc i) (y ∷ ys) = ap (λ zs. numbers_of y ∷ zs) (sets i ys)
put_in-map (Err i) a ys = inserts i ys
  where
    inserts : (i : ℕ) (ys : List AccountRow)
        → insert (map numbers_of ys) i (numbers_of a) ≡ map numbers_of (insert ys i a)
    inserts zero ys = refl
    inserts (suc i) [] = refl
    inserts (suc i) (y ∷ ys) = ap (λ zs. numbers_of y ∷ zs) (inserts i ys)

put_in-is : (r : Result ℕ ℕ) (a : AccountRow) (ys : List AccountRow) → put_in r a ys ≡ put_at name_key r a ys
put_in-is (Ok i) a ys = refl
put_in-is (Err i) a ys = refl

without_at-map : (key : ℕ × ℕ → List ℕ) (r : Result ℕ ℕ) (ys : List AccountRow)
    → without_at key r (map numbers_of ys) ≡ map numbers_of (without_at name_key r ys)
without_at-map key (Ok i) ys = removes i ys
  where
    removes : (i : ℕ) (ys : List AccountRow) → remove (map numbers_of ys) i ≡ map numbers_of (remove ys i)
    removes zero [] = refl
    removes zero (y ∷ ys) = refl
    removes (suc i) [] = refl
    removes (suc i) (y ∷ ys) = ap (λ zs. numbers_of y ∷ zs) (removes i ys)
without_at-map key (Err i) ys = refl

-- ---- changes

module _ (accounts : List AccountRow) (h : is_ascending account_key accounts ≡ true) where
  pub names_ascend : (rows : List AccountRow) → Among rows accounts
      → is_ascending (key_at accounts) (names_of rows) ≡ true
  unfolding names_of
  names_ascend rows among =
      ascending_pairs accounts h (by_name rows) (λ y e. among y (by_name_among rows y e)) ∙ by_name_ascends rows

  pub names_ascend_all : is_ascending (key_at accounts) (names_of accounts) ≡ true
  names_ascend_all = names_ascend accounts (λ y e. e)

  pub names_ascend_others : (k : List ℕ)
      → is_ascending (key_at accounts) (names_of (without account_key k accounts)) ≡ true
  names_ascend_others k = names_ascend (without account_key k accounts) (in_filter _ accounts)

  -- the pair of a row among those of others
  paired : (row : AccountRow) (ys : List AccountRow) → Among ys accounts
      → with_pair accounts row (map numbers_of ys) ≡ map numbers_of (put name_key row ys)
  paired row ys among =
      ap (λ r. put_in r (numbers_of row) (map numbers_of ys)) (place_pairs accounts h (name_key row) ys among)
      ∙ put_in-map (place name_key (name_key row) ys) row ys
      ∙ ap (map numbers_of) (put_in-is (place name_key (name_key row) ys) row ys ∙ sym (put-place name_key row ys))

  pub names_put : (row : AccountRow)
      → with_pair accounts row (names_of (without account_key (account_key row) accounts))
      ≡ names_of (put account_key row accounts)
  unfolding names_of
  names_put row =
      let others : List AccountRow = without account_key (account_key row) accounts in
      paired row (by_name others) (λ y e. in_filter _ accounts y (by_name_among others y e))
      ∙ ap (map numbers_of)
      (sym (index_put_over (λ (a : AccountRow). a) account_key name_key name_tells row accounts h))

  pub names_without : (k : List ℕ) (row : AccountRow) (r : Result ℕ ℕ) → at account_key k accounts ≡ Some row
      → r ≡ place (key_at accounts) (name_key row) (names_of accounts)
      → without_at (key_at accounts) r (names_of accounts) ≡ names_of (without account_key k accounts)
  unfolding names_of
  names_without k row r there is =
      without_at-map (key_at accounts) r (by_name accounts)
      ∙ ap (map numbers_of) (without-placed name_key (name_key row) (by_name accounts) r (by_name_ascends accounts)
      (is ∙ place_pairs accounts h (name_key row) (by_name accounts) (by_name_among accounts))
      ∙ sym (index_without (λ (a : AccountRow). a) account_key name_key name_tells k accounts row h there))

  pub names_without_none : (k : List ℕ) → at account_key k accounts ≡ None
      → names_of accounts ≡ names_of (without account_key k accounts)
  names_without_none k none = ap names_of (sym (without_none account_key k accounts h none))

-- ---- which account is found

find_put : (p : AccountRow → Bool) (x : AccountRow) (ys : List AccountRow)
    → (p x ≡ true → (b : AccountRow) → In b ys → p b ≡ true → compare (name_key x) (name_key b) ≡ Less)
    → ((b : AccountRow) → name_key x ≡ name_key b → p x ≡ p b)
    → find p (put name_key x ys) ≡ cond (p x) (Some x) (find p ys)
find_put p x [] under alike = refl
find_put p x (y ∷ ys) under alike =
    let rest = find_put p x ys (λ t b e. under t b (inr e)) alike in
    elim (compare (name_key x) (name_key y)) as
    (λ r. compare (name_key x) (name_key y) ≡ r
    → find p (by_order r (x ∷ y ∷ ys) (x ∷ ys) (y ∷ put name_key x ys))
    ≡ cond (p x) (Some x) (cond (p y) (Some y) (find p ys))) [
      | Less ↦ λ e. refl
      | Equal ↦ λ e. shadowed (p x) (Some x) (Some y) (find p ys)
          ∙ ap (λ b. cond (p x) (Some x) (cond b (Some y) (find p ys))) (alike y (tied-is _ _ e))
      | Greater ↦ λ e. ap (cond (p y) (Some y)) rest
          ∙ swapped (p y) (p x) (Some y) (Some x) (find p ys)
          (λ there here. let lt = under here y (inl refl) there in cc)
    ] refl

alike_order : (d e : ℕ) (m n : List ℕ) (i j : ℕ) → d ≡ e → folded_points m ≡ folded_points n
    → compare (named d m i) (named e n j) ≡ nat_cmp i j
alike_order d e m n i j domain names =
    named-compare d e m n i j
    ∙ ap (λ o. ordering_then o (ordering_then (compare (folded_points m) (folded_points n)) (nat_cmp i j)))
    (sym (nat_cmp_is d e Equal domain))
    ∙ ap (λ o. ordering_then o (nat_cmp i j))
    (ap (compare (folded_points m)) (sym names) ∙ tied_itself nat_list_cmp_total (folded_points m))

module _ (same : TestTellsSame) (d : ℕ) (n : List ℕ) where
  has : (x : AccountRow) → has_name d n x ≡ true → (x.domain ≡ d) × (folded_points x.name ≡ folded_points n)
  has x t = (equal_is x.domain d (first_so _ _ t), (same x.name n).0 (second_so _ _ t))

  had : (x : AccountRow) → x.domain ≡ d → folded_points x.name ≡ folded_points n → has_name d n x ≡ true
  had x domain names = rw (eq-eqb x.domain d domain, (same x.name n).1 names) refl

  alike_has : (x y : AccountRow) → name_key x ≡ name_key y → has_name d n x ≡ has_name d n y
  alike_has x y e =
      let domain : x.domain ≡ y.domain = cc in
      let names : folded_points x.name ≡ folded_points y.name =
      (ended-parts (folded_points x.name) (folded_points y.name) (x.rid ∷ []) (y.rid ∷ []) cc).0 in
      elim (tested (has_name d n x)) [
        | inl t ↦ let w = has x t in t ∙ sym (had y (sym domain ∙ w.0) (sym names ∙ w.1))
        | inr f ↦ elim (tested (has_name d n y)) [
          | inl t ↦ absurd (
              let w = has y t in
              let yes : has_name d n x ≡ true = had x (domain ∙ w.0) (names ∙ w.1) in
              cc)
          | inr g ↦ f ∙ sym g
        ]
      ]

  -- the account of that name with the least RID is the first of them by name too
  find_by_name : (accounts : List AccountRow) → is_ascending account_key accounts ≡ true
      → find (has_name d n) (by_name accounts) ≡ find (has_name d n) accounts
  find_by_name [] h = refl
  find_by_name (x ∷ xs) h =
      find_put (has_name d n) x (by_name xs) under (alike_has x)
      ∙ ap (cond (has_name d n x) (Some x)) (find_by_name xs (second_so _ _ h))
    where
      under : has_name d n x ≡ true → (b : AccountRow) → In b (by_name xs) → has_name d n b ≡ true
          → compare (name_key x) (name_key b) ≡ Less
      under t b e u =
          let one = has x t in
          let other = has b u in
          let domain : x.domain ≡ b.domain = one.0 ∙ sym other.0 in
          let lt : compare (account_key x) (account_key b) ≡ Less =
          below_in account_key (account_key x) b xs (first_so _ _ h) (by_name_among xs b e) in
          let rids : compare (account_key x) (account_key b) ≡ nat_cmp x.rid b.rid =
          ap (λ o. ordering_then o (compare (x.rid ∷ []) (b.rid ∷ [])))
          (sym (nat_cmp_is x.domain b.domain Equal domain)) ∙ alone x.rid b.rid in
          alike_order x.domain b.domain x.name b.name x.rid b.rid domain (one.1 ∙ sym other.1) ∙ sym rids ∙ lt

  low : (x : AccountRow) → has_name d n x ≡ true → compare (named d n 0) (name_key x) ≢ Greater
  low x t gt =
      let w = has x t in
      not_below x.rid (sym (alike_order d x.domain n x.name 0 x.rid (sym w.0) (sym w.1)) ∙ gt)

  over : (x y : AccountRow) → compare (named d n 0) (name_key x) ≢ Greater → has_name d n x ≡ false
      → compare (name_key x) (name_key y) ≡ Less → has_name d n y ≡ false
  over x y up f lt =
      elim (tested (has_name d n y)) [
        | inl t ↦ absurd (
            let w = has y t in
            let low_is = named-compare d x.domain n x.name 0 x.rid in
            let high_is = named-compare x.domain y.domain x.name y.name x.rid y.rid in
            let turned : nat_cmp x.domain y.domain ≡ ordering_reverse (nat_cmp d x.domain) =
            ap (nat_cmp x.domain) w.0 ∙ nat_cmp_total.antisymm x.domain d in
            let names_turned : compare (folded_points x.name) (folded_points y.name)
            ≡ ordering_reverse (compare (folded_points n) (folded_points x.name)) =
            ap (compare (folded_points x.name)) w.1
            ∙ nat_list_cmp_total.antisymm (folded_points x.name) (folded_points n) in
            let first = squeezed (nat_cmp d x.domain)
            (ordering_then (compare (folded_points n) (folded_points x.name)) (nat_cmp 0 x.rid))
            (ordering_then (compare (folded_points x.name) (folded_points y.name)) (nat_cmp x.rid y.rid))
            (λ gt. up (low_is ∙ gt))
            (ap (λ o. ordering_then o
            (ordering_then (compare (folded_points x.name) (folded_points y.name)) (nat_cmp x.rid y.rid))) (sym turned)
            ∙ sym high_is ∙ lt) in
            let second = squeezed (compare (folded_points n) (folded_points x.name)) (nat_cmp 0 x.rid)
            (nat_cmp x.rid y.rid) first.1
            (ap (λ o. ordering_then o (nat_cmp x.rid y.rid)) (sym names_turned) ∙ first.2) in
            let domain : d ≡ x.domain = nat_cmp-IsAntisymmetric d x.domain first.0 in
            let names : folded_points n ≡ folded_points x.name = tied-is _ _ second.0 in
            let yes : has_name d n x ≡ true = had x (sym domain) (sym names) in
            cc)
        | inr g ↦ g
      ]

  pub name_found : (accounts : List AccountRow) → (h : is_ascending account_key accounts ≡ true) → (r : Result ℕ ℕ)
      → r ≡ place (key_at accounts) (named d n 0) (names_of accounts)
      → find (has_name d n) accounts ≡ first_if (has_name d n) (drop (spot r) (by_name accounts))
  unfolding names_of
  name_found accounts h r is =
      sym (find_by_name accounts h)
      ∙ first_found name_key (has_name d n) (named d n 0) low over (by_name accounts) (by_name_ascends accounts)
      ∙ ap (λ s. first_if (has_name d n) (drop (spot s) (by_name accounts)))
      (sym (is ∙ place_pairs accounts h (named d n 0) (by_name accounts) (by_name_among accounts)))

-- ---- the row at a pair

first_past : (p : AccountRow → Bool) (i : ℕ) (ys : List AccountRow) → length (map numbers_of ys) ≤ i
    → first_if p (drop i ys) ≡ None
first_past p zero [] le = refl
first_past p (suc i) [] le = refl
first_past p zero (y ∷ ys) le = absurd (omega arith)
first_past p (suc i) (y ∷ ys) le = first_past p i ys (omega arith)

pub first_past_names : (p : AccountRow → Bool) (i : ℕ) (accounts : List AccountRow) → length (names_of accounts) ≤ i
    → first_if p (drop i (by_name accounts)) ≡ None
unfolding names_of
first_past_names p i accounts le = first_past p i (by_name accounts) le

-- the account whose pair stands at a place
abbrev StandsAt : (AccountRow → Bool) → List AccountRow → List AccountRow → ℕ → ℕ × ℕ → Type 0
StandsAt p accounts ys i pair = (y : AccountRow) × (at account_key (pair.0 ∷ pair.1 ∷ []) accounts ≡ Some y)
    × (first_if p (drop i ys) ≡ cond (p y) (Some y) None)

stands : (p : AccountRow → Bool) (accounts : List AccountRow) → is_ascending account_key accounts ≡ true
    → (ys : List AccountRow) → Among ys accounts → (i : ℕ) (pair : ℕ × ℕ) → i < length (map numbers_of ys)
    → pair ≡ get_or (map numbers_of ys) i pair → StandsAt p accounts ys i pair
stands p accounts h [] among i pair lt is = absurd (omega arith)
stands p accounts h (y ∷ ys) among zero pair lt is = (
  y,
  ap (λ (q : ℕ × ℕ). at account_key (q.0 ∷ q.1 ∷ []) accounts) is ∙ in_at account_key y accounts h (among y (inl refl)),
  refl,
)
stands p accounts h (y ∷ ys) among (suc i) pair lt is =
    stands p accounts h ys (λ z e. among z (inr e)) i pair (omega arith) is

pub stands_at_name : (p : AccountRow → Bool) (accounts : List AccountRow) → is_ascending account_key accounts ≡ true
    → (i : ℕ) (pair : ℕ × ℕ) → i < length (names_of accounts) → pair ≡ get_or (names_of accounts) i pair
    → (y : AccountRow) × (at account_key (pair.0 ∷ pair.1 ∷ []) accounts ≡ Some y)
    × (first_if p (drop i (by_name accounts)) ≡ cond (p y) (Some y) None)
unfolding names_of
stands_at_name p accounts h i pair lt is =
    stands p accounts h (by_name accounts) (by_name_among accounts) i pair lt is

-- ---- all accounts

pub no_names : [] ≡ names_of []
unfolding names_of
no_names = refl

-- values that show accounts, sorted by name, show them by name
module _ {A : Type 0} (shown : A → AccountRow) (accounts : List AccountRow) where
  pub names_sorted : (lent rows : List A) → is_ascending account_key accounts ≡ true → map shown lent ≡ accounts
      → IsPermutation lent rows → IsSortedByKey (λ row. name_key (shown row)) compare rows
      → map shown rows ≡ by_name accounts
  names_sorted lent rows h are moved sorted =
      let same : AccountRow → AccountRow = λ a. a in
      let all : IsPermutation (map same accounts) (map shown rows) =
      subst (λ xs. IsPermutation xs (map shown rows)) (are ∙ sym (map_same accounts))
      (IsPermutation-map shown lent rows moved) in
      let few : (k : List ℕ) → count_by (λ row. name_key (shown row)) k rows ≤ 1 =
      λ k. (let one = count-shown shown name_key k rows in
      let most = moved_differ same account_key name_key name_tells accounts (map shown rows) h all k in
      omega arith) in
      moved_is same account_key name_key name_tells accounts (map shown rows) h all
      (ascending-shown shown name_key rows ∙ sorted_rises (λ row. name_key (shown row)) rows sorted few)

  paired_shown : (rows : List A) → map (λ row. numbers_of (shown row)) rows ≡ map numbers_of (map shown rows)
  paired_shown [] = refl
  paired_shown (r ∷ rs) = ap (λ pairs. numbers_of (shown r) ∷ pairs) (paired_shown rs)

  pub names_are : (rows : List A) → map shown rows ≡ by_name accounts
      → map (λ row. numbers_of (shown row)) rows ≡ names_of accounts
  unfolding names_of
  names_are rows are = paired_shown rows ∙ ap (map numbers_of) are
