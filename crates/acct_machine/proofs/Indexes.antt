-- The indexes of handles, as handles come and go.
use Rattle.std.proofs.Common.{◌≡◌, ◌≢◌, ℕ, ◌<◌, ◌==◌, Bool, true, false, ◌&&◌, not, cond, List, [], ◌∷◌}
use Rattle.std.proofs.Common.{◌++◌, map, Option, Some, None, option_map, refl, sym, ap, subst, ◌∙◌, inl, inr, arith}
use Rattle.std.specs.List.{filter, find}
use Rattle.std.specs.Cmp.{nat_cmp_is, first_so, second_so}
use Rattle.std.specs.Ordering.{nat_cmp, ordering_then, is_eq}
use Rattle.std.specs.declared.cmp.Ordering.{Ordering}
use Rattle.std.specs.declared.cmp.Ordering.TheVariants.{Less, Equal, Greater}
use Rattle.std.proofs.lemmas.Cmp.{ranked}
use Rattle.std.proofs.lemmas.Bool.Decides.{nat_tests}
use Rattle.dtyp_sid.specs.Sids.{SidValue, sid_eq, sid_cmp}
use Rattle.dtyp_sid.proofs.Equal.{equal_sids}
use Rattle.acct_tables.specs.declared.object.Object.{Object}
use Rattle.acct_tables.specs.declared.object.Object.TheVariants.{Server, Domain, Group, Alias, User, Policy, Account}
use Rattle.acct_tables.specs.Keys.{domain_of, rid_of, same_object}
use Rattle.acct_tables.specs.Keyed.{Key, compare, compare_front, is_within, put, without_all, is_ascending, sorted}
use Rattle.acct_tables.proofs.Ascending.{In, is_ascending-filter}
use Rattle.acct_tables.proofs.Ended.{then_then, ended-compare, ended-front, ended-parts}
use Rattle.acct_tables.proofs.Sorted.{in_put, in_filter, sorted_put, sorted_push, sorted_filter, sorted_already}
use Rattle.acct_tables.proofs.Sorted.{without_passing, sorted_without, follows_ascends}
use Rattle.acct_machine.specs.declared.state.Held.{Held}
use Rattle.acct_machine.specs.declared.arrivals.Arrival.{Arrival}
use Rattle.acct_machine.specs.declared.arrivals.Numbered.TheVariants as numbers
use Rattle.acct_machine.specs.State.{number_of, is_handle, find_handle}
use Rattle.acct_machine.specs.steps.Arrivals.{number_key, number_front, rank_of, sid_part, object_part, object_order}
use Rattle.acct_machine.specs.steps.Arrivals.{object_key, object_front, turn_key}
use Rattle.acct_machine.specs.steps.Indexed.{held_of, arrived, CameBefore}

-- ---- orders

-- orders of keys of three numbers, and of two
abbrev three : Ordering → Ordering → Ordering → Ordering
three r s t = ordering_then r (ordering_then s (ordering_then t Equal))

abbrev two : Ordering → Ordering → Ordering
two r s = ordering_then r (ordering_then s Equal)

-- objects compare, and then what is after them
pub objects_ordered : (a b : Object) (j k : Key)
    → ordering_then (object_order a b) (compare j k) ≡ compare (object_part a j) (object_part b k)
objects_ordered a b j k =
    let ranks = nat_cmp (rank_of a) (rank_of b) in
    let domains = nat_cmp (domain_of a) (domain_of b) in
    let rids = nat_cmp (rid_of a) (rid_of b) in
    let sids = compare (sid_part a) (sid_part b) in
    then_then ranks (ordering_then domains (ordering_then rids sids)) (compare j k)
    ∙ ap (ordering_then ranks) (then_then domains (ordering_then rids sids) (compare j k)
    ∙ ap (ordering_then domains) (then_then rids sids (compare j k)
    ∙ ap (ordering_then rids) (sym (ended-compare (sid_part a) (sid_part b) j k))))

pub objects_fronted : (a b : Object) (j : Key)
    → object_order a b ≡ compare_front (object_part a j) (object_part b [])
objects_fronted a b j =
    ap (λ r. ordering_then (nat_cmp (rank_of a) (rank_of b)) (ordering_then (nat_cmp (domain_of a) (domain_of b))
    (ordering_then (nat_cmp (rid_of a) (rid_of b)) r))) (sym (ended-front (sid_part a) (sid_part b) j))

-- ---- tests

eq_is : (m n : ℕ) → is_eq (nat_cmp m n) ≡ (m == n)
eq_is m n =
    elim (nat_cmp m n) as (λ r. r ≡ nat_cmp m n → is_eq r ≡ (m == n)) [
      | Less ↦ λ p. let lt = ranked m n Less p in let no : (m == n) ≡ false = grind (arith, nat_tests) in sym no
      | Equal ↦ λ p. let same = ranked m n Equal p in let yes : (m == n) ≡ true = grind (arith, nat_tests) in sym yes
      | Greater ↦ λ p. let gt = ranked m n Greater p in let no : (m == n) ≡ false = grind (arith, nat_tests) in sym no
    ] refl

two_equal : (r s : Ordering) → is_eq (two r s) ≡ (is_eq r && is_eq s)
two_equal Less s = refl
two_equal Greater s = refl
two_equal Equal Less = refl
two_equal Equal Equal = refl
two_equal Equal Greater = refl

one_equal : (r : Ordering) → is_eq (ordering_then r Equal) ≡ is_eq r
one_equal Less = refl
one_equal Greater = refl
one_equal Equal = refl

pub handle_within : (conn number : ℕ) (a : Arrival)
    → is_within number_key (number_front (numbers.Handle conn number)) a ≡ is_handle conn number (held_of a)
handle_within conn number a =
    let n : ℕ = number_of a.held.conn a.held.serial in
    two_equal (nat_cmp a.held.conn conn) (nat_cmp n number)
    ∙ ap (λ b. b && is_eq (nat_cmp n number)) (eq_is a.held.conn conn)
    ∙ ap (λ b. (a.held.conn == conn) && b) (eq_is n number)

pub conn_within : (conn : ℕ) (a : Arrival)
    → is_within number_key (number_front (numbers.Conn conn)) a ≡ (a.held.conn == conn)
conn_within conn a = one_equal (nat_cmp a.held.conn conn) ∙ eq_is a.held.conn conn

sids_equal : (s t : SidValue) → is_eq (sid_cmp s t) ≡ sid_eq s t
sids_equal s t =
    let law = equal_sids s t in
    elim (sid_eq s t) as (λ b. sid_eq s t ≡ b → is_eq (sid_cmp s t) ≡ b) [
      | true ↦ λ e. ap is_eq (law.1.1 (law.0.0 e))
      | false ↦ λ e. elim (sid_cmp s t) as (λ r. sid_cmp s t ≡ r → is_eq r ≡ false) [
        | Less ↦ λ p. refl
        | Equal ↦ λ p. let yes : sid_eq s t ≡ true = law.0.1 (law.1.0 p) in cc
        | Greater ↦ λ p. refl
      ] refl
    ] refl

same_order : (a b : Object) → is_eq (object_order a b) ≡ same_object a b
same_order Server Server = refl
same_order (Domain a) (Domain b) = one_equal (nat_cmp a b) ∙ eq_is a b
same_order (Group a) (Group b) = one_equal (nat_cmp a b) ∙ eq_is a b
same_order (Alias a i) (Alias b j) = two_equal (nat_cmp a b) (nat_cmp i j)
    ∙ ap (λ t. t && is_eq (nat_cmp i j)) (eq_is a b) ∙ ap (λ t. (a == b) && t) (eq_is i j)
same_order (User a) (User b) = one_equal (nat_cmp a b) ∙ eq_is a b
same_order Policy Policy = refl
same_order (Account a) (Account b) = sids_equal a b
same_order _ _ = refl

pub object_within : (object : Object) (a : Arrival)
    → is_within object_key (object_front object) a ≡ same_object a.held.object object
object_within object a =
    ap is_eq (sym (objects_fronted a.held.object object (number_key a))) ∙ same_order a.held.object object

-- ---- keys

rest_of : Key → Key
rest_of [] = []
rest_of (n ∷ ns) = ns

pub object_tells : (x y : Arrival) → object_key x ≡ object_key y → number_key x ≡ number_key y
unfolding rest_of
object_tells x y e =
    (ended-parts (sid_part x.held.object) (sid_part y.held.object) (number_key x) (number_key y)
    (ap (λ k. rest_of (rest_of (rest_of k))) e)).1

pub turn_tells : (x y : Arrival) → turn_key x ≡ turn_key y → number_key x ≡ number_key y
unfolding rest_of
turn_tells x y e = ap rest_of e

turn_in : Key → ℕ
turn_in (c ∷ n ∷ t ∷ ts) = t
turn_in _ = 0

same_turn : (x y : Arrival) → number_key x ≡ number_key y → x.turn ≡ y.turn
unfolding turn_in
same_turn x y e = ap turn_in e

-- ---- turns

before_in : (next : ℕ) (xs : List Arrival) (a : Arrival) → CameBefore next xs → In a xs → a.turn < next
before_in next [] a all e = absurd e
before_in next (x ∷ xs) a all (inl e) = subst (λ (y : Arrival). y.turn < next) (sym e) all.0
before_in next (x ∷ xs) a all (inr e) = before_in next xs a all.1 e

in_before : (next : ℕ) (xs : List Arrival) → ((a : Arrival) → In a xs → a.turn < next) → CameBefore next xs
in_before next [] each = tt
in_before next (x ∷ xs) each = (each x (inl refl), in_before next xs (λ a e. each a (inr e)))

pub before_filter : (next : ℕ) (p : Arrival → Bool) (xs : List Arrival) → CameBefore next xs
    → CameBefore next (filter p xs)
before_filter next p xs all =
    in_before next (filter p xs) (λ a e. before_in next xs a all (in_filter p a xs e).0)

pub before_put : (next later : ℕ) (a : Arrival) (xs : List Arrival) → CameBefore next xs → a.turn ≡ next
    → next < later → CameBefore later (put number_key a xs)
before_put next later a xs all is lt =
    in_before later (put number_key a xs) (λ b e. elim (in_put number_key b a xs e) [
      | inl l ↦ let same : b.turn ≡ a.turn = ap (λ (x : Arrival). x.turn) l in omega arith
      | inr r ↦ let under : b.turn < next = before_in next xs b all r in omega arith
    ])

-- a handle whose turn comes next
module _ (next : ℕ) (a : Arrival) (is : a.turn ≡ next) (xs : List Arrival) (all : CameBefore next xs)
    (h : is_ascending number_key xs ≡ true) where
  is_new : (x : Arrival) → In x xs → number_key x ≢ number_key a
  is_new x e same =
      let under : x.turn < next = before_in next xs x all e in
      let turns : x.turn ≡ a.turn = same_turn x a same in
      omega arith

  pub objects_put : sorted object_key (put number_key a xs) ≡ put object_key a (sorted object_key xs)
  objects_put = sorted_put number_key object_key object_tells a xs h is_new

  comes_last : (x : Arrival) → In x xs → compare (turn_key x) (turn_key a) ≡ Less
  comes_last x e =
      let under : x.turn < next = before_in next xs x all e in
      let less : nat_cmp x.turn a.turn ≡ Less = sym (nat_cmp_is x.turn a.turn Less (omega arith)) in
      ap (λ r. ordering_then r (compare (number_key x) (number_key a))) less

  pub arrived_put : arrived (put number_key a xs) ≡ arrived xs ++ held_of a ∷ []
  unfolding arrived
  arrived_put =
      ap (map held_of) (sorted_push number_key turn_key turn_tells a xs h comes_last is_new)
      ∙ pushed (sorted turn_key xs)
    where
      pushed : (ys : List Arrival) → map held_of (ys ++ a ∷ []) ≡ map held_of ys ++ held_of a ∷ []
      pushed [] = refl
      pushed (y ∷ ys) = ap (λ zs. held_of y ∷ zs) (pushed ys)

-- ---- handles that go

map_filter : (p : Arrival → Bool) (q : Held → Bool) → ((a : Arrival) → p a ≡ q (held_of a)) → (xs : List Arrival)
    → map held_of (filter p xs) ≡ filter q (map held_of xs)
map_filter p q same [] = refl
map_filter p q same (x ∷ xs) =
    let rest = map_filter p q same xs in
    elim (p x) as (λ b. map held_of (cond b (x ∷ filter p xs) (filter p xs))
    ≡ cond b (held_of x ∷ filter q (map held_of xs)) (filter q (map held_of xs))) [
      | true ↦ ap (λ ys. held_of x ∷ ys) rest
      | false ↦ rest
    ] ∙ ap (λ b. cond b (held_of x ∷ filter q (map held_of xs)) (filter q (map held_of xs))) (same x)

module _ (p : Arrival → Bool) (xs : List Arrival) (h : is_ascending number_key xs ≡ true) where
  pub arrived_without : (q : Held → Bool) → ((a : Arrival) → p a ≡ q (held_of a))
      → arrived (filter (λ x. not (p x)) xs) ≡ filter (λ x. not (q x)) (arrived xs)
  unfolding arrived
  arrived_without q same =
      ap (map held_of) (sorted_filter number_key turn_key turn_tells (λ x. not (p x)) xs h)
      ∙ map_filter (λ x. not (p x)) (λ x. not (q x)) (λ a. ap not (same a)) (sorted turn_key xs)

  -- those that go, taken one by one from the index by object, or all at once
  pub objects_gone : without_all object_key (filter p xs) (sorted object_key xs)
      ≡ filter (λ x. not (p x)) (sorted object_key xs)
  objects_gone = sorted_without number_key object_key object_tells p xs h

  pub objects_left : filter (λ x. not (p x)) (sorted object_key xs)
      ≡ sorted object_key (filter (λ x. not (p x)) xs)
  objects_left = sym (sorted_filter number_key object_key object_tells (λ x. not (p x)) xs h)

  -- those that go by the index by object, taken one by one from that by number
  pub numbers_gone : without_all number_key (filter p (sorted object_key xs)) xs ≡ filter (λ x. not (p x)) xs
  numbers_gone = without_passing number_key object_key object_tells p xs h

-- those that fail one of two tests that are one
pub others_alike : (p q : Arrival → Bool) → ((a : Arrival) → p a ≡ q a) → (xs : List Arrival)
    → filter (λ x. not (p x)) xs ≡ filter (λ x. not (q x)) xs
others_alike p q same [] = refl
others_alike p q same (x ∷ xs) =
    ap (λ b. cond (not b) (x ∷ filter (λ y. not (p y)) xs) (filter (λ y. not (p y)) xs)) (same x)
    ∙ ap (λ ys. cond (not (q x)) (x ∷ ys) ys) (others_alike p q same xs)

-- ---- the handle of a number

abbrev head_of : {A : Type 0} → List A → Option A
head_of [] = None
head_of (x ∷ xs) = Some x

find_head : {A : Type 0} (p : A → Bool) (xs : List A) → find p xs ≡ head_of (filter p xs)
find_head p [] = refl
find_head p (x ∷ xs) =
    let rest = find_head p xs in
    elim (p x) as (λ b. cond b (Some x) (find p xs) ≡ head_of (cond b (x ∷ filter p xs) (filter p xs))) [
      | true ↦ refl
      | false ↦ rest
    ]

map_find : (p : Arrival → Bool) (q : Held → Bool) → ((a : Arrival) → p a ≡ q (held_of a)) → (xs : List Arrival)
    → find q (map held_of xs) ≡ option_map held_of (find p xs)
map_find p q same [] = refl
map_find p q same (x ∷ xs) =
    let rest = map_find p q same xs in
    ap (λ b. cond b (Some (held_of x)) (find q (map held_of xs))) (sym (same x))
    ∙ elim (p x) as (λ b. cond b (Some (held_of x)) (find q (map held_of xs))
    ≡ option_map held_of (cond b (Some x) (find p xs))) [
      | true ↦ refl
      | false ↦ rest
    ]

-- of handles with one number that one comes first whose turn does
turn_decides : (r s t : Ordering) → r ≡ Equal → s ≡ Equal → three r s t ≡ Less → t ≡ Less
turn_decides r s Less e f lt = refl
turn_decides r s Equal e f lt =
    let n : Equal ≡ Less = sym (ap (λ q. three q s Equal) e ∙ ap (λ q. three Equal q Equal) f) ∙ lt in cc
turn_decides r s Greater e f lt =
    let n : Greater ≡ Less = sym (ap (λ q. three q s Greater) e ∙ ap (λ q. three Equal q Greater) f) ∙ lt in cc

module _ (conn number : ℕ) where
  abbrev wanted : Arrival → Bool
  wanted = is_within number_key (number_front (numbers.Handle conn number))

  of_number : (x : Arrival) → wanted x ≡ true
      → (x.held.conn ≡ conn) × (number_of x.held.conn x.held.serial ≡ number)
  of_number x t =
      let here : is_handle conn number x.held ≡ true = sym (handle_within conn number x) ∙ t in
      let first : (x.held.conn == conn) ≡ true = first_so _ _ here in
      let second : (number_of x.held.conn x.held.serial == number) ≡ true = second_so _ _ here in
      (same_number x.held.conn conn first, same_number (number_of x.held.conn x.held.serial) number second)
    where
      same_number : (m n : ℕ) → (m == n) ≡ true → m ≡ n
      same_number m n t = grind (arith, nat_tests)

  by_turn : (x y : Arrival) → wanted x ≡ true → wanted y ≡ true → compare (number_key x) (number_key y) ≡ Less
      → compare (turn_key x) (turn_key y) ≡ Less
  by_turn x y px py lt =
      let here = of_number x px in
      let there = of_number y py in
      let conns : nat_cmp x.held.conn y.held.conn ≡ Equal =
      sym (nat_cmp_is x.held.conn y.held.conn Equal (here.0 ∙ sym there.0)) in
      let numbers : nat_cmp (number_of x.held.conn x.held.serial) (number_of y.held.conn y.held.serial) ≡ Equal =
      sym (nat_cmp_is (number_of x.held.conn x.held.serial) (number_of y.held.conn y.held.serial) Equal
      (here.1 ∙ sym there.1)) in
      let turn : nat_cmp x.turn y.turn ≡ Less = turn_decides _ _ (nat_cmp x.turn y.turn) conns numbers lt in
      ap (λ r. ordering_then r (compare (number_key x) (number_key y))) turn

  pub found : (xs : List Arrival) → is_ascending number_key xs ≡ true
      → option_map held_of (find wanted xs) ≡ find_handle conn number (arrived xs)
  unfolding arrived
  found xs h =
      let up : is_ascending turn_key (filter wanted xs) ≡ true =
      follows_ascends number_key turn_key wanted by_turn xs h in
      let passing : filter wanted (sorted turn_key xs) ≡ filter wanted xs =
      sym (sorted_filter number_key turn_key turn_tells wanted xs h)
      ∙ sorted_already number_key turn_key turn_tells (filter wanted xs)
      (is_ascending-filter number_key wanted xs h) up in
      ap (option_map held_of) (find_head wanted xs ∙ ap head_of (sym passing)
      ∙ sym (find_head wanted (sorted turn_key xs)))
      ∙ sym (map_find wanted (is_handle conn number) (handle_within conn number) (sorted turn_key xs))

pub none_arrived : arrived [] ≡ []
unfolding arrived
none_arrived = refl
