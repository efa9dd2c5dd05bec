-- The members of groups by user: the rows of one user, and how they change
use Rattle.std.proofs.Common.{◌≡◌, ◌≢◌, ℕ, ◌<◌, ◌≤◌, ◌==◌, nat_lt, Bool, true, false, cond, List, [], ◌∷◌, map}
use Rattle.std.proofs.Common.{refl, sym, ap, subst, ◌∙◌, inl, inr, arith}
use Rattle.std.specs.List.{filter}
use Rattle.std.specs.List.Sorted.{IsNonDecreasingBy, IsPermutation, IsSortedByKey}
use Rattle.std.specs.declared.cmp.Ordering.{Ordering}
use Rattle.std.specs.declared.cmp.Ordering.TheVariants.{Less, Equal, Greater}
use Rattle.std.specs.Ordering.{nat_cmp, ordering_then}
use Rattle.std.specs.Cmp.{first_so, second_so, nat_cmp_is}
use Rattle.std.proofs.lemmas.Bool.Decides.{nat_tests}
use Rattle.acct_tables.specs.steps.Indexes.{index}
use Rattle.acct_tables.specs.KeyedRows.{compare, at, put, without, by_order, is_ascending}
use Rattle.acct_tables.specs.Keys.{member_key}
use Rattle.acct_tables.specs.Selected.{is_of_user}
use Rattle.acct_tables.specs.steps.Users.{user_key, by_user, row_of, users_of, is_for}
use Rattle.acct_tables.specs.declared.groups.ByUser.{ByUser}
use Rattle.acct_tables.specs.declared.row.MemberRow.{MemberRow}
use Rattle.acct_tables.proofs.Ascending.{In, below_in}
use Rattle.acct_tables.proofs.Halving.{rises}
use Rattle.acct_tables.proofs.Lookups.{there_or_not, key_found}
use Rattle.acct_tables.proofs.Orders.{tested, tied-is}
use Rattle.acct_tables.proofs.FoldOrder.{alone}
use Rattle.acct_tables.proofs.Indexed.{index_ascends, index_put, index_put_over, index_without}
use Rattle.acct_tables.proofs.Indexed.{without_none, put_over, absent, in_index}
use Rattle.acct_tables.proofs.Equals.{equal_is}
use Rattle.acct_tables.proofs.Sorts.{sorted_is}

-- ---- keys

user_tells : (a b : MemberRow) → user_key (by_user a) ≡ user_key (by_user b) → member_key a ≡ member_key b
user_tells a b e =
    let group : a.group ≡ b.group = cc in
    let user : a.user ≡ b.user = cc in
    rw (group, user) refl

told : (group user : ℕ) (m : MemberRow) → member_key m ≡ group ∷ user ∷ [] → user_key (by_user m) ≡ user ∷ group ∷ []
told group user m e =
    let groups : m.group ≡ group = cc in
    let users : m.user ≡ user = cc in
    rw (groups, users) refl

abbrev pub user : ByUser → ℕ
user b = b.row.user

user_le : (a b : ByUser) → compare (user_key a) (user_key b) ≡ Less → user a ≤ user b
user_le a b lt =
    elim (tested (nat_lt (user b) (user a))) [
      | inl t ↦ absurd (
          let lower : user b < user a = grind (arith, nat_tests) in
          let greater : nat_cmp (user a) (user b) ≡ Greater = sym (nat_cmp_is (user a) (user b) Greater lower) in
          let is : compare (user_key a) (user_key b) ≡ Greater =
          ap (λ r. ordering_then r (compare (a.row.group ∷ []) (b.row.group ∷ []))) greater in
          cc (lt, is))
      | inr t ↦ grind (arith, nat_tests)
    ]

-- the users don't fall
pub users_rise : (xs : List ByUser) → is_ascending user_key xs ≡ true → IsNonDecreasingBy user xs
users_rise = rises user_key user user_le

-- ---- changes

pub users_ascend : (members : List MemberRow) → is_ascending user_key (users_of members) ≡ true
unfolding users_of
users_ascend = index_ascends by_user member_key user_key user_tells

pub no_users : [] ≡ users_of []
unfolding users_of
no_users = refl

-- the member rows, sorted by user, whatever their order was
pub users_sorted : (members : List MemberRow) (entries users : List ByUser) → is_ascending member_key members ≡ true
    → entries ≡ map by_user members → IsPermutation entries users → IsSortedByKey user_key compare users
    → users ≡ users_of members
unfolding users_of
users_sorted members entries users h are moved sorted =
    sorted_is by_user member_key user_key user_tells members users h
    (subst (λ es. IsPermutation es users) are moved) sorted

module _ (members : List MemberRow) (h : is_ascending member_key members ≡ true) where
  pub users_put : (m : MemberRow)
      → put user_key (by_user m) (users_of members) ≡ users_of (put member_key m members)
  unfolding users_of
  users_put m =
      let all : List ByUser = index by_user user_key members in
      elim (there_or_not (at member_key (member_key m) members)) [
        | inr none ↦ sym (index_put by_user member_key user_key user_tells m members none)
        | inl w ↦
            let same : user_key (by_user w.0) ≡ user_key (by_user m) =
            told m.group m.user w.0 (key_found member_key (member_key m) members w.0 w.1) in
            put_over user_key (by_user m) all (index_ascends by_user member_key user_key user_tells members)
            ∙ ap (λ k. put user_key (by_user m) (without user_key k all)) (sym same)
            ∙ ap (put user_key (by_user m))
            (sym (index_without by_user member_key user_key user_tells (member_key m) members w.0 h w.1))
            ∙ sym (index_put_over by_user member_key user_key user_tells m members h)
      ]

  pub users_without : (group user : ℕ)
      → without user_key (user ∷ group ∷ []) (users_of members)
      ≡ users_of (without member_key (group ∷ user ∷ []) members)
  unfolding users_of
  users_without group user =
      let k : List ℕ = group ∷ user ∷ [] in
      let row : MemberRow = record { group = group; user = user; attributes = 0 } in
      let all : List ByUser = index by_user user_key members in
      elim (there_or_not (at member_key k members)) [
        | inr none ↦
            without_none user_key (user ∷ group ∷ []) all (index_ascends by_user member_key user_key user_tells members)
            (absent by_user member_key user_key user_tells row members none)
            ∙ ap (index by_user user_key) (sym (without_none member_key k members h none))
        | inl w ↦
            ap (λ j. without user_key j all) (sym (told group user w.0 (key_found member_key k members w.0 w.1)))
            ∙ sym (index_without by_user member_key user_key user_tells k members w.0 h w.1)
      ]

-- ---- the groups of a user

exchanged : {A : Type 0} (a b : Bool) (x y : A) (f : List A) → (a ≡ true → b ≢ true)
    → cond b (y ∷ cond a (x ∷ f) f) (cond a (x ∷ f) f) ≡ cond a (x ∷ cond b (y ∷ f) f) (cond b (y ∷ f) f)
exchanged true true x y f apart = absurd (apart refl refl)
exchanged true false x y f apart = refl
exchanged false true x y f apart = refl
exchanged false false x y f apart = refl

-- a value that is below all that pass is the first of them
module _ {A : Type 0} (key : A → List ℕ) (p : A → Bool) where
  pub filter_put : (x : A) (ys : List A)
      → (p x ≡ true → (b : A) → In b ys → p b ≡ true → compare (key x) (key b) ≡ Less)
      → ((b : A) → key x ≡ key b → p x ≡ p b)
      → filter p (put key x ys) ≡ cond (p x) (x ∷ filter p ys) (filter p ys)
  filter_put x [] under alike = refl
  filter_put x (y ∷ ys) under alike =
      let rest = filter_put x ys (λ t b e. under t b (inr e)) alike in
      elim (compare (key x) (key y)) as
      (λ r. compare (key x) (key y) ≡ r
      → filter p (by_order r (x ∷ y ∷ ys) (x ∷ ys) (y ∷ put key x ys))
      ≡ cond (p x) (x ∷ filter p (y ∷ ys)) (filter p (y ∷ ys))) [
        | Less ↦ λ e. refl
        | Equal ↦ λ e. elim (tested (p x)) [
          | inl t ↦ absurd (
              let s : p y ≡ true = sym (alike y (tied-is _ _ e)) ∙ t in
              let lt : compare (key x) (key y) ≡ Less = under t y (inl refl) s in
              cc (lt, e))
          | inr f ↦
              let g : p y ≡ false = sym (alike y (tied-is _ _ e)) ∙ f in
              ap (λ b. cond b (x ∷ filter p ys) (filter p ys)) f
              ∙ sym (ap (λ b. cond b (y ∷ filter p ys) (filter p ys)) g)
              ∙ sym (ap (λ b. cond b (x ∷ filter p (y ∷ ys)) (filter p (y ∷ ys))) f)
        ]
        | Greater ↦ λ e. ap (λ zs. cond (p y) (y ∷ zs) zs) rest
            ∙ exchanged (p x) (p y) x y (filter p ys)
            (λ t s.
            let lt : compare (key x) (key y) ≡ Less = under t y (inl refl) s in
            cc (lt, e))
      ] refl

then_equal : (r : Ordering) → ordering_then r Equal ≡ Less → r ≡ Less
then_equal Less e = refl
then_equal Equal e = cc
then_equal Greater e = cc

-- rows of one user stand by group
turned : (g h u v : ℕ) → u ≡ v → compare (g ∷ u ∷ []) (h ∷ v ∷ []) ≡ Less → compare (u ∷ g ∷ []) (v ∷ h ∷ []) ≡ Less
turned g h u v same lt =
    let tie : nat_cmp u v ≡ Equal = sym (nat_cmp_is u v Equal same) in
    ap (λ o. ordering_then o (compare (g ∷ []) (h ∷ []))) tie ∙ alone g h
    ∙ then_equal (nat_cmp g h) (sym (ap (ordering_then (nat_cmp g h)) (alone u v ∙ tie)) ∙ lt)

groups_are : (u : ℕ) (members : List MemberRow) → is_ascending member_key members ≡ true
    → map row_of (filter (is_for u) (index by_user user_key members)) ≡ filter (is_of_user u) members
groups_are u [] h = refl
groups_are u (m ∷ ms) h =
    let rest = groups_are u ms (second_so _ _ h) in
    ap (map row_of) (filter_put user_key (is_for u) (by_user m) (index by_user user_key ms) under alike)
    ∙ both (m.user == u) rest
  where
    under : is_for u (by_user m) ≡ true → (b : ByUser) → In b (index by_user user_key ms) → is_for u b ≡ true
        → compare (user_key (by_user m)) (user_key b) ≡ Less
    under t b i s =
        let w = in_index by_user member_key user_key user_tells b ms i in
        let group : b.row.group ≡ w.0.group = ap (λ (x : ByUser). x.row.group) w.2 in
        let owner : b.row.user ≡ w.0.user = ap (λ (x : ByUser). x.row.user) w.2 in
        let lt : compare (member_key m) (member_key w.0) ≡ Less =
        below_in member_key (member_key m) w.0 ms (first_so _ _ h) w.1 in
        let here : compare (m.group ∷ m.user ∷ []) (b.row.group ∷ b.row.user ∷ []) ≡ Less =
        ap (λ n. compare (member_key m) (n ∷ b.row.user ∷ [])) group
        ∙ ap (λ n. compare (member_key m) (w.0.group ∷ n ∷ [])) owner ∙ lt in
        turned m.group b.row.group m.user b.row.user (equal_is m.user u t ∙ sym (equal_is b.row.user u s)) here

    alike : (b : ByUser) → user_key (by_user m) ≡ user_key b → is_for u (by_user m) ≡ is_for u b
    alike b e = let users : m.user ≡ b.row.user = cc in ap (λ n. n == u) users

    both : (b : Bool)
        → map row_of (filter (is_for u) (index by_user user_key ms)) ≡ filter (is_of_user u) ms
        → map row_of (cond b (by_user m ∷ filter (is_for u) (index by_user user_key ms))
        (filter (is_for u) (index by_user user_key ms)))
        ≡ cond b (m ∷ filter (is_of_user u) ms) (filter (is_of_user u) ms)
    both true rest = ap (λ xs. m ∷ xs) rest
    both false rest = rest

pub groups_found : (u : ℕ) (members : List MemberRow) → is_ascending member_key members ≡ true
    → map row_of (filter (is_for u) (users_of members)) ≡ filter (is_of_user u) members
unfolding users_of
groups_found u members h = groups_are u members h
