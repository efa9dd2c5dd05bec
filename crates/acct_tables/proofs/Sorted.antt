-- Lists that ascend have the values of other lists: after a change, and by another key.
use Rattle.std.proofs.Common.{◌≡◌, ◌≢◌, Bool, true, false, not, cond, List, [], ◌∷◌, ◌++◌, refl, sym, ap, subst, ◌∙◌}
use Rattle.std.proofs.Common.{inl, inr, ◌⊎◌}
use Rattle.std.specs.List.{filter}
use Rattle.std.specs.declared.cmp.Ordering.TheVariants.{Less, Equal, Greater}
use Rattle.std.specs.Ordering.{is_lt}
use Rattle.std.specs.Cmp.{first_so, second_so}
use Rattle.acct_tables.specs.Keyed.{Key, compare, same_key, by_order, put, without, without_all, below_all}
use Rattle.acct_tables.specs.Keyed.{is_ascending, sorted}
use Rattle.acct_tables.proofs.Orders.{both, less, tied, tied-is, turned, tested, same_key-is, same_key-itself}
use Rattle.acct_tables.proofs.Ascending.{In, below_in, is_ascending-filter, is_ascending-put, sorted_ascends}
use Rattle.acct_tables.proofs.Ascending.{is_ascending-push, is_ascending-without_all}

-- ---- which values stand in a list after a change

pub in_filter : {A : Type 0} (p : A → Bool) (a : A) (xs : List A) → In a (filter p xs) → In a xs × (p a ≡ true)
in_filter p a [] e = absurd e
in_filter p a (x ∷ xs) e =
    elim (p x) as (λ b. p x ≡ b → In a (cond b (x ∷ filter p xs) (filter p xs)) → In a (x ∷ xs) × (p a ≡ true)) [
      | true ↦ λ t i. elim i [
        | inl l ↦ (inl l, ap p l ∙ t)
        | inr r ↦ let rest = in_filter p a xs r in (inr rest.0, rest.1)
      ]
      | false ↦ λ t i. let rest = in_filter p a xs i in (inr rest.0, rest.1)
    ] refl e

pub filter_in : {A : Type 0} (p : A → Bool) (a : A) (xs : List A) → In a xs → p a ≡ true → In a (filter p xs)
filter_in p a [] e t = e
filter_in p a (x ∷ xs) (inl e) t =
    let here : p x ≡ true = ap p (sym e) ∙ t in
    subst (λ b. In a (cond b (x ∷ filter p xs) (filter p xs))) (sym here) (inl e)
filter_in p a (x ∷ xs) (inr e) t =
    let rest = filter_in p a xs e t in
    elim (p x) as (λ b. In a (cond b (x ∷ filter p xs) (filter p xs))) [ true ↦ inr rest | false ↦ rest ]

pub in_left : {A : Type 0} (a : A) (xs ys : List A) → In a xs → In a (xs ++ ys)
in_left a [] ys e = absurd e
in_left a (x ∷ xs) ys (inl e) = inl e
in_left a (x ∷ xs) ys (inr e) = inr (in_left a xs ys e)

pub in_right : {A : Type 0} (a : A) (xs ys : List A) → In a ys → In a (xs ++ ys)
in_right a [] ys e = e
in_right a (x ∷ xs) ys e = inr (in_right a xs ys e)

pub in_either : {A : Type 0} (a : A) (xs ys : List A) → In a (xs ++ ys) → In a xs ⊎ In a ys
in_either a [] ys e = inr e
in_either a (x ∷ xs) ys (inl e) = inl (inl e)
in_either a (x ∷ xs) ys (inr e) = elim (in_either a xs ys e) [ inl l ↦ inl (inr l) | inr r ↦ inr r ]

module _ {A : Type 0} (key : A → Key) where
  pub in_put : (b c : A) (xs : List A) → In b (put key c xs) → (b ≡ c) ⊎ In b xs
  in_put b c [] (inl e) = inl e
  in_put b c [] (inr e) = inr e
  in_put b c (x ∷ xs) e =
      let rest = in_put b c xs in
      elim (compare (key c) (key x)) as
      (λ r. In b (by_order r (c ∷ x ∷ xs) (c ∷ xs) (x ∷ put key c xs)) → (b ≡ c) ⊎ ((b ≡ x) ⊎ In b xs)) [
        | Less ↦ λ i. i
        | Equal ↦ λ i. elim i [ inl l ↦ inl l | inr r ↦ inr (inr r) ]
        | Greater ↦ λ i. elim i [
          | inl l ↦ inr (inl l)
          | inr r ↦ elim (rest r) [ inl l ↦ inl l | inr m ↦ inr (inr m) ]
        ]
      ] e

  pub put_here : (c : A) (xs : List A) → In c (put key c xs)
  put_here c [] = inl refl
  put_here c (x ∷ xs) =
      let rest = put_here c xs in
      elim (compare (key c) (key x)) as
      (λ r. In c (by_order r (c ∷ x ∷ xs) (c ∷ xs) (x ∷ put key c xs))) [
        | Less ↦ inl refl
        | Equal ↦ inl refl
        | Greater ↦ inr rest
      ]

  -- a value with another key stays
  pub put_keeps : (b c : A) (xs : List A) → key b ≢ key c → In b xs → In b (put key c xs)
  put_keeps b c [] differ e = absurd e
  put_keeps b c (x ∷ xs) differ e =
      let rest = put_keeps b c xs differ in
      elim (compare (key c) (key x)) as
      (λ r. compare (key c) (key x) ≡ r → In b (by_order r (c ∷ x ∷ xs) (c ∷ xs) (x ∷ put key c xs))) [
        | Less ↦ λ p. inr e
        | Equal ↦ λ p. elim e [
          | inl l ↦ absurd (differ (ap key l ∙ sym (tied-is _ _ p)))
          | inr r ↦ inr r
        ]
        | Greater ↦ λ p. elim e [ inl l ↦ inl l | inr r ↦ inr (rest r) ]
      ] refl

  pub in_sorted : (b : A) (xs : List A) → In b (sorted key xs) → In b xs
  in_sorted b [] e = e
  in_sorted b (x ∷ xs) e =
      elim (in_put b x (sorted key xs) e) [ inl l ↦ inl l | inr r ↦ inr (in_sorted b xs r) ]

  -- lists that ascend with the same values are one
  under_itself : (x y : A) → compare (key x) (key y) ≡ Less → x ≡ y → ⊥
  under_itself x y lt same = cc (tied (key y), sym (ap (λ z. compare (key z) (key y)) same) ∙ lt)

  crossed : (x y : A) → compare (key x) (key y) ≡ Less → compare (key y) (key x) ≡ Less → ⊥
  crossed x y lt back =
      let gt : compare (key x) (key y) ≡ Greater = turned (key y) (key x) Less back in
      cc (lt, gt)

  inside : (x : A) (xs ys : List A) → below_all key (key x) xs ≡ true
      → ((a : A) → In a (x ∷ xs) → In a (x ∷ ys)) → (a : A) → In a xs → In a ys
  inside x xs ys under to a e =
      elim (to a (inr e)) [
        | inl l ↦ absurd (under_itself x a (below_in key (key x) a xs under e) (sym l))
        | inr r ↦ r
      ]

  first_is : (x y : A) (xs ys : List A) → below_all key (key x) xs ≡ true → below_all key (key y) ys ≡ true
      → In x (y ∷ ys) → In y (x ∷ xs) → x ≡ y
  first_is x y xs ys up over (inl e) back = e
  first_is x y xs ys up over (inr e) (inl l) = sym l
  first_is x y xs ys up over (inr e) (inr r) =
      absurd (crossed x y (below_in key (key x) y xs up r) (below_in key (key y) x ys over e))

  pub same_values : (xs ys : List A) → is_ascending key xs ≡ true → is_ascending key ys ≡ true
      → ((a : A) → In a xs → In a ys) → ((a : A) → In a ys → In a xs) → xs ≡ ys
  same_values [] [] h k to back = refl
  same_values [] (y ∷ ys) h k to back = absurd (back y (inl refl))
  same_values (x ∷ xs) [] h k to back = absurd (to x (inl refl))
  same_values (x ∷ xs) (y ∷ ys) h k to back =
      let up = first_so _ _ h in
      let over = first_so _ _ k in
      let one : x ≡ y = first_is x y xs ys up over (to x (inl refl)) (back y (inl refl)) in
      let there : (a : A) → In a (x ∷ xs) → In a (x ∷ ys) =
      λ a e. subst (λ z. In a (z ∷ ys)) (sym one) (to a e) in
      let here : (a : A) → In a (x ∷ ys) → In a (x ∷ xs) =
      λ a e. back a (subst (λ z. In a (z ∷ ys)) one e) in
      let above : below_all key (key x) ys ≡ true =
      subst (λ z. below_all key (key z) ys ≡ true) (sym one) over in
      ap (λ z. z ∷ xs) one
      ∙ ap (λ zs. y ∷ zs) (same_values xs ys (second_so _ _ h) (second_so _ _ k) (inside x xs ys up there)
      (inside x ys xs above here))

  -- ---- by another key that tells this one

  pub one_of_key : (a b : A) (xs : List A) → is_ascending key xs ≡ true → In a xs → In b xs → key a ≡ key b → a ≡ b
  one_of_key a b [] h e f same = absurd e
  one_of_key a b (x ∷ xs) h (inl e) (inl f) same = e ∙ sym f
  one_of_key a b (x ∷ xs) h (inl e) (inr f) same =
      absurd (let lt : compare (key x) (key b) ≡ Less = below_in key (key x) b xs (first_so _ _ h) f in
      let is : key x ≡ key b = ap key (sym e) ∙ same in
      cc (tied (key b), sym (ap (λ k. compare k (key b)) is) ∙ lt))
  one_of_key a b (x ∷ xs) h (inr e) (inl f) same =
      absurd (let lt : compare (key x) (key a) ≡ Less = below_in key (key x) a xs (first_so _ _ h) e in
      let is : key x ≡ key a = ap key (sym f) ∙ sym same in
      cc (tied (key a), sym (ap (λ k. compare k (key a)) is) ∙ lt))
  one_of_key a b (x ∷ xs) h (inr e) (inr f) same = one_of_key a b xs (second_so _ _ h) e f same

  in_without_all : (a : A) (gone xs : List A) → In a (without_all key gone xs)
      → In a xs × ((g : A) → In g gone → key g ≢ key a)
  in_without_all a [] xs e = (e, λ g i. absurd i)
  in_without_all a (h ∷ gone) xs e =
      let rest = in_without_all a gone (without key (key h) xs) e in
      let here = in_filter (λ x. not (same_key (key h) (key x))) a xs rest.0 in (
        here.0,
        λ g i. elim i [
          | inl l ↦ λ same.
              let yes : same_key (key h) (key a) ≡ true =
              ap (same_key (key h)) (sym same ∙ ap key l) ∙ same_key-itself (key h) in
              let no : not true ≡ true = sym (ap not yes) ∙ here.1 in
              cc
          | inr r ↦ rest.1 g r
        ],
      )

  without_all_in : (a : A) (gone xs : List A) → In a xs → ((g : A) → In g gone → key g ≢ key a)
      → In a (without_all key gone xs)
  without_all_in a [] xs e none = e
  without_all_in a (h ∷ gone) xs e none =
      without_all_in a gone (without key (key h) xs)
      (filter_in (λ x. not (same_key (key h) (key x))) a xs e (elim (tested (same_key (key h) (key a))) [
        | inl t ↦ absurd (none h (inl refl) (same_key-is _ _ t))
        | inr f ↦ ap not f
      ])) (λ g i. none g (inr i))

module _ {A : Type 0} (key by : A → Key) (tells : (x y : A) → by x ≡ by y → key x ≡ key y) where
  pub sorted_in : (b : A) (xs : List A) → is_ascending key xs ≡ true → In b xs → In b (sorted by xs)
  sorted_in b [] h e = e
  sorted_in b (x ∷ xs) h (inl e) = subst (λ z. In z (put by x (sorted by xs))) (sym e) (put_here by x (sorted by xs))
  sorted_in b (x ∷ xs) h (inr e) =
      let lt : compare (key x) (key b) ≡ Less = below_in key (key x) b xs (first_so _ _ h) e in
      put_keeps by b x (sorted by xs) (λ same.
      let is : key x ≡ key b = tells x b (sym same) in
      cc (tied (key b), sym (ap (λ k. compare k (key b)) is) ∙ lt)) (sorted_in b xs (second_so _ _ h) e)

  -- a value with a new key
  pub sorted_put : (a : A) (xs : List A) → is_ascending key xs ≡ true → ((x : A) → In x xs → key x ≢ key a)
      → sorted by (put key a xs) ≡ put by a (sorted by xs)
  sorted_put a xs h new =
      let up = is_ascending-put key a xs h in
      same_values by _ _ (sorted_ascends by (put key a xs)) (is_ascending-put by a _ (sorted_ascends by xs))
      (λ b e. elim (in_put key b a xs (in_sorted by b (put key a xs) e)) [
        | inl l ↦ subst (λ z. In z (put by a (sorted by xs))) (sym l) (put_here by a (sorted by xs))
        | inr r ↦ put_keeps by b a (sorted by xs) (λ same. new b r (tells b a same)) (sorted_in b xs h r)
      ])
      (λ b e. elim (in_put by b a (sorted by xs) e) [
        | inl l ↦ sorted_in b (put key a xs) up
            (subst (λ z. In z (put key a xs)) (sym l) (put_here key a xs))
        | inr r ↦
            let there : In b xs = in_sorted by b xs r in
            sorted_in b (put key a xs) up (put_keeps key b a xs (new b there) there)
      ])

  -- a value after all others by the other key
  pub sorted_push : (a : A) (xs : List A) → is_ascending key xs ≡ true
      → ((x : A) → In x xs → compare (by x) (by a) ≡ Less) → ((x : A) → In x xs → key x ≢ key a)
      → sorted by (put key a xs) ≡ sorted by xs ++ a ∷ []
  sorted_push a xs h under new =
      let up = is_ascending-put key a xs h in
      same_values by _ _ (sorted_ascends by (put key a xs))
      (is_ascending-push by (sorted by xs) a (sorted_ascends by xs) (λ x e. under x (in_sorted by x xs e)))
      (λ b e. elim (in_put key b a xs (in_sorted by b (put key a xs) e)) [
        | inl l ↦ in_right b (sorted by xs) (a ∷ []) (inl l)
        | inr r ↦ in_left b (sorted by xs) (a ∷ []) (sorted_in b xs h r)
      ])
      (λ b e. elim (in_either b (sorted by xs) (a ∷ []) e) [
        | inl l ↦
            let there : In b xs = in_sorted by b xs l in
            sorted_in b (put key a xs) up (put_keeps key b a xs (new b there) there)
        | inr r ↦ elim r [
          | inl i ↦ sorted_in b (put key a xs) up (subst (λ z. In z (put key a xs)) (sym i) (put_here key a xs))
          | inr n ↦ absurd n
        ]
      ])

  pub sorted_filter : (p : A → Bool) (xs : List A) → is_ascending key xs ≡ true
      → sorted by (filter p xs) ≡ filter p (sorted by xs)
  sorted_filter p xs h =
      same_values by _ _ (sorted_ascends by (filter p xs)) (is_ascending-filter by p _ (sorted_ascends by xs))
      (λ b e.
      let here = in_filter p b xs (in_sorted by b (filter p xs) e) in
      filter_in p b (sorted by xs) (sorted_in b xs h here.0) here.1)
      (λ b e.
      let here = in_filter p b (sorted by xs) e in
      sorted_in b (filter p xs) (is_ascending-filter key p xs h)
      (filter_in p b xs (in_sorted by b xs here.0) here.1))

  -- a list that ascends by the other key too
  pub sorted_already : (xs : List A) → is_ascending key xs ≡ true → is_ascending by xs ≡ true → sorted by xs ≡ xs
  sorted_already xs h k =
      same_values by _ _ (sorted_ascends by xs) k (λ b e. in_sorted by b xs e) (λ b e. sorted_in b xs h e)

  -- without those that pass a test, one by one
  pub without_passing : (p : A → Bool) (xs : List A) → is_ascending key xs ≡ true
      → without_all key (filter p (sorted by xs)) xs ≡ filter (λ x. not (p x)) xs
  without_passing p xs h =
      same_values key _ _ (is_ascending-without_all key (filter p (sorted by xs)) xs h)
      (is_ascending-filter key _ xs h)
      (λ b e.
      let here = in_without_all key b (filter p (sorted by xs)) xs e in
      filter_in (λ x. not (p x)) b xs here.0 (elim (tested (p b)) [
        | inl t ↦ absurd (here.1 b (filter_in p b (sorted by xs) (sorted_in b xs h here.0) t) refl)
        | inr f ↦ ap not f
      ]))
      (λ b e.
      let here = in_filter (λ x. not (p x)) b xs e in
      without_all_in key b (filter p (sorted by xs)) xs here.0 (λ g i same.
      let passes = in_filter p g (sorted by xs) i in
      let one : g ≡ b = one_of_key key g b xs h (in_sorted by g xs passes.0) here.0 same in
      let no : not true ≡ true = sym (ap not (ap p (sym one) ∙ passes.1)) ∙ here.1 in
      cc))

  -- without those that pass a test, one by one, where they stand by the other key
  pub sorted_without : (p : A → Bool) (xs : List A) → is_ascending key xs ≡ true
      → without_all by (filter p xs) (sorted by xs) ≡ filter (λ x. not (p x)) (sorted by xs)
  sorted_without p xs h =
      let up = sorted_ascends by xs in
      same_values by _ _ (is_ascending-without_all by (filter p xs) (sorted by xs) up) (is_ascending-filter by _ _ up)
      (λ b e.
      let here = in_without_all by b (filter p xs) (sorted by xs) e in
      filter_in (λ x. not (p x)) b (sorted by xs) here.0 (elim (tested (p b)) [
        | inl t ↦ absurd (here.1 b (filter_in p b xs (in_sorted by b xs here.0) t) refl)
        | inr f ↦ ap not f
      ]))
      (λ b e.
      let here = in_filter (λ x. not (p x)) b (sorted by xs) e in
      without_all_in by b (filter p xs) (sorted by xs) here.0 (λ g i same.
      let passes = in_filter p g xs i in
      let one : g ≡ b = one_of_key key g b xs h passes.0 (in_sorted by b xs here.0) (tells g b same) in
      let no : not true ≡ true = sym (ap not (ap p (sym one) ∙ passes.1)) ∙ here.1 in
      cc))

-- values that pass a test ascend by another key where that follows this one among them
module _ {A : Type 0} (key by : A → Key) (p : A → Bool)
    (follows : (x y : A) → p x ≡ true → p y ≡ true → compare (key x) (key y) ≡ Less
    → compare (by x) (by y) ≡ Less) where
  follows_below : (x : A) (xs : List A) → p x ≡ true → below_all key (key x) xs ≡ true
      → below_all by (by x) (filter p xs) ≡ true
  follows_below x [] px h = refl
  follows_below x (y ∷ ys) px h =
      let rest = follows_below x ys px (second_so _ _ h) in
      elim (tested (p y)) [
        | inl t ↦
            ap (λ b. below_all by (by x) (cond b (y ∷ filter p ys) (filter p ys))) t
            ∙ both (ap is_lt (follows x y px t (less _ (first_so _ _ h)))) rest
        | inr f ↦ ap (λ b. below_all by (by x) (cond b (y ∷ filter p ys) (filter p ys))) f ∙ rest
      ]

  pub follows_ascends : (xs : List A) → is_ascending key xs ≡ true → is_ascending by (filter p xs) ≡ true
  follows_ascends [] h = refl
  follows_ascends (x ∷ xs) h =
      let rest = follows_ascends xs (second_so _ _ h) in
      elim (tested (p x)) [
        | inl t ↦
            ap (λ b. is_ascending by (cond b (x ∷ filter p xs) (filter p xs))) t
            ∙ both (follows_below x xs t (first_so _ _ h)) rest
        | inr f ↦ ap (λ b. is_ascending by (cond b (x ∷ filter p xs) (filter p xs))) f ∙ rest
      ]
