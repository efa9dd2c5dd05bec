-- Pairs that ascend, put one after another, are the pairs.
use Rattle.std.proofs.Common.{◌≡◌, ℕ, true, List, [], ◌∷◌, ◌++◌, map, refl, sym, ap, subst, ◌∙◌, append_assoc}
use Rattle.std.proofs.lemmas.List.{append-nil}
use Rattle.std.specs.declared.cmp.Ordering.{Ordering}
use Rattle.std.specs.declared.cmp.Ordering.TheVariants.{Less, Equal, Greater}
use Rattle.std.specs.Ordering.{nat_cmp, is_lt, ordering_reverse}
use Rattle.std.specs.Cmp.{IsTotalOrder, first_so, second_so}
use Rattle.std.specs.Cmp.Lexicographic.{slice_cmp, nat_list_cmp_total}
use Rattle.acct_keeper.specs.declared.pairs.Pair.{Pair}
use Rattle.acct_keeper.specs.Pairs.{compare, by_order, put, below_all, is_ascending, after}
use Rattle.acct_machine.specs.Opened.{put_of}

total : IsTotalOrder (slice_cmp nat_cmp)
total = nat_list_cmp_total

less : (r : Ordering) → is_lt r ≡ true → r ≡ Less
less Less p = refl
less Equal p = cc
less Greater p = cc

-- a key below all of some pairs is below each of them
below-there : (k : List ℕ) (xs : List Pair) (a : Pair) (rest : List Pair) → below_all k (xs ++ a ∷ rest) ≡ true
    → compare k a.key ≡ Less
below-there k [] a rest h = less _ (first_so _ _ h)
below-there k (x ∷ xs) a rest h = below-there k xs a rest (second_so _ _ h)

-- a pair above all of them goes after them
put-last : (a : Pair) (xs rest : List Pair) → is_ascending (xs ++ a ∷ rest) ≡ true → put a xs ≡ xs ++ a ∷ []
put-last a [] rest h = refl
put-last a (x ∷ xs) rest h =
    let above : compare a.key x.key ≡ Greater =
    total.antisymm a.key x.key
    ∙ ap ordering_reverse (below-there x.key xs a rest (first_so _ _ h)) in
    ap (λ (r : Ordering). by_order r (a ∷ x ∷ xs) (a ∷ xs) (x ∷ put a xs)) above
    ∙ ap (λ (ys : List Pair). x ∷ ys) (put-last a xs rest (second_so _ _ h))

after-puts : (done pairs : List Pair) → is_ascending (done ++ pairs) ≡ true
    → after (map put_of pairs) done ≡ done ++ pairs
after-puts done [] h = sym (append-nil done)
after-puts done (p ∷ pairs) h =
    ap (λ (xs : List Pair). after (map put_of pairs) xs) (put-last p done pairs h)
    ∙ after-puts (done ++ p ∷ []) pairs
    (subst (λ (xs : List Pair). is_ascending xs ≡ true) (sym (append_assoc done (p ∷ []) pairs)) h)
    ∙ append_assoc done (p ∷ []) pairs

pub all-put : (pairs : List Pair) → is_ascending pairs ≡ true → after (map put_of pairs) [] ≡ pairs
all-put pairs h = after-puts [] pairs h
