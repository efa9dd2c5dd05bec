-- Lists within keys.
use Rattle.std.proofs.Common.{◌≡◌, ℕ, suc, List, [], ◌∷◌, length, take, refl, sym, ap, ◌∙◌, arith}
use Rattle.std.specs.Cmp.{nat_cmp_is}
use Rattle.std.proofs.lemmas.Cmp.{ranked}
use Rattle.std.specs.declared.cmp.Ordering.{Ordering}
use Rattle.std.specs.declared.cmp.Ordering.TheVariants.{Less, Equal, Greater}
use Rattle.std.specs.Ordering.{nat_cmp, ordering_then}
use Rattle.acct_tables.specs.Keyed.{Key, compare, compare_front, ended}

pub then_then : (a b c : Ordering) → ordering_then (ordering_then a b) c ≡ ordering_then a (ordering_then b c)
then_then Less b c = refl
then_then Equal b c = refl
then_then Greater b c = refl

next_cmp : (m n : ℕ) → nat_cmp (suc m) (suc n) ≡ nat_cmp m n
next_cmp m n =
    elim (nat_cmp m n) as (λ r. nat_cmp m n ≡ r → nat_cmp (suc m) (suc n) ≡ r) [
      | Less ↦ λ p. let lt = ranked m n Less (sym p) in sym (nat_cmp_is (suc m) (suc n) Less (omega arith))
      | Equal ↦ λ p. let same = ranked m n Equal (sym p) in sym (nat_cmp_is (suc m) (suc n) Equal (omega arith))
      | Greater ↦ λ p. let gt = ranked m n Greater (sym p) in sym (nat_cmp_is (suc m) (suc n) Greater (omega arith))
    ] refl

-- lists within keys compare as lists, and then by what is after them
pub ended-compare : (ms ns : List ℕ) (js ks : Key)
    → compare (ended ms js) (ended ns ks) ≡ ordering_then (compare ms ns) (compare js ks)
ended-compare [] [] js ks = refl
ended-compare [] (n ∷ ns) js ks =
    ap (λ r. ordering_then r (compare js (ended ns ks))) (sym (nat_cmp_is 0 (suc n) Less (omega arith)))
ended-compare (m ∷ ms) [] js ks =
    ap (λ r. ordering_then r (compare (ended ms js) ks)) (sym (nat_cmp_is (suc m) 0 Greater (omega arith)))
ended-compare (m ∷ ms) (n ∷ ns) js ks =
    ap (λ r. ordering_then r (compare (ended ms js) (ended ns ks))) (next_cmp m n)
    ∙ ap (ordering_then (nat_cmp m n)) (ended-compare ms ns js ks)
    ∙ sym (then_then (nat_cmp m n) (compare ms ns) (compare js ks))

-- a prefix that is a list compares with a key that begins with one as the lists do
pub ended-front : (ms ns : List ℕ) (js : Key) → compare_front (ended ms js) (ended ns []) ≡ compare ms ns
ended-front [] [] js = refl
ended-front [] (n ∷ ns) js =
    ap (λ r. ordering_then r (compare (take (length (ended ns [])) js) (ended ns [])))
    (sym (nat_cmp_is 0 (suc n) Less (omega arith)))
ended-front (m ∷ ms) [] js =
    ap (λ r. ordering_then r (compare (take 0 (ended ms js)) [])) (sym (nat_cmp_is (suc m) 0 Greater (omega arith)))
ended-front (m ∷ ms) (n ∷ ns) js =
    ap (λ r. ordering_then r (compare_front (ended ms js) (ended ns []))) (next_cmp m n)
    ∙ ap (ordering_then (nat_cmp m n)) (ended-front ms ns js)

-- and they are one where both are
pub ended-parts : (ms ns : List ℕ) (js ks : Key) → ended ms js ≡ ended ns ks → (ms ≡ ns) × (js ≡ ks)
ended-parts [] [] js ks e = (refl, cc)
ended-parts [] (n ∷ ns) js ks e = cc
ended-parts (m ∷ ms) [] js ks e = cc
ended-parts (m ∷ ms) (n ∷ ns) js ks e =
    let rest = ended-parts ms ns js ks cc in
    let first : m ≡ n = cc in
    (rw (first, rest.0) refl, rest.1)
