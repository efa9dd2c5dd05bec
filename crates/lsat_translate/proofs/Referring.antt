-- The index of a match is the place of its domain among those that are referred to.
use Rattle.std.proofs.Common.{◌≡◌, ℕ, zero, suc, ◌+◌, ◌<◌, nat_lt, Bool, true, false, not, cond, List, [], ◌∷◌}
use Rattle.std.proofs.Common.{length, filter}
use Rattle.std.proofs.Common.{get_or, Option, Some, None, refl, sym, ap, subst, ◌∙◌, arith}
use Rattle.std.specs.Prelude.{◌||◌, position}
use Rattle.std.specs.List.{list_any, position_or_len}
use Rattle.std.proofs.lemmas.Bool.Decides.{nat_tests}
use Rattle.std.proofs.lemmas.List.Quantifiers.{position-Some}
use Rattle.std.proofs.lemmas.Option.{slice_get-get_or}
use Rattle.lsat_translate.specs.Translations.{each_first, known_in, referenced, index_of}
use Rattle.lsat_translate.specs.Known.{same_known}
use Rattle.lsat_translate.specs.Laws.{RefersRightly}
use Rattle.lsat_translate.specs.Matches.{known_of}
use Rattle.lsat_translate.specs.declared.known.Known.{Known}
use Rattle.lsat_translate.specs.declared.known.Known.TheVariants.{World}
use Rattle.lsat_translate.specs.declared.matches.Match.{Match}
use Rattle.lsat_translate.proofs.Firsts.{same-is, same-itself, others, any-others, once}

-- ---- each domain of a match is referred to

first-head : (k j : Known) (ks : List Known) (b : Bool) → same_known k j ≡ b
    → list_any (same_known k) (each_first ks) ≡ list_any (same_known k) ks
    → (b || list_any (same_known k) (filter (others j) (each_first ks))) ≡ (b || list_any (same_known k) ks)
first-head k j ks true is rest = refl
first-head k j ks false is rest = any-others j k (each_first ks) is ∙ rest

any-first : (k : Known) (ks : List Known) → list_any (same_known k) (each_first ks) ≡ list_any (same_known k) ks
any-first k [] = refl
any-first k (j ∷ ks) = first-head k j ks (same_known k j) refl (any-first k ks)

or-right : (a b : Bool) → b ≡ true → (a || b) ≡ true
or-right true b is = refl
or-right false b is = is

here : (o : Option Match) (found : List (Option Match)) (m : Match) → o ≡ Some m
    → list_any (same_known (known_of m)) (known_in (o ∷ found)) ≡ true
here o found m is =
    subst (λ o. list_any (same_known (known_of m)) (known_in (o ∷ found)) ≡ true) (sym is)
    (ap (λ b. b || list_any (same_known (known_of m)) (known_in found)) (same-itself (known_of m)))

among : (found : List (Option Match)) (i : ℕ) (m : Match) → get_or found i None ≡ Some m
    → list_any (same_known (known_of m)) (known_in found) ≡ true
among [] i m at = cc
among (o ∷ found) zero m at = here o found m at
among (None ∷ found) (suc i) m at = among found i m at
among (Some j ∷ found) (suc i) m at =
    or-right (same_known (known_of m) (known_of j)) _ (among found i m at)

-- ---- its place

within-head : (p : Known → Bool) (x : Known) (xs : List Known) (b : Bool) → (b || list_any p xs) ≡ true
    → (list_any p xs ≡ true → position_or_len p xs < length xs)
    → cond (not b) (1 + position_or_len p xs) 0 < length (x ∷ xs)
within-head p x xs true is rest = omega arith
within-head p x xs false is rest = let lt : position_or_len p xs < length xs = rest is in omega (arith, lt)

within : (p : Known → Bool) (xs : List Known) → list_any p xs ≡ true → position_or_len p xs < length xs
within p [] is = absurd (cc)
within p (x ∷ xs) is = within-head p x xs (p x) is (within p xs)

placed : (p : Known → Bool) (xs : List Known) → list_any p xs ≡ true
    → position p xs ≡ Some (position_or_len p xs)
placed p xs is =
    let lt : position_or_len p xs < length xs = within p xs is in
    let test : nat_lt (position_or_len p xs) (length xs) ≡ true = grind (arith, nat_tests) in
    ap (λ b. cond b (Some (position_or_len p xs)) None) test

pub refers : (found : List (Option Match)) → RefersRightly found
refers found = record {
  once = λ k. once k (known_in found);
  indexes = λ i m at.
      let k = known_of m in
      let ks = referenced found in
      let there : list_any (same_known k) ks ≡ true = any-first k (known_in found) ∙ among found i m at in
      let place = position_or_len (same_known k) ks in
      let at-place : position (same_known k) ks ≡ Some place = placed (same_known k) ks there in
      let same : k ≡ get_or ks place World =
      same-is k (get_or ks place World) (position-Some (same_known k) ks place World at-place).1 in (
        place,
        ap index_of at-place,
        slice_get-get_or ks place World (within (same_known k) ks there) ∙ ap Some (sym same),
      );
}
