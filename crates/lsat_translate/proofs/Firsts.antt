-- Domains that are collected one by one, each once, are those of the whole list; and they are four at most.
use Rattle.std.proofs.Common.{◌≡◌, ℕ, ◌+◌, ◌≤◌, Bool, true, false, cond, not, List, [], ◌∷◌, ◌++◌, length, filter}
use Rattle.std.proofs.Common.{Option, Some, None, refl, sym, ap, ◌∙◌, arith}
use Rattle.std.specs.Prelude.{◌||◌, if◌then◌else◌}
use Rattle.std.specs.List.{list_any}
use Rattle.lsat_translate.specs.Translations.{each_first, known_in, referenced, with_domain}
use Rattle.lsat_translate.specs.Known.{same_known}
use Rattle.lsat_translate.specs.Matches.{known_of}
use Rattle.lsat_translate.specs.declared.matches.Match.{Match}
use Rattle.lsat_translate.specs.declared.known.Known.{Known}
use Rattle.lsat_translate.specs.declared.known.Known.TheVariants.{Account, Builtin, NtAuthority, World}

pub same-is : (j k : Known) → same_known j k ≡ true → j ≡ k
same-is Account Account is = refl
same-is Account Builtin is = cc
same-is Account NtAuthority is = cc
same-is Account World is = cc
same-is Builtin Account is = cc
same-is Builtin Builtin is = refl
same-is Builtin NtAuthority is = cc
same-is Builtin World is = cc
same-is NtAuthority Account is = cc
same-is NtAuthority Builtin is = cc
same-is NtAuthority NtAuthority is = refl
same-is NtAuthority World is = cc
same-is World Account is = cc
same-is World Builtin is = cc
same-is World NtAuthority is = cc
same-is World World is = refl

pub same-itself : (k : Known) → same_known k k ≡ true
same-itself Account = refl
same-itself Builtin = refl
same-itself NtAuthority = refl
same-itself World = refl

swapped : (j k : Known) → same_known j k ≡ same_known k j
swapped Account Account = refl
swapped Account Builtin = refl
swapped Account NtAuthority = refl
swapped Account World = refl
swapped Builtin Account = refl
swapped Builtin Builtin = refl
swapped Builtin NtAuthority = refl
swapped Builtin World = refl
swapped NtAuthority Account = refl
swapped NtAuthority Builtin = refl
swapped NtAuthority NtAuthority = refl
swapped NtAuthority World = refl
swapped World Account = refl
swapped World Builtin = refl
swapped World NtAuthority = refl
swapped World World = refl

abbrev pub others : Known → Known → Bool
others k j = not (same_known k j)

-- ---- one more domain

-- another domain is there as before once one is taken out
any-head : (j k i : Known) (ks : List Known) (b : Bool) → same_known j i ≡ b → same_known k j ≡ false
    → list_any (same_known k) (filter (others j) ks) ≡ list_any (same_known k) ks
    → list_any (same_known k) (cond (not b) (i ∷ filter (others j) ks) (filter (others j) ks))
    ≡ list_any (same_known k) (i ∷ ks)
any-head j k i ks true is apart rest =
    let one : j ≡ i = same-is j i is in
    let out : same_known k i ≡ false = ap (same_known k) (sym one) ∙ apart in
    rw out rest
any-head j k i ks false is apart rest = ap (λ b. same_known k i || b) rest

pub any-others : (j k : Known) (ks : List Known) → same_known k j ≡ false
    → list_any (same_known k) (filter (others j) ks) ≡ list_any (same_known k) ks
any-others j k [] apart = refl
any-others j k (i ∷ ks) apart = any-head j k i ks (same_known j i) refl apart (any-others j k ks apart)

-- a filter of a list with one more
last-in : (p : Known → Bool) (k : Known) (b : Bool) → cond b (k ∷ []) [] ≡ [] ++ cond b (k ∷ []) []
last-in p k true = refl
last-in p k false = refl

head-in : (p : Known → Bool) (i : Known) (xs ys zs : List Known) (b : Bool) → xs ≡ ys ++ zs
    → cond b (i ∷ xs) xs ≡ cond b (i ∷ ys) ys ++ zs
head-in p i xs ys zs true e = ap (λ l. i ∷ l) e
head-in p i xs ys zs false e = e

filter-last : (p : Known → Bool) (ks : List Known) (k : Known)
    → filter p (ks ++ k ∷ []) ≡ filter p ks ++ cond (p k) (k ∷ []) []
filter-last p [] k = last-in p k (p k)
filter-last p (i ∷ ks) k =
    head-in p i (filter p (ks ++ k ∷ [])) (filter p ks) (cond (p k) (k ∷ []) []) (p i) (filter-last p ks k)

abbrev added : Known → List Known → List Known
added k ks = if list_any (same_known k) ks then ks else ks ++ k ∷ []

nothing-last : (xs : List Known) → xs ++ [] ≡ xs
nothing-last [] = refl
nothing-last (x ∷ xs) = ap (λ l. x ∷ l) (nothing-last xs)

-- to add a domain and take out another is to do so the other way round
added-filter : (j k : Known) (ks : List Known) (b c : Bool) → same_known k j ≡ b → list_any (same_known k) ks ≡ c
    → filter (others j) (cond c ks (ks ++ k ∷ []))
    ≡ cond (b || list_any (same_known k) (filter (others j) ks)) (filter (others j) ks) (filter (others j) ks ++ k ∷ [])
added-filter j k ks true true is there = refl
added-filter j k ks true false is there =
    let same : same_known j k ≡ true = swapped j k ∙ is in
    filter-last (others j) ks k ∙ rw same (nothing-last (filter (others j) ks))
added-filter j k ks false true is there = rw (any-others j k ks is, there) refl
added-filter j k ks false false is there =
    let apart : same_known j k ≡ false = swapped j k ∙ is in
    rw (any-others j k ks is, there) (filter-last (others j) ks k ∙ rw apart refl)

each_first-push : (ks : List Known) (k : Known) → each_first (ks ++ k ∷ []) ≡ added k (each_first ks)
each_first-push [] k = refl
each_first-push (j ∷ ks) k =
    ap (λ l. j ∷ filter (others j) l) (each_first-push ks k)
    ∙ ap (λ l. j ∷ l) (added-filter j k (each_first ks) (same_known k j) (list_any (same_known k) (each_first ks))
    refl refl)
    ∙ out (same_known k j || list_any (same_known k) (filter (others j) (each_first ks)))
  where
    out : (b : Bool) → j ∷ cond b (filter (others j) (each_first ks)) (filter (others j) (each_first ks) ++ k ∷ [])
        ≡ cond b (j ∷ filter (others j) (each_first ks)) (j ∷ filter (others j) (each_first ks) ++ k ∷ [])
    out true = refl
    out false = refl

-- ---- one more match

known_in-push : (found : List (Option Match)) (m : Option Match)
    → known_in (found ++ m ∷ []) ≡ known_in found ++ known_in (m ∷ [])
known_in-push [] m = refl
known_in-push (None ∷ found) m = known_in-push found m
known_in-push (Some k ∷ found) m = ap (λ l. known_of k ∷ l) (known_in-push found m)

pub referenced-push : (found : List (Option Match)) (m : Option Match)
    → referenced (found ++ m ∷ []) ≡ with_domain m (referenced found)
referenced-push found None =
    ap each_first (known_in-push found None ∙ nothing-last (known_in found))
referenced-push found (Some m) =
    ap each_first (known_in-push found (Some m)) ∙ each_first-push (known_in found) (known_of m)

-- ---- how many there are

abbrev pub times : Known → List Known → ℕ
times k ks = length (filter (same_known k) ks)

counts : (ks : List Known) → length ks ≡ times Account ks + times Builtin ks + times NtAuthority ks + times World ks
counts [] = refl
counts (Account ∷ ks) = let rest = counts ks in omega arith
counts (Builtin ∷ ks) = let rest = counts ks in omega arith
counts (NtAuthority ∷ ks) = let rest = counts ks in omega arith
counts (World ∷ ks) = let rest = counts ks in omega arith

-- a filter has no more of them
either-times : (i : Known) (xs ks : List Known) (b c : Bool) → length xs ≤ length ks
    → length (cond b (cond c (i ∷ xs) xs) xs) ≤ length (cond c (i ∷ ks) ks)
either-times i xs ks true true few = omega arith
either-times i xs ks true false few = few
either-times i xs ks false true few = omega arith
either-times i xs ks false false few = few

head-times : (k i : Known) (xs : List Known) (b : Bool)
    → times k (cond b (i ∷ xs) xs) ≡ length (cond b (cond (same_known k i) (i ∷ filter (same_known k) xs)
    (filter (same_known k) xs)) (filter (same_known k) xs))
head-times k i xs true = refl
head-times k i xs false = refl

fewer : (k : Known) (p : Known → Bool) (ks : List Known) → times k (filter p ks) ≤ times k ks
fewer k p [] = omega arith
fewer k p (i ∷ ks) =
    let few : length (filter (same_known k) (filter p ks)) ≤ length (filter (same_known k) ks) = fewer k p ks in
    omega (
      arith,
      head-times k i (filter p ks) (p i),
      either-times i (filter (same_known k) (filter p ks)) (filter (same_known k) ks) (p i) (same_known k i) few,
    )

-- none is left of one that is taken out
gone-head : (k i : Known) (xs : List Known) (b : Bool) → same_known k i ≡ b → times k xs ≡ 0
    → times k (cond (not b) (i ∷ xs) xs) ≡ 0
gone-head k i xs true is none = none
gone-head k i xs false is none = rw is none

gone : (k : Known) (ks : List Known) → times k (filter (others k) ks) ≡ 0
gone k [] = refl
gone k (i ∷ ks) = gone-head k i (filter (others k) ks) (same_known k i) refl (gone k ks)

once-head : (k j : Known) (ks : List Known) (b : Bool) → same_known k j ≡ b → times k ks ≤ 1
    → length (cond b (j ∷ filter (same_known k) (filter (others j) ks))
    (filter (same_known k) (filter (others j) ks))) ≤ 1
once-head k j ks true is few =
    let none : times k (filter (others k) ks) ≡ 0 = gone k ks in
    let here : times k (filter (others j) ks) ≡ 0 = rw (sym (same-is k j is)) none in
    omega (arith, here)
once-head k j ks false is few = omega (arith, fewer k (others j) ks, few)

pub once : (k : Known) (ks : List Known) → times k (each_first ks) ≤ 1
once k [] = omega arith
once k (j ∷ ks) = once-head k j (each_first ks) (same_known k j) refl (once k ks)

pub four-at-most : (ks : List Known) → length (each_first ks) ≤ 4
four-at-most ks =
    omega (arith, counts (each_first ks), once Account ks, once Builtin ks, once NtAuthority ks, once World ks)
