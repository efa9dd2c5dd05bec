-- Pairs by ascending key, and what the changes of a commit make of them. Keys are ordered as lists of bytes: the first
-- bytes that differ decide, and a key comes before each longer one that begins with it.
use Rattle.std.specs.Prelude.{ℕ, Bool, true, ◌&&◌, not, List, [], ◌∷◌, Option, Some, None}
use Rattle.std.specs.List.{filter}
use Rattle.std.specs.declared.cmp.Ordering.{Ordering}
use Rattle.std.specs.declared.cmp.Ordering.TheVariants.{Less, Equal, Greater}
use Rattle.std.specs.Ordering.{nat_cmp, is_eq, is_lt}
use Rattle.std.specs.Cmp.Lexicographic.{slice_cmp}
use Rattle.acct_keeper.specs.declared.pairs.Pair.{Pair}
use Rattle.acct_keeper.specs.declared.pairs.Change.{Change}

abbrev pub compare : List ℕ → List ℕ → Ordering
compare j k = slice_cmp nat_cmp j k

abbrev pub same_key : List ℕ → List ℕ → Bool
same_key j k = is_eq (compare j k)

abbrev pub by_order : {A : Type 0} → Ordering → A → A → A → A
by_order Less a b c = a
by_order Equal a b c = b
by_order Greater a b c = c

-- with the pair in its place; a pair with its key goes
abbrev pub put : Pair → List Pair → List Pair
put a [] = a ∷ []
put a (x ∷ xs) = by_order (compare a.key x.key) (a ∷ x ∷ xs) (a ∷ xs) (x ∷ put a xs)

-- without the pair with that key
abbrev pub without : List ℕ → List Pair → List Pair
without k xs = filter (λ x. not (same_key k x.key)) xs

abbrev pub below_all : List ℕ → List Pair → Bool
below_all k [] = true
below_all k (x ∷ xs) = is_lt (compare k x.key) && below_all k xs

-- whether the keys strictly rise, so that none stands twice
abbrev pub is_ascending : List Pair → Bool
is_ascending [] = true
is_ascending (x ∷ xs) = below_all x.key xs && is_ascending xs

-- a key with a value is put there, and one without a value goes
abbrev pub set_key : List ℕ → Option (List ℕ) → List Pair → List Pair
set_key key (Some value) xs = put (record { key = key; value = value }) xs
set_key key None xs = without key xs

-- the pairs after a list of changes, made in order
abbrev pub after : List Change → List Pair → List Pair
after [] xs = xs
after (c ∷ cs) xs = after cs (set_key c.key c.value xs)
