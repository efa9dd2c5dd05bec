-- Values by ascending key. A key is a list of numbers; the first numbers that differ decide.
use Rattle.std.specs.Prelude.{ℕ, suc, Bool, true, ◌&&◌, not, List, [], ◌∷◌, Option, Some, None, Result, Ok, Err}
use Rattle.std.specs.Prelude.{length, take, if◌then◌else◌}
use Rattle.std.specs.List.{filter}
use Rattle.std.specs.declared.cmp.Ordering.{Ordering}
use Rattle.std.specs.declared.cmp.Ordering.TheVariants.{Less, Equal, Greater}
use Rattle.std.specs.Ordering.{nat_cmp, is_eq, is_lt}
use Rattle.std.specs.Cmp.Lexicographic.{slice_cmp}

abbrev pub Key : Type 0
Key = List ℕ

abbrev pub compare : Key → Key → Ordering
compare j k = slice_cmp nat_cmp j k

-- A list within a key: each number stands one higher and 0 ends the list, so that keys compare as their lists do, and
-- then by what is after these.
abbrev pub ended : List ℕ → Key → Key
ended [] rest = 0 ∷ rest
ended (n ∷ ns) rest = suc n ∷ ended ns rest

-- as many of the first numbers of a key as a prefix has, against that prefix
abbrev pub compare_front : Key → Key → Ordering
compare_front k front = compare (take (length front) k) front

abbrev pub same_key : Key → Key → Bool
same_key j k = is_eq (compare j k)

abbrev pub by_order : {A : Type 0} → Ordering → A → A → A → A
by_order Less a b c = a
by_order Equal a b c = b
by_order Greater a b c = c

-- one place further
abbrev pub further : Result ℕ ℕ → Result ℕ ℕ
further (Ok i) = Ok (suc i)
further (Err i) = Err (suc i)

module _ {A : Type 0} (key : A → Key) where
  -- the value with that key
  abbrev pub at : Key → List A → Option A
  at k [] = None
  at k (x ∷ xs) = if same_key k (key x) then Some x else at k xs

  -- whether the key of a value begins with the prefix
  abbrev pub is_within : Key → A → Bool
  is_within front x = is_eq (compare_front (key x) front)

  -- with the value in its place; a value with its key goes
  abbrev pub put : A → List A → List A
  put a [] = a ∷ []
  put a (x ∷ xs) = by_order (compare (key a) (key x)) (a ∷ x ∷ xs) (a ∷ xs) (x ∷ put a xs)

  -- with each value in its place, one after the other: of those with one key the last stays
  abbrev pub put_each : List A → List A → List A
  put_each [] xs = xs
  put_each (a ∷ more) xs = put_each more (put a xs)

  -- without the value with that key
  abbrev pub without : Key → List A → List A
  without k xs = filter (λ x. not (same_key k (key x))) xs

  -- without the values that have a key of these
  abbrev pub without_all : List A → List A → List A
  without_all [] xs = xs
  without_all (a ∷ gone) xs = without_all gone (without (key a) xs)

  -- without the values with those keys
  abbrev pub without_keys : List Key → List A → List A
  without_keys [] xs = xs
  without_keys (k ∷ ks) xs = without_keys ks (without k xs)

  abbrev pub below_all : Key → List A → Bool
  below_all k [] = true
  below_all k (x ∷ xs) = is_lt (compare k (key x)) && below_all k xs

  -- whether the keys strictly rise, so that none stands twice
  abbrev pub is_ascending : List A → Bool
  is_ascending [] = true
  is_ascending (x ∷ xs) = below_all (key x) xs && is_ascending xs

  -- where the key stands, or where it would go
  abbrev pub place : Key → List A → Result ℕ ℕ
  place k [] = Err 0
  place k (x ∷ xs) = by_order (compare k (key x)) (Err 0) (Ok 0) (further (place k xs))

  -- the values by ascending key, however they stood
  abbrev pub sorted : List A → List A
  sorted [] = []
  sorted (x ∷ xs) = put x (sorted xs)

-- entries of values by ascending key
abbrev pub index : {A B : Type 0} → (A → B) → (B → Key) → List A → List B
index entry key [] = []
index entry key (x ∷ xs) = put key (entry x) (index entry key xs)
