-- Reading and writing the heads and the tails of an array, one after the other, as a loop does.
use Rattle.std.proofs.Common.{◌≡◌, ℕ, suc, ◌-◌, ◌+◌, ◌≤◌, ◌<◌, List, [], ◌∷◌, ◌++◌, length, map, drop, get_or}
use Rattle.std.proofs.Common.{drop-cons, Result, Ok, Err, refl, sym, ap, ◌∙◌, subst, append_assoc, arith, add-one}
use Rattle.std.proofs.lemmas.List.{append-nil, drop_all, length-map}
use Rattle.std.proofs.Math.ListN.{get_or-map}
use Rattle.ndr_core.specs.declared.error.NdrError.{NdrError}
use Rattle.ndr_core.specs.declared.error.NdrError.TheVariants.{Short, Count, Memory}
use Rattle.ndr_core.specs.Cursor.{Cursor, ◌>>=◌, done, Written}
use Rattle.ndr_core.specs.Codec.{Codec}
use Rattle.ndr_core.specs.Shapes.{given}
use Rattle.ndr_core.specs.Parts.{cons, times, each, front_of, Part}
use Rattle.ndr_core.proofs.Loop.{with_front}
use Rattle.ndr_types.specs.Outcomes.{ReadsIfRoom}

pub map_same : {A : Type 0} (xs : List A) → map (λ x. x) xs ≡ xs
map_same [] = refl
map_same (x ∷ xs) = ap (λ ys. x ∷ ys) (map_same xs)

pub yields_error : {A : Type 0} (e : NdrError) (after : Cursor) (read : Result (A × Cursor) NdrError) → read ≡ Err e
    → ReadsIfRoom (Err e) after read
yields_error Memory after read h = tt
yields_error (Short p) after read h = h
yields_error (Count p) after read h = h

-- ---- the element at an index, and those after it

next_of : {A : Type 0} (xs : List A) (i : ℕ) (x d : A) → i < length xs → x ≡ get_or xs i d
    → drop i xs ≡ x ∷ drop (i + 1) xs
next_of {A = A} xs i x d lt h = rw add-one (drop-cons xs i d lt ∙ ap (λ (z : A). z ∷ drop (suc i) xs) (sym h))

-- ---- reading one for each state

regroup : {A : Type 0} (front : List A) (x : A) (read : Result (List A × Cursor) NdrError)
    → with_front front (read >>= λ r. done (x ∷ r.0) r.1) ≡ with_front (front ++ x ∷ []) read
regroup {A = A} front x (Ok r) = ap (λ (xs : List A). done xs r.1) (simp append_assoc)
regroup front x (Err f) = refl

flattened : {A : Type 0} (r : Result (List A × Cursor) NdrError) (x : A)
    → ((r >>= λ q. done {A = A × List A} (x, q.0) q.1) >>= λ p. done (front_of p.0) p.1) ≡
    (r >>= λ q. done (x ∷ q.0) q.1)
flattened (Ok q) x = refl
flattened (Err e) x = refl

-- the read of a list whose first element was read
first_read : {A : Type 0} (a : Codec A) (m : Codec (List A)) (c d : Cursor) (x : A) → a.read c ≡ Ok (x, d)
    → (cons a m).read c ≡ (m.read d >>= λ r. done (x ∷ r.0) r.1)
first_read a m c d x h = rw h (flattened (m.read d) x)

each_next : {S A : Type 0} (f : S → Codec A) (ss : List S) (i : ℕ) (s d : S) → i < length ss → s ≡ get_or ss i d
    → (P : Codec (List A) → Type 0) → P (each f (drop i ss)) → P (cons (f s) (each f (drop (i + 1) ss)))
unfolding each
each_next {S = S} f ss i s d lt h P p = subst (λ (ts : List S). P (each f ts)) (next_of ss i s d lt h) p

each_last : {S A : Type 0} (f : S → Codec A) (ss : List S) (i : ℕ) → length ss ≤ i → (P : Codec (List A) → Type 0)
    → P (each f (drop i ss)) → P (given [])
unfolding each
each_last {S = S} f ss i le P p = subst (λ (ts : List S). P (each f ts)) (drop_all i ss le) p

-- what is left to read after i elements, put after those, is what was to be read
abbrev pub EachSoFar : {S A : Type 0} → List A → (S → Codec A) → List S → ℕ → Cursor → Cursor → Type 0
EachSoFar front f ss i from c = with_front front ((each f (drop i ss)).read c) ≡ (each f ss).read from

nothing_before : {A : Type 0} (r : Result (List A × Cursor) NdrError) → with_front [] r ≡ r
nothing_before (Ok r) = refl
nothing_before (Err e) = refl

pub each_begins : {S A : Type 0} (f : S → Codec A) (ss : List S) (c : Cursor) → EachSoFar [] f ss 0 c c
each_begins f ss c = nothing_before ((each f ss).read c)

pub each_goes_on : {S A : Type 0} (front : List A) (f : S → Codec A) (ss : List S) (i : ℕ) (s e : S) (from c d : Cursor)
    (x : A) → i < length ss → s ≡ get_or ss i e → (f s).read c ≡ Ok (x, d)
    → EachSoFar front f ss i from c → EachSoFar (front ++ x ∷ []) f ss (i + 1) from d
each_goes_on front f ss i s e from c d x lt is h so_far =
    let m = each f (drop (i + 1) ss) in
    sym (ap (with_front front) (first_read (f s) m c d x h) ∙ regroup front x (m.read d)) ∙ each_next f ss i s e lt is
    (λ k. with_front front (k.read c) ≡ (each f ss).read from) so_far

pub each_done : {S A : Type 0} (front : List A) (f : S → Codec A) (ss : List S) (i : ℕ) (from c : Cursor)
    → length ss ≤ i → EachSoFar front f ss i from c → (each f ss).read from ≡ Ok (front, c)
each_done {A = A} front f ss i from c le so_far =
    sym (each_last f ss i le (λ (k : Codec (List A)). with_front front (k.read c) ≡ (each f ss).read from) so_far) ∙ ap
    (λ (xs : List A). done xs c) (append-nil front)

-- a reading that failed at one element failed
stopped : {S A : Type 0} (e : NdrError) (front : List A) (f : S → Codec A) (ss : List S) (i : ℕ) (s d : S)
    (from c : Cursor) → i < length ss → s ≡ get_or ss i d → (f s).read c ≡ Err e
    → EachSoFar front f ss i from c → (each f ss).read from ≡ Err e
stopped e front f ss i s d from c lt is h so_far =
    let before : with_front front ((cons (f s) (each f (drop (i + 1) ss))).read c) ≡ (each f ss).read from =
    each_next f ss i s d lt is (λ k. with_front front (k.read c) ≡ (each f ss).read from) so_far in
    let one : with_front front ((cons (f s) (each f (drop (i + 1) ss))).read c) ≡ Err e = rw h refl in
    sym before ∙ one

pub each_ends : {S A : Type 0} (e : NdrError) (after : Cursor) (front : List A) (f : S → Codec A) (ss : List S) (i : ℕ)
    (s d : S) (from c : Cursor) → i < length ss → s ≡ get_or ss i d
    → ReadsIfRoom {A = A} (Err e) after ((f s).read c) → EachSoFar front f ss i from c
    → ReadsIfRoom {A = List A} (Err e) after ((each f ss).read from)
each_ends Memory after front f ss i s d from c lt is h so_far = tt
each_ends (Short p) after front f ss i s d from c lt is h so_far =
    stopped (Short p) front f ss i s d from c lt is h so_far
each_ends (Count p) after front f ss i s d from c lt is h so_far =
    stopped (Count p) front f ss i s d from c lt is h so_far

-- ---- writing so many

times_next : {A : Type 0} (n i : ℕ) (a : Codec A) → i < n → times (n - i) a ≡ cons a (times (n - (i + 1)) a)
unfolding times
times_next n i a lt = let k : n - i ≡ suc (n - (i + 1)) = omega arith in rw k refl

times_last : {A : Type 0} (n i : ℕ) (a : Codec A) → n ≤ i → times (n - i) a ≡ given []
unfolding times
times_last n i a le = let k : n - i ≡ 0 = omega arith in rw k refl

-- what is left to write after i elements, written after those, is what was to be written
abbrev PutSoFar : {A : Type 0} → List A → ℕ → Codec A → Written → Written → Type 0
PutSoFar xs i a from o = (times (length xs - i) a).write (drop i xs) o ≡ (times (length xs) a).write xs from

put_on : {A : Type 0} (xs : List A) (i : ℕ) (a : Codec A) (x d : A) (from o : Written) → i < length xs
    → x ≡ get_or xs i d → PutSoFar xs i a from o → PutSoFar xs (i + 1) a from (a.write x o)
put_on {A = A} xs i a x d from o lt h so_far =
    let p : (times (length xs - i) a).write (x ∷ drop (i + 1) xs) o ≡ (times (length xs) a).write xs from =
    rw (← next_of xs i x d lt h) so_far in
    subst (λ (k : Codec (List A)). k.write (x ∷ drop (i + 1) xs) o ≡ (times (length xs) a).write xs from)
    (times_next (length xs) i a lt) p

put_all : {A : Type 0} (xs : List A) (i : ℕ) (a : Codec A) (from o : Written) → length xs ≤ i → PutSoFar xs i a from o
    → o ≡ (times (length xs) a).write xs from
put_all {A = A} xs i a from o le so_far =
    subst (λ (k : Codec (List A)). k.write (drop i xs) o ≡ (times (length xs) a).write xs from)
    (times_last (length xs) i a le) so_far

-- ---- writing the heads of an array, and then the tails

abbrev pub HeadsSoFar : {S A : Type 0} → Part S A → List A → ℕ → Written → Written → Type 0
HeadsSoFar p xs i from o = PutSoFar (map p.head_of xs) i p.head from o

pub heads_begin : {S A : Type 0} (p : Part S A) (xs : List A) (o : Written) → HeadsSoFar p xs 0 o o
heads_begin p xs o = let k : length (map p.head_of xs) - 0 ≡ length (map p.head_of xs) = omega arith in rw k refl

pub heads_go_on : {S A : Type 0} (p : Part S A) (xs : List A) (i : ℕ) (x d : A) (from o : Written) → i < length xs
    → x ≡ get_or xs i d → HeadsSoFar p xs i from o → HeadsSoFar p xs (i + 1) from (p.head.write (p.head_of x) o)
heads_go_on p xs i x d from o lt h so_far =
    put_on (map p.head_of xs) i p.head (p.head_of x) (p.head_of d) from o (rw (length-map xs p.head_of) lt)
    (ap p.head_of h ∙ sym (get_or-map p.head_of xs i d)) so_far

pub heads_written : {S A : Type 0} (p : Part S A) (xs : List A) (i : ℕ) (from o : Written) → length xs ≤ i
    → HeadsSoFar p xs i from o → o ≡ (times (length xs) p.head).write (map p.head_of xs) from
heads_written p xs i from o le so_far =
    let e = length-map xs p.head_of in
    let all : o ≡ (times (length (map p.head_of xs)) p.head).write (map p.head_of xs) from =
    put_all (map p.head_of xs) i p.head from o (rw e le) so_far in
    subst (λ (n : ℕ). o ≡ (times n p.head).write (map p.head_of xs) from) e all

abbrev pub TailsSoFar : {S A : Type 0} → Part S A → List A → ℕ → Written → Written → Type 0
TailsSoFar p xs i from o =
    (each p.tail (map p.head_of (drop i xs))).write (drop i xs) o ≡ (each p.tail (map p.head_of xs)).write xs from

pub tails_go_on : {S A : Type 0} (p : Part S A) (xs : List A) (i : ℕ) (x d : A) (from o : Written) → i < length xs
    → x ≡ get_or xs i d → TailsSoFar p xs i from o → TailsSoFar p xs (i + 1) from ((p.tail (p.head_of x)).write x o)
unfolding each
tails_go_on {A = A} p xs i x d from o lt h so_far =
    subst (λ (ys : List A). (each p.tail (map p.head_of ys)).write ys o ≡
    (each p.tail (map p.head_of xs)).write xs from) (next_of xs i x d lt h) so_far

pub tails_written : {S A : Type 0} (p : Part S A) (xs : List A) (i : ℕ) (from o : Written) → length xs ≤ i
    → TailsSoFar p xs i from o → o ≡ (each p.tail (map p.head_of xs)).write xs from
unfolding each
tails_written {A = A} p xs i from o le so_far =
    subst (λ (ys : List A). (each p.tail (map p.head_of ys)).write ys o ≡
    (each p.tail (map p.head_of xs)).write xs from) (drop_all i xs le) so_far
