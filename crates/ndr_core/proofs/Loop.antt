-- Reading so many of one shape, one after another, as a loop does.
use Rattle.std.proofs.Common.{◌≡◌, ℕ, suc, ◌-◌, ◌+◌, ◌≤◌, ◌<◌, List, [], ◌∷◌, ◌++◌, Result, Ok, Err, refl, sym, ap, ◌∙◌}
use Rattle.std.proofs.Common.{subst, append_assoc, arith}
use Rattle.std.proofs.lemmas.List.{append-nil}
use Rattle.ndr_core.specs.declared.error.NdrError.{NdrError}
use Rattle.ndr_core.specs.Cursor.{Cursor, ◌>>=◌, done}
use Rattle.ndr_core.specs.Codec.{Codec}
use Rattle.ndr_core.specs.Shapes.{given}
use Rattle.ndr_core.specs.Parts.{cons, times, front_of}

-- what was read before, and what is still read
abbrev pub with_front : {A : Type 0} → List A → Result (List A × Cursor) NdrError → Result (List A × Cursor) NdrError
with_front front read = read >>= λ x. done (front ++ x.0) x.1

regroup : {A : Type 0} (front : List A) (x : A) (read : Result (List A × Cursor) NdrError)
    → with_front front (read >>= λ r. done (x ∷ r.0) r.1) ≡ with_front (front ++ x ∷ []) read
regroup {A = A} front x (Ok r) = ap (λ (xs : List A). done xs r.1) (simp append_assoc)
regroup front x (Err f) = refl

flat : {A : Type 0} (r : Result (List A × Cursor) NdrError) (x : A)
    → ((r >>= λ q. done {A = A × List A} (x, q.0) q.1) >>= λ p. done (front_of p.0) p.1) ≡
    (r >>= λ q. done (x ∷ q.0) q.1)
flat (Ok q) x = refl
flat (Err e) x = refl

-- the read of a list whose first element was read
pub first_read : {A : Type 0} (a : Codec A) (m : Codec (List A)) (c d : Cursor) (x : A) → a.read c ≡ Ok (x, d)
    → (cons a m).read c ≡ (m.read d >>= λ r. done (x ∷ r.0) r.1)
first_read a m c d x h = rw h (flat (m.read d) x)

times_next : {A : Type 0} (n i : ℕ) (a : Codec A) → i < n → times (n - i) a ≡ cons a (times (n - (i + 1)) a)
unfolding times
times_next n i a lt = let k : n - i ≡ suc (n - (i + 1)) = omega arith in rw k refl

next_is : {A : Type 0} (a : Codec A) (n i : ℕ) → i < n → (P : Codec (List A) → Type 0) → P (times (n - i) a)
    → P (cons a (times (n - (i + 1)) a))
next_is a n i lt P h = subst P (times_next n i a lt) h

times_last : {A : Type 0} (n i : ℕ) (a : Codec A) → n ≤ i → times (n - i) a ≡ given []
unfolding times
times_last n i a le = let k : n - i ≡ 0 = omega arith in rw k refl

-- what is left to read after i of n elements, put after those, is what was to be read
abbrev pub TimesSoFar : {A : Type 0} → List A → ℕ → ℕ → Codec A → Cursor → Cursor → Type 0
TimesSoFar front n i a from c = with_front front ((times (n - i) a).read c) ≡ (times n a).read from

nothing_before : {A : Type 0} (r : Result (List A × Cursor) NdrError) → with_front [] r ≡ r
nothing_before (Ok r) = refl
nothing_before (Err e) = refl

pub times_begins : {A : Type 0} (n : ℕ) (a : Codec A) (c : Cursor) → TimesSoFar [] n 0 a c c
times_begins n a c = let k : n - 0 ≡ n = omega arith in rw k (nothing_before ((times n a).read c))

pub times_goes_on : {A : Type 0} (front : List A) (n i : ℕ) (a : Codec A) (from c d : Cursor) (x : A) → i < n
    → a.read c ≡ Ok (x, d)
    → TimesSoFar front n i a from c → TimesSoFar (front ++ x ∷ []) n (i + 1) a from d
times_goes_on front n i a from c d x lt h so_far =
    let m = times (n - (i + 1)) a in
    let before : with_front front ((cons a m).read c) ≡ (times n a).read from =
    next_is a n i lt (λ k. with_front front (k.read c) ≡ (times n a).read from) so_far in
    sym (ap (with_front front) (first_read a m c d x h) ∙ regroup front x (m.read d)) ∙ before

pub times_ends : {A : Type 0} (e : NdrError) (front : List A) (n i : ℕ) (a : Codec A) (from c : Cursor) → i < n
    → a.read c ≡ Err e
    → TimesSoFar front n i a from c → (times n a).read from ≡ Err e
times_ends e front n i a from c lt h so_far =
    let m = times (n - (i + 1)) a in
    let before : with_front front ((cons a m).read c) ≡ (times n a).read from =
    next_is a n i lt (λ k. with_front front (k.read c) ≡ (times n a).read from) so_far in
    let one : with_front front ((cons a m).read c) ≡ Err e = rw h refl in
    sym before ∙ one

pub times_done : {A : Type 0} (front : List A) (n i : ℕ) (a : Codec A) (from c : Cursor) → n ≤ i
    → TimesSoFar front n i a from c → (times n a).read from ≡ Ok (front, c)
times_done {A = A} front n i a from c le so_far =
    let last : with_front front (done [] c) ≡ (times n a).read from =
    subst (λ (k : Codec (List A)). with_front front (k.read c) ≡ (times n a).read from)
    (times_last n i a le) so_far in
    sym last ∙ ap (λ (xs : List A). done xs c) (append-nil front)
