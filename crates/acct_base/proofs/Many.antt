-- Reading so many of what one reader reads, as a loop does.
use Rattle.std.proofs.Common.{◌≡◌, ℕ, zero, suc, ◌-◌, ◌+◌, ◌≤◌, ◌<◌, List, [], ◌∷◌, ◌++◌, Option, Some, None, refl, sym}
use Rattle.std.proofs.Common.{ap, ◌∙◌, append_assoc, arith}
use Rattle.std.proofs.lemmas.List.{append-nil}
use Rattle.acct_base.specs.declared.fields.Unread.{Unread}
use Rattle.acct_base.specs.declared.fields.Unread.TheVariants.{Memory, Misspelled}
use Rattle.acct_base.specs.Reading.{Reader, ◌>>=◌, many, ReadsNothing}

-- what was read before, and what is still read
abbrev pub with_front : {A : Type 0} → List A → Option (List A × List ℕ) → Option (List A × List ℕ)
with_front front read = read >>= λ x. Some (front ++ x.0, x.1)

regroup : {A : Type 0} (front : List A) (x : A) (read : Option (List A × List ℕ))
    → with_front front (read >>= λ y. Some (x ∷ y.0, y.1)) ≡ with_front (front ++ x ∷ []) read
regroup {A = A} front x (Some y) = ap (λ (xs : List A). Some (xs, y.1)) (sym (append_assoc front (x ∷ []) y.0))
regroup front x None = refl

-- what is left to read after i of so many, put after those, is what was to be read
abbrev pub SoFar : {A : Type 0} → Reader A → List A → ℕ → ℕ → List ℕ → List ℕ → Type 0
SoFar one front count i bytes rest = with_front front (many one (count - i) rest) ≡ many one count bytes

pub many-none : {A : Type 0} (one : Reader A) (bytes : List ℕ) → many one zero bytes ≡ Some ([], bytes)
unfolding many
many-none one bytes = refl

pub many-one : {A : Type 0} (one : Reader A) (n : ℕ) (bytes : List ℕ)
    → many one (suc n) bytes
    ≡ (one bytes >>= λ first. many one n first.1 >>= λ others. Some (first.0 ∷ others.0, others.1))
unfolding many
many-one one n bytes = refl

pub starts : {A : Type 0} (one : Reader A) (count : ℕ) (bytes : List ℕ) → SoFar one [] count 0 bytes bytes
starts {A = A} one count bytes =
    let k : count - 0 ≡ count = omega arith in
    let same : (read : Option (List A × List ℕ)) → with_front [] read ≡ read =
    λ read. elim read as (λ r. with_front [] r ≡ r) [ Some x ↦ refl | None ↦ refl ] in
    rw k (same (many one count bytes))

pub goes_on : {A : Type 0} (one : Reader A) (front : List A) (count i : ℕ) (bytes rest : List ℕ) (x : A)
    (after : List ℕ) → i < count → one rest ≡ Some (x, after)
    → SoFar one front count i bytes rest → SoFar one (front ++ x ∷ []) count (i + 1) bytes after
goes_on one front count i bytes rest x after lt h so_far =
    let k : count - i ≡ suc (count - (i + 1)) = omega arith in
    let step : with_front front (many one (count - i) rest)
    ≡ with_front (front ++ x ∷ []) (many one (count - (i + 1)) after) =
    rw (k, many-one one (count - (i + 1)) rest, h) (regroup front x (many one (count - (i + 1)) after)) in
    sym step ∙ so_far

pub ends : {A : Type 0} (one : Reader A) (e : Unread) (front : List A) (count i : ℕ) (bytes rest : List ℕ) → i < count
    → ReadsNothing e (one rest)
    → SoFar one front count i bytes rest → ReadsNothing e (many one count bytes)
ends one Memory front count i bytes rest lt h so_far = tt
ends one Misspelled front count i bytes rest lt h so_far =
    let k : count - i ≡ suc (count - (i + 1)) = omega arith in
    let step : with_front front (many one (count - i) rest) ≡ None =
    rw (k, many-one one (count - (i + 1)) rest, h) refl in
    sym so_far ∙ step

pub is_done : {A : Type 0} (one : Reader A) (front : List A) (count i : ℕ) (bytes rest : List ℕ) → count ≤ i
    → SoFar one front count i bytes rest → many one count bytes ≡ Some (front, rest)
is_done {A = A} one front count i bytes rest le so_far =
    let k : count - i ≡ zero = omega arith in
    let step : with_front front (many one (count - i) rest) ≡ Some (front, rest) =
    rw (k, many-none one rest) (ap (λ (xs : List A). Some (xs, rest)) (append-nil front)) in
    sym so_far ∙ step
