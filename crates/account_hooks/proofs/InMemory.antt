-- A gate in memory: what is at the place of the first job that is left.
use Rattle.std.proofs.Common.{◌≡◌, ◌≤◌, ◌<◌, ℕ, zero, suc, ◌+◌, ◌==◌, true, false, List, [], ◌∷◌, ◌++◌, length, map, take}
use Rattle.std.proofs.Common.{drop, get_or, refl, sym, ap, ◌∙◌, subst, arith, Option, Some, None, slice_get}
use Rattle.std.proofs.lemmas.Bool.Decides.{nat_tests}
use Rattle.std.proofs.lemmas.List.{at_drop_more, drop-map}
use Rattle.account_hooks.specs.declared.runs.HookJob.{HookJob}
use Rattle.account_hooks.specs.Drains.{Job, job_of, numbers, left, IsNext}
use Rattle.account_hooks.specs.Memory.{is_first}

from-place : {X : Type 0} (xs : List X) (i : ℕ) (x : X) → i < length xs → x ≡ get_or xs i x
    → drop i xs ≡ x ∷ drop (i + 1) xs
from-place {X} xs i x within is =
    at_drop_more (λ (ys : List X). ys) xs i x within ∙ ap (λ (y : X). y ∷ drop (i + 1) xs) (sym is)

-- the jobs that are left where the first ones have left
left-taken : (jobs : List Job) (k : ℕ) → left jobs (numbers (take k jobs)) ≡ drop k jobs
left-taken [] zero = refl
left-taken [] (suc k) = refl
left-taken (job ∷ jobs) zero = refl
left-taken (job ∷ jobs) (suc k) = left-taken jobs k

pub next-at : (items : List HookJob) (k : ℕ) (job copy : HookJob) → k < length items → job ≡ get_or items k job
    → job_of copy ≡ job_of job → IsNext (map job_of items) (numbers (take k (map job_of items))) (job_of copy)
next-at items k job copy within is same = (
  map job_of (drop (k + 1) items),
  left-taken (map job_of items) k ∙ drop-map job_of k items ∙ ap (map job_of) (from-place items k job within is)
      ∙ ap (λ (j : Job). j ∷ map job_of (drop (k + 1) items)) (sym same),
)

number-from : (jobs rest : List Job) (k : ℕ) (job : Job) → drop k jobs ≡ job ∷ rest
    → slice_get (numbers jobs) k ≡ Some job.number
number-from [] rest zero job is = absurd cc
number-from [] rest (suc k) job is = absurd cc
number-from (j ∷ jobs) rest zero job is = ap (λ (l : List Job). slice_get (numbers l) 0) is
number-from (j ∷ jobs) rest (suc k) job is = number-from jobs rest k job is

-- the number of the first job that is left
pub number-at : (items : List HookJob) (k : ℕ) (job : HookJob) → k < length items → job ≡ get_or items k job
    → Some job.number ≡ slice_get (numbers (map job_of items)) k
number-at items k job within is =
    sym (number-from (map job_of items) (map job_of (drop (k + 1) items)) k (job_of job)
    (drop-map job_of k items ∙ ap (map job_of) (from-place items k job within is)))

pub number-past : (items : List HookJob) (k : ℕ) → length items ≤ k
    → None ≡ slice_get (numbers (map job_of items)) k
number-past [] k past = refl
number-past (i ∷ items) zero past = absurd (omega (arith, past))
number-past (i ∷ items) (suc k) past = number-past items k (omega (arith, past))

first-is : (n : ℕ) (o : Option ℕ) → true ≡ is_first n o → o ≡ Some n
first-is n None is = absurd cc
first-is n (Some m) is =
    let here : (m == n) ≡ true = sym is in
    let same : m ≡ n = grind (arith, nat_tests) in ap (λ (k : ℕ). Some k) same

pub not-first : (jobs : List Job) (k n : ℕ) (job : Job) → false ≡ is_first n (slice_get (numbers jobs) k)
    → IsNext jobs (numbers (take k jobs)) job → job.number ≡ n → ⊥
not-first jobs k n job differs next same =
    let at = number-from jobs next.0 k job (sym (left-taken jobs k) ∙ next.1) in
    let other : (job.number == n) ≡ false = sym (subst (λ (o : Option ℕ). false ≡ is_first n o) at differs) in
    grind (arith, nat_tests)

taken-more : (jobs : List Job) (k n : ℕ) → slice_get (numbers jobs) k ≡ Some n
    → numbers (take (k + 1) jobs) ≡ numbers (take k jobs) ++ n ∷ []
taken-more [] k n at = absurd cc
taken-more (job ∷ jobs) zero n at = let same : job.number ≡ n = cc in ap (λ (m : ℕ). m ∷ []) same
taken-more (job ∷ jobs) (suc k) n at =
    let more : suc k + 1 ≡ suc (k + 1) = omega arith in
    rw more (ap (λ (l : List ℕ). job.number ∷ l) (taken-more jobs k n at))

pub leaves-first : (jobs : List Job) (k n : ℕ) → true ≡ is_first n (slice_get (numbers jobs) k)
    → numbers (take (k + 1) jobs) ≡ numbers (take k jobs) ++ n ∷ []
leaves-first jobs k n is = taken-more jobs k n (first-is n (slice_get (numbers jobs) k) is)

within-at : (items : List HookJob) (k n : ℕ) → slice_get (numbers (map job_of items)) k ≡ Some n → k < length items
within-at [] k n at = absurd cc
within-at (i ∷ items) zero n at = omega arith
within-at (i ∷ items) (suc k) n at = let rest = within-at items k n at in omega (arith, rest)

pub is-within : (items : List HookJob) (k n : ℕ) → true ≡ is_first n (slice_get (numbers (map job_of items)) k)
    → k < length items
is-within items k n is = within-at items k n (first-is n (slice_get (numbers (map job_of items)) k) is)
