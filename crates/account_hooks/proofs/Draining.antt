-- A drain from job to job.
use Rattle.std.proofs.Common.{◌≡◌, ◌≤◌, ℕ, ◌+◌, List, [], ◌∷◌, ◌++◌, length, drop, refl, sym, ap, ◌∙◌, subst, arith}
use Rattle.std.proofs.Common.{append_assoc, zero, suc, ◌≢◌, ⊎_elim, inl, inr}
use Rattle.account_hooks.specs.declared.drains.Drained.{Drained}
use Rattle.account_hooks.specs.declared.drains.Drained.TheVariants as drained
use Rattle.std.proofs.lemmas.List.{append-nil}
use Rattle.account_hooks.specs.declared.runs.Ran.{Ran}
use Rattle.account_hooks.specs.Drains.{Job, Run, Follows, InOrder, ended, Begins, numbers, left, IsNext, EndsWell}
use Rattle.account_hooks.specs.Drains.{FailsAll, IsDraining, HoldsAt, StaysAt, StopsBy, Drains, times_left, runs_of}
use Rattle.account_hooks.proofs.Order.{behind, follows-more, ended-more, follows-then, ended-then, times-then, behind-drop}
use Rattle.account_hooks.proofs.Order.{fails-follow, fails-ended, job-follows, job-ended, job-times}

-- ---- lists

pub length-numbers : (jobs : List Job) → length (numbers jobs) ≡ length jobs
length-numbers [] = refl
length-numbers (job ∷ jobs) = ap suc (length-numbers jobs)

pub length-then : {A : Type 0} (xs ys : List A) → length (xs ++ ys) ≡ length xs + length ys
length-then {A} [] ys = omega arith
length-then (x ∷ xs) ys = let rest = length-then xs ys in omega (arith, rest)

pub drop-within : {A : Type 0} (n : ℕ) (xs more : List A) → n ≤ length xs → drop n (xs ++ more) ≡ drop n xs ++ more
drop-within zero xs more few = refl
drop-within (suc n) [] more few = absurd (omega (arith, few))
drop-within (suc n) (x ∷ xs) more few = drop-within n xs more (omega (arith, few))

drop-nil : (A : Type 0) (n : ℕ) → let none : List A = [] in drop n none ≡ none
drop-nil A zero = refl
drop-nil A (suc n) = refl

pub drop-drop : {A : Type 0} (m n : ℕ) (xs : List A) → drop m (drop n xs) ≡ drop (n + m) xs
drop-drop m zero xs = let same : 0 + m ≡ m = omega arith in ap (λ k. drop k xs) (sym same)
drop-drop {A} m (suc n) [] = drop-nil A m ∙ sym (drop-nil A (suc n + m))
drop-drop m (suc n) (x ∷ xs) = let up : suc n + m ≡ suc (n + m) = omega arith in drop-drop m n xs
    ∙ ap (λ k. drop k (x ∷ xs)) (sym up)

pub numbers-then : (jobs more : List Job) → numbers (jobs ++ more) ≡ numbers jobs ++ numbers more
numbers-then [] more = refl
numbers-then (job ∷ jobs) more = ap (λ l. job.number ∷ l) (numbers-then jobs more)

pub begins-then : {A : Type 0} (a b c : List A) → Begins a b → Begins b c → Begins a c
begins-then a b c one two =
    (one.0 ++ two.0, two.1 ∙ ap (λ l. l ++ two.0) one.1 ∙ append_assoc a one.0 two.0)

pub begins-same : {A : Type 0} (a : List A) → Begins a a
begins-same a = ([], sym (append-nil a))

pub first-few : (before : List ℕ) (jobs : List Job) → Begins before (numbers jobs) → length before ≤ length jobs
first-few before jobs first =
    let a = length-numbers jobs in
    let b = ap length first.1 in
    let c = length-then before first.0 in
    omega (arith, a, b, c)

pub left-more : (before : List ℕ) (jobs more : List Job) → Begins before (numbers jobs)
    → left (jobs ++ more) before ≡ left jobs before ++ more
left-more before jobs more first = drop-within (length before) jobs more (first-few before jobs first)

pub first-more : (before : List ℕ) (jobs more : List Job) → Begins before (numbers jobs)
    → Begins before (numbers (jobs ++ more))
first-more before jobs more first =
    begins-then before (numbers jobs) (numbers (jobs ++ more)) first (numbers more, numbers-then jobs more)

pub next-more : (gone : List ℕ) (jobs more : List Job) (job : Job) → Begins gone (numbers jobs) → IsNext jobs gone job
    → IsNext (jobs ++ more) gone job
next-more gone jobs more job first next =
    (next.0 ++ more, left-more gone jobs more first ∙ ap (λ l. l ++ more) next.1)

-- ---- a drain

module _ (p : List ℕ) (t : ℕ) where
  -- it begins
  pub draining-none : (jobs : List Job) (gone : List ℕ) → Begins gone (numbers jobs)
      → IsDraining p t gone jobs gone []
  draining-none jobs gone first = record {
    in_order = tt;
    all = sym (append-nil gone);
    rests = refl;
    first = first;
  }

  -- further out rows come
  pub draining-more : (before : List ℕ) (jobs more : List Job) (gone : List ℕ) (runs : List Run)
      → IsDraining p t before jobs gone runs → IsDraining p t before (jobs ++ more) gone runs
  draining-more before jobs more gone runs d =
      let same = left-more before jobs more d.first in record {
        in_order = subst (λ js. Follows p t t js runs) (sym same)
            (follows-more p t t (left jobs before) more runs d.in_order);
        all = d.all ∙ ap (λ l. before ++ l) (sym (ap (λ js. ended js runs) same
            ∙ ended-more p t t (left jobs before) more runs d.in_order));
        rests = d.rests;
        first = first-more before jobs more d.first;
      }

  pub draining-begins : (before : List ℕ) (jobs after : List Job) (gone : List ℕ) (runs : List Run)
      → Begins jobs after → IsDraining p t before jobs gone runs → IsDraining p t before after gone runs
  draining-begins before jobs after gone runs b d =
      subst (λ js. IsDraining p t before js gone runs) (sym b.1) (draining-more before jobs b.0 gone runs d)

  -- the jobs that are left after the runs are those that haven't left
  pub left-behind : (before : List ℕ) (jobs : List Job) (gone : List ℕ) (runs : List Run)
      → IsDraining p t before jobs gone runs → behind (left jobs before) runs ≡ left jobs gone
  left-behind before jobs gone runs d =
      let e = ended (left jobs before) runs in
      let long : length gone ≡ length before + length e = ap length d.all ∙ length-then before e in
      behind-drop p t t (left jobs before) runs d.in_order
      ∙ drop-drop (length e) (length before) jobs
      ∙ ap (λ n. drop n jobs) (sym long)

  -- the runs of the next job are in order
  next-follows : (before : List ℕ) (jobs : List Job) (gone : List ℕ) (runs more : List Run)
      → IsDraining p t before jobs gone runs → Follows p t t (left jobs gone) more
      → InOrder (left jobs before) p t (runs ++ more)
  next-follows before jobs gone runs more d f =
      follows-then p t t (left jobs before) runs more d.in_order
      (subst (λ n. Follows p t n (behind (left jobs before) runs) more) (sym d.rests)
      (subst (λ js. Follows p t t js more) (sym (left-behind before jobs gone runs d)) f))

  next-ended : (before : List ℕ) (jobs : List Job) (gone : List ℕ) (runs more : List Run)
      → IsDraining p t before jobs gone runs
      → before ++ ended (left jobs before) (runs ++ more) ≡ gone ++ ended (left jobs gone) more
  next-ended before jobs gone runs more d =
      ap (λ l. before ++ l) (ended-then p t t (left jobs before) runs more d.in_order)
      ∙ sym (append_assoc before (ended (left jobs before) runs) (ended (behind (left jobs before) runs) more))
      ∙ ap (λ l. l ++ ended (behind (left jobs before) runs) more) (sym d.all)
      ∙ ap (λ js. gone ++ ended js more) (left-behind before jobs gone runs d)

  -- the next job was run until a run ended with 0
  pub well-in-order : (before : List ℕ) (jobs : List Job) (gone : List ℕ) (runs : List Run) (job : Job)
      (ends : List Ran) → IsDraining p t before jobs gone runs → IsNext jobs gone job → EndsWell t ends
      → InOrder (left jobs before) p t (runs ++ runs_of p job ends)
  well-in-order before jobs gone runs job ends d next well =
      next-follows before jobs gone runs (runs_of p job ends) d
      (subst (λ js. Follows p t t js (runs_of p job ends)) (sym next.1) (job-follows p t job next.0 ends well))

  pub well-ended : (before : List ℕ) (jobs : List Job) (gone : List ℕ) (runs : List Run) (job : Job)
      (ends : List Ran) → IsDraining p t before jobs gone runs → IsNext jobs gone job → EndsWell t ends
      → gone ++ job.number ∷ [] ≡ before ++ ended (left jobs before) (runs ++ runs_of p job ends)
  well-ended before jobs gone runs job ends d next well =
      let more = runs_of p job ends in
      sym (next-ended before jobs gone runs more d
      ∙ ap (λ js. gone ++ ended js more) next.1
      ∙ ap (λ l. gone ++ l) (job-ended p t job next.0 ends well))

  -- and it left
  pub draining-on : (before : List ℕ) (jobs : List Job) (gone after : List ℕ) (runs : List Run) (job : Job)
      (ends : List Ran) → IsDraining p t before jobs gone runs → IsNext jobs gone job → EndsWell t ends
      → after ≡ gone ++ job.number ∷ [] → IsDraining p t before jobs after (runs ++ runs_of p job ends)
  draining-on before jobs gone after runs job ends d next well leaves = record {
    in_order = well-in-order before jobs gone runs job ends d next well;
    all = leaves ∙ well-ended before jobs gone runs job ends d next well;
    rests = times-then p t t runs (runs_of p job ends) ∙ ap (λ n. times_left t n (runs_of p job ends)) d.rests
        ∙ job-times p t job ends well;
    first = d.first;
  }

  -- or it didn't leave
  pub draining-stays : (before : List ℕ) (jobs : List Job) (gone : List ℕ) (runs : List Run) (job : Job)
      (ends : List Ran) → IsDraining p t before jobs gone runs → IsNext jobs gone job → EndsWell t ends
      → StaysAt p t before jobs gone (runs ++ runs_of p job ends)
  draining-stays before jobs gone runs job ends d next well = record {
    job = job;
    next = next;
    but_last = well-ended before jobs gone runs job ends d next well;
    ends = ends;
    well = well;
    last = record { earlier = runs; is = refl };
  }

  -- or it was run in vain
  pub fails-in-order : (before : List ℕ) (jobs : List Job) (gone : List ℕ) (runs : List Run) (job : Job)
      (ends : List Ran) → IsDraining p t before jobs gone runs → IsNext jobs gone job → FailsAll t ends
      → InOrder (left jobs before) p t (runs ++ runs_of p job ends)
  fails-in-order before jobs gone runs job ends d next fails =
      next-follows before jobs gone runs (runs_of p job ends) d
      (subst (λ js. Follows p t t js (runs_of p job ends)) (sym next.1)
      (fails-follow p t t job next.0 ends fails.none (let a = fails.all in omega (arith, a))))

  pub draining-holds : (before : List ℕ) (jobs : List Job) (gone : List ℕ) (runs : List Run) (job : Job)
      (ends : List Ran) → IsDraining p t before jobs gone runs → IsNext jobs gone job → FailsAll t ends
      → HoldsAt p t before jobs gone (runs ++ runs_of p job ends) job.number
  draining-holds before jobs gone runs job ends d next fails = record {
    job = job;
    next = next;
    is = refl;
    all = sym (next-ended before jobs gone runs (runs_of p job ends) d
        ∙ ap (λ js. gone ++ ended js (runs_of p job ends)) next.1
        ∙ ap (λ l. gone ++ l) (fails-ended p t job next.0 ends fails.none)
        ∙ append-nil gone);
    ends = ends;
    fails = fails;
    last = record { earlier = runs; is = refl };
  }

  -- it didn't leave, though further out rows came
  pub stays-on : (before : List ℕ) (jobs after : List Job) (gone same : List ℕ) (runs : List Run) (job : Job)
      (ends : List Ran) → Begins gone (numbers jobs) → Begins jobs after → same ≡ gone
      → IsDraining p t before jobs gone runs → IsNext jobs gone job → EndsWell t ends
      → InOrder (left after before) p t (runs ++ runs_of p job ends)
      × StaysAt p t before after same (runs ++ runs_of p job ends)
  stays-on before jobs after gone same runs job ends first b is d next well =
      let e = draining-begins before jobs after gone runs b d in
      let n : IsNext after gone job = subst (λ js. IsNext js gone job) (sym b.1) (next-more gone jobs b.0 job first next) in (
        well-in-order before after gone runs job ends e n well,
        subst (λ g. StaysAt p t before after g (runs ++ runs_of p job ends)) (sym is)
            (draining-stays before after gone runs job ends e n well),
      )

  -- a look at the first job that is left
  pub draining-first : (before : List ℕ) (jobs after : List Job) (gone same : List ℕ) (runs : List Run)
      → Begins jobs after → same ≡ gone → IsDraining p t before jobs gone runs → IsDraining p t before after same runs
  draining-first before jobs after gone same runs b is d =
      subst (λ g. IsDraining p t before after g runs) (sym is) (draining-begins before jobs after gone runs b d)

  pub draining-same : (before : List ℕ) (jobs : List Job) (gone : List ℕ) (runs : List Run)
      → IsDraining p t before jobs gone runs → IsDraining p t before jobs gone (runs ++ [])
  draining-same before jobs gone runs d = subst (λ rs. IsDraining p t before jobs gone rs) (sym (append-nil runs)) d

  -- ---- further out rows after a drain that stopped

  holds-more : (before : List ℕ) (jobs more : List Job) (gone : List ℕ) (runs : List Run) (n : ℕ)
      → Begins before (numbers jobs) → Begins gone (numbers jobs) → InOrder (left jobs before) p t runs
      → HoldsAt p t before jobs gone runs n → HoldsAt p t before (jobs ++ more) gone runs n
  holds-more before jobs more gone runs n first front o h = record {
    job = h.job;
    next = next-more gone jobs more h.job front h.next;
    is = h.is;
    all = h.all ∙ ap (λ l. before ++ l) (sym (ap (λ js. ended js runs) (left-more before jobs more first)
        ∙ ended-more p t t (left jobs before) more runs o));
    ends = h.ends;
    fails = h.fails;
    last = h.last;
  }

  stays-more : (before : List ℕ) (jobs more : List Job) (gone : List ℕ) (runs : List Run)
      → Begins before (numbers jobs) → Begins gone (numbers jobs) → InOrder (left jobs before) p t runs
      → StaysAt p t before jobs gone runs → StaysAt p t before (jobs ++ more) gone runs
  stays-more before jobs more gone runs first front o h = record {
    job = h.job;
    next = next-more gone jobs more h.job front h.next;
    but_last = h.but_last ∙ ap (λ l. before ++ l) (sym (ap (λ js. ended js runs) (left-more before jobs more first)
        ∙ ended-more p t t (left jobs before) more runs o));
    ends = h.ends;
    well = h.well;
    last = h.last;
  }

  stops-more : (answer : Drained) (before : List ℕ) (jobs more : List Job) (gone : List ℕ) (runs : List Run)
      → answer ≢ drained.Empty → Begins before (numbers jobs) → Begins gone (numbers jobs)
      → InOrder (left jobs before) p t runs → StopsBy answer p t before jobs gone runs
      → StopsBy answer p t before (jobs ++ more) gone runs
  stops-more drained.Empty before jobs more gone runs not first front o s = absurd (not refl)
  stops-more (drained.Held n) before jobs more gone runs not first front o s =
      holds-more before jobs more gone runs n first front o s
  stops-more (drained.StoreFault n) before jobs more gone runs not first front o s =
      stays-more before jobs more gone runs first front o s
  stops-more drained.NoMemory before jobs more gone runs not first front o s = ⊎_elim
      (λ (d : IsDraining p t before jobs gone runs). inl (draining-more before jobs more gone runs d))
      (λ (h : StaysAt p t before jobs gone runs). inr (stays-more before jobs more gone runs first front o h)) s

  pub drains-more : (answer : Drained) (before : List ℕ) (jobs more : List Job) (gone : List ℕ) (runs : List Run)
      → answer ≢ drained.Empty → Begins before (numbers jobs) → Begins gone (numbers jobs)
      → Drains answer p t before jobs gone runs → Drains answer p t before (jobs ++ more) gone runs
  drains-more answer before jobs more gone runs not first front d = record {
    in_order = subst (λ js. Follows p t t js runs) (sym (left-more before jobs more first))
        (follows-more p t t (left jobs before) more runs d.in_order);
    stops = stops-more answer before jobs more gone runs not first front d.in_order d.stops;
  }
