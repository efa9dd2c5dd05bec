-- Runs in order, job by job.
use Rattle.std.proofs.Common.{◌≡◌, ℕ, ◌+◌, ◌-◌, ◌<◌, inl, inr, Bool, true, false, List, [], ◌∷◌, ◌++◌, length, refl, sym, ap}
use Rattle.std.proofs.Common.{◌∙◌, subst, arith, append_assoc, MatchBool}
use Rattle.std.proofs.lemmas.List.{append-nil}
use Rattle.account_hooks.specs.declared.runs.Ran.{Ran}
use Rattle.account_hooks.specs.Drains.{Job, Run, ended_well, Follows, InOrder, NoneWell, EndsWell, run_of, runs_of}
use Rattle.account_hooks.specs.Laws.{Tried, FailsSome, AllTried, IsMadeFor}
use Rattle.account_hooks.proofs.Tries.{runs-snoc, none-snoc, length-snoc}

module _ (p : List ℕ) (t : ℕ) where
  made-none : (jobs : List Job) → IsMadeFor jobs p t []
  made-none jobs = record { tried = []; front = (jobs, refl); runs_are = refl; each = tt }

  tried-more : (a : Tried) (ts : List Tried) → EndsWell t a.ends → AllTried t ts → AllTried t (a ∷ ts)
  tried-more a [] well all = inl well
  tried-more a (u ∷ ts) well all = (well, all)

  made-more : (job : Job) (jobs : List Job) (ends : List Ran) (runs : List Run) → EndsWell t ends
      → IsMadeFor jobs p t runs → IsMadeFor (job ∷ jobs) p t (runs_of p job ends ++ runs)
  made-more job jobs ends runs well m =
      let a : Tried = record { job = job; ends = ends } in
      record {
        tried = a ∷ m.tried;
        front = (m.front.0, ap (λ js. job ∷ js) m.front.1);
        runs_are = ap (λ rs. runs_of p job ends ++ rs) m.runs_are;
        each = tried-more a m.tried well m.each;
      }

  made-fails : (job : Job) (jobs : List Job) (ends : List Ran) → FailsSome t ends
      → IsMadeFor (job ∷ jobs) p t (runs_of p job ends)
  made-fails job jobs ends fails = record {
    tried = (record { job = job; ends = ends }) ∷ [];
    front = (jobs, refl);
    runs_are = sym (append-nil (runs_of p job ends));
    each = inr fails;
  }

  -- what is shown of the runs after one
  abbrev Later : List Run → Type 0
  Later rs = (n : ℕ) (job : Job) (jobs : List Job) (failed : List Ran) → NoneWell failed → length failed + n ≡ t
      → Follows p t n (job ∷ jobs) rs → IsMadeFor (job ∷ jobs) p t (runs_of p job failed ++ rs)

  none-follow : (rs : List Run) → Follows p t t [] rs → IsMadeFor [] p t rs
  none-follow [] h = made-none []
  none-follow (r ∷ l) h = absurd h

  made-first : (rs : List Run) (jobs : List Job) → Follows p t t jobs rs → Later rs → IsMadeFor jobs p t rs
  made-first rs [] g later = none-follow rs g
  made-first rs (j ∷ js) g later = later t j js [] tt (omega arith) g

  made-go : (b : Bool) (run : Run) (rs : List Run) (n : ℕ) (job : Job) (jobs : List Job) (failed : List Ran)
      → NoneWell failed → length failed + n ≡ t → 0 < n → ended_well run.ended ≡ b
      → MatchBool b (Follows p t t jobs rs) (Follows p t (n - 1) (job ∷ jobs) rs) → Later rs
      → IsMadeFor (job ∷ jobs) p t (runs_of p job (failed ++ run.ended ∷ []) ++ rs)
  made-go true run rs n job jobs failed none few some is g later =
      made-more job jobs (failed ++ run.ended ∷ []) rs record {
        failed = failed;
        last = run.ended;
        is = refl;
        none = none;
        well = is;
        few = omega (arith, few, some);
      } (made-first rs jobs g later)
  made-go false run rs n job jobs failed none few some is g later =
      later (n - 1) job jobs (failed ++ run.ended ∷ []) (none-snoc failed run.ended none is)
      (let long = length-snoc failed run.ended in omega (arith, long, few, some)) g

  made-run : (run : Run) (rs : List Run) (n : ℕ) (job : Job) (jobs : List Job) (failed : List Ran) → NoneWell failed
      → length failed + n ≡ t → Follows p t n (job ∷ jobs) (run ∷ rs) → Later rs
      → IsMadeFor (job ∷ jobs) p t (runs_of p job failed ++ run ∷ rs)
  made-run run rs n job jobs failed none few f later =
      let here : run ≡ run_of p job run.ended =
      λ i. record { program = f.1 i; arguments = f.2 i; ended = run.ended } in
      let same : runs_of p job (failed ++ run.ended ∷ []) ++ rs ≡ runs_of p job failed ++ run ∷ rs =
      ap (λ l. l ++ rs) (runs-snoc p job failed run.ended)
      ∙ append_assoc (runs_of p job failed) (run_of p job run.ended ∷ []) rs
      ∙ ap (λ r. runs_of p job failed ++ r ∷ rs) (sym here) in
      subst (λ l. IsMadeFor (job ∷ jobs) p t l) same
      (made-go (ended_well run.ended) run rs n job jobs failed none few f.0 refl f.3 later)

  -- the runs of a job that failed so far, and those that follow
  made-on : (runs : List Run) (n : ℕ) (job : Job) (jobs : List Job) (failed : List Ran) → NoneWell failed
      → length failed + n ≡ t → Follows p t n (job ∷ jobs) runs
      → IsMadeFor (job ∷ jobs) p t (runs_of p job failed ++ runs)
  made-on [] n job jobs [] none few f = made-none (job ∷ jobs)
  made-on [] n job jobs (end ∷ ends) none few f =
      subst (λ rs. IsMadeFor (job ∷ jobs) p t rs) (sym (append-nil (runs_of p job (end ∷ ends))))
      (made-fails job jobs (end ∷ ends) record {
        none = none;
        some = omega arith;
        few = omega (arith, few);
      })
  made-on (run ∷ rs) n job jobs failed none few f =
      made-run run rs n job jobs failed none few f (made-on rs)

  pub made : (jobs : List Job) (runs : List Run) → InOrder jobs p t runs → IsMadeFor jobs p t runs
  made jobs [] f = made-none jobs
  made [] (run ∷ runs) f = absurd f
  made (job ∷ jobs) (run ∷ runs) f = made-on (run ∷ runs) t job jobs [] tt (omega arith) f
