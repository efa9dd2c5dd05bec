-- Runs in order, one after another.
use Rattle.std.proofs.Common.{◌≡◌, ◌≤◌, ◌<◌, ℕ, ◌-◌, Bool, true, false, cond, List, [], ◌∷◌, ◌++◌, length, drop, refl, sym, ap}
use Rattle.std.proofs.Common.{◌∙◌, subst, arith, MatchBool}
use Rattle.account_hooks.specs.declared.runs.Ran.{Ran}
use Rattle.account_hooks.specs.Drains.{Job, Run, ended_well, Follows, ended, NoneWell, EndsWell, times_left, run_of}
use Rattle.account_hooks.specs.Drains.{runs_of}
use Rattle.account_hooks.proofs.Tries.{runs-snoc}

-- the jobs that are left after these runs
abbrev pub behind : List Job → List Run → List Job
behind jobs [] = jobs
behind [] (run ∷ runs) = []
behind (job ∷ jobs) (run ∷ runs) = cond (ended_well run.ended) (behind jobs runs) (behind (job ∷ jobs) runs)

match-map : (b : Bool) (P Q R S : Type 0) → (P → R) → (Q → S) → MatchBool b P Q → MatchBool b R S
match-map true P Q R S f g m = f m
match-map false P Q R S f g m = g m

match-cond : {A : Type 0} (b : Bool) (P Q : Type 0) (x y u v : A) → (P → x ≡ u) → (Q → y ≡ v) → MatchBool b P Q
    → cond b x y ≡ cond b u v
match-cond true P Q x y u v f g m = f m
match-cond false P Q x y u v f g m = g m

-- ---- more jobs

module _ (p : List ℕ) (t : ℕ) where
  pub follows-more : (n : ℕ) (jobs more : List Job) (runs : List Run) → Follows p t n jobs runs
      → Follows p t n (jobs ++ more) runs
  follows-more n jobs more [] f = tt
  follows-more n [] more (run ∷ runs) f = absurd f
  follows-more n (job ∷ jobs) more (run ∷ runs) f = (
    f.0,
    f.1,
    f.2,
    match-map (ended_well run.ended) (Follows p t t jobs runs) (Follows p t (n - 1) (job ∷ jobs) runs)
        (Follows p t t (jobs ++ more) runs) (Follows p t (n - 1) (job ∷ (jobs ++ more)) runs)
        (follows-more t jobs more runs) (follows-more (n - 1) (job ∷ jobs) more runs) f.3,
  )

  pub ended-more : (n : ℕ) (jobs more : List Job) (runs : List Run) → Follows p t n jobs runs
      → ended (jobs ++ more) runs ≡ ended jobs runs
  ended-more n jobs more [] f = refl
  ended-more n [] more (run ∷ runs) f = absurd f
  ended-more n (job ∷ jobs) more (run ∷ runs) f =
      match-cond (ended_well run.ended) (Follows p t t jobs runs) (Follows p t (n - 1) (job ∷ jobs) runs)
      (job.number ∷ ended (jobs ++ more) runs) (ended (job ∷ (jobs ++ more)) runs) (job.number ∷ ended jobs runs)
      (ended (job ∷ jobs) runs) (λ h. ap (λ l. job.number ∷ l) (ended-more t jobs more runs h))
      (λ h. ended-more (n - 1) (job ∷ jobs) more runs h) f.3

  -- ---- more runs

  split : (b : Bool) (P Q R S : Type 0) (F : ℕ → List Job → Type 0) (n m : ℕ) (js ks : List Job)
      → (P → F n js → R) → (Q → F m ks → S) → MatchBool b P Q → F (cond b n m) (cond b js ks) → MatchBool b R S
  split true P Q R S F n m js ks f g h k = f h k
  split false P Q R S F n m js ks f g h k = g h k

  pub follows-then : (n : ℕ) (jobs : List Job) (r s : List Run) → Follows p t n jobs r
      → Follows p t (times_left t n r) (behind jobs r) s → Follows p t n jobs (r ++ s)
  follows-then n jobs [] s f g = g
  follows-then n [] (run ∷ r) s f g = absurd f
  follows-then n (job ∷ jobs) (run ∷ r) s f g = (
    f.0,
    f.1,
    f.2,
    split (ended_well run.ended) (Follows p t t jobs r) (Follows p t (n - 1) (job ∷ jobs) r)
        (Follows p t t jobs (r ++ s)) (Follows p t (n - 1) (job ∷ jobs) (r ++ s)) (λ m js. Follows p t m js s)
        (times_left t t r) (times_left t (n - 1) r) (behind jobs r) (behind (job ∷ jobs) r)
        (follows-then t jobs r s) (follows-then (n - 1) (job ∷ jobs) r s) f.3 g,
  )

  cond-then : (b : Bool) (P Q : Type 0) (x : ℕ) (e d a c : List ℕ) (E : List Job → List ℕ) (js ks : List Job)
      → (P → e ≡ a ++ E js) → (Q → d ≡ c ++ E ks) → MatchBool b P Q
      → cond b (x ∷ e) d ≡ cond b (x ∷ a) c ++ E (cond b js ks)
  cond-then true P Q x e d a c E js ks f g h = ap (λ l. x ∷ l) (f h)
  cond-then false P Q x e d a c E js ks f g h = g h

  pub ended-then : (n : ℕ) (jobs : List Job) (r s : List Run) → Follows p t n jobs r
      → ended jobs (r ++ s) ≡ ended jobs r ++ ended (behind jobs r) s
  ended-then n jobs [] s f = refl
  ended-then n [] (run ∷ r) s f = absurd f
  ended-then n (job ∷ jobs) (run ∷ r) s f =
      cond-then (ended_well run.ended) (Follows p t t jobs r) (Follows p t (n - 1) (job ∷ jobs) r) job.number
      (ended jobs (r ++ s)) (ended (job ∷ jobs) (r ++ s)) (ended jobs r) (ended (job ∷ jobs) r)
      (λ js. ended js s) (behind jobs r) (behind (job ∷ jobs) r) (ended-then t jobs r s)
      (ended-then (n - 1) (job ∷ jobs) r s) f.3

  cond-times : (b : Bool) (x y n m : ℕ) (F : ℕ → ℕ) → x ≡ F n → y ≡ F m → cond b x y ≡ F (cond b n m)
  cond-times true x y n m F f g = f
  cond-times false x y n m F f g = g

  pub times-then : (n : ℕ) (r s : List Run) → times_left t n (r ++ s) ≡ times_left t (times_left t n r) s
  times-then n [] s = refl
  times-then n (run ∷ r) s =
      cond-times (ended_well run.ended) (times_left t t (r ++ s)) (times_left t (n - 1) (r ++ s)) (times_left t t r)
      (times_left t (n - 1) r) (λ m. times_left t m s) (times-then t r s) (times-then (n - 1) r s)

  cond-drop : (b : Bool) (P Q : Type 0) (js ks : List Job) (x : ℕ) (e d : List ℕ) (job : Job) (jobs : List Job)
      → (P → js ≡ drop (length e) jobs) → (Q → ks ≡ drop (length d) (job ∷ jobs)) → MatchBool b P Q
      → cond b js ks ≡ drop (length (cond b (x ∷ e) d)) (job ∷ jobs)
  cond-drop true P Q js ks x e d job jobs f g h = f h
  cond-drop false P Q js ks x e d job jobs f g h = g h

  pub behind-drop : (n : ℕ) (jobs : List Job) (runs : List Run) → Follows p t n jobs runs
      → behind jobs runs ≡ drop (length (ended jobs runs)) jobs
  behind-drop n jobs [] f = refl
  behind-drop n [] (run ∷ runs) f = absurd f
  behind-drop n (job ∷ jobs) (run ∷ runs) f =
      cond-drop (ended_well run.ended) (Follows p t t jobs runs) (Follows p t (n - 1) (job ∷ jobs) runs)
      (behind jobs runs) (behind (job ∷ jobs) runs) job.number (ended jobs runs) (ended (job ∷ jobs) runs) job jobs
      (behind-drop t jobs runs) (behind-drop (n - 1) (job ∷ jobs) runs) f.3

  -- ---- the runs of one job

  match-false : (b : Bool) (P Q : Type 0) → b ≡ false → Q → MatchBool b P Q
  match-false b P Q is q = subst (λ (c : Bool). MatchBool c P Q) (sym is) q

  match-true : (b : Bool) (P Q : Type 0) → b ≡ true → P → MatchBool b P Q
  match-true b P Q is q = subst (λ (c : Bool). MatchBool c P Q) (sym is) q

  cond-false : {A : Type 0} (b : Bool) (x y : A) → b ≡ false → cond b x y ≡ y
  cond-false b x y is = ap (λ c. cond c x y) is

  cond-true : {A : Type 0} (b : Bool) (x y : A) → b ≡ true → cond b x y ≡ x
  cond-true b x y is = ap (λ c. cond c x y) is

  pub fails-follow : (n : ℕ) (job : Job) (rest : List Job) (ends : List Ran) → NoneWell ends → length ends ≤ n
      → Follows p t n (job ∷ rest) (runs_of p job ends)
  fails-follow n job rest [] none few = tt
  fails-follow n job rest (end ∷ ends) none few = (
    omega (arith, few),
    refl,
    refl,
    match-false (ended_well end) (Follows p t t rest (runs_of p job ends))
        (Follows p t (n - 1) (job ∷ rest) (runs_of p job ends)) none.0
        (fails-follow (n - 1) job rest ends none.1 (omega (arith, few))),
  )

  pub fails-times : (n : ℕ) (job : Job) (ends : List Ran) → NoneWell ends
      → times_left t n (runs_of p job ends) ≡ n - length ends
  fails-times n job [] none = omega arith
  fails-times n job (end ∷ ends) none =
      let rest = fails-times (n - 1) job ends none.1 in
      let one = cond-false (ended_well end) (times_left t t (runs_of p job ends))
      (times_left t (n - 1) (runs_of p job ends)) none.0 in
      let last : n - 1 - length ends ≡ n - (length (end ∷ ends)) = omega arith in one ∙ rest ∙ last

  pub fails-behind : (job : Job) (rest : List Job) (ends : List Ran) → NoneWell ends
      → behind (job ∷ rest) (runs_of p job ends) ≡ job ∷ rest
  fails-behind job rest [] none = refl
  fails-behind job rest (end ∷ ends) none =
      cond-false (ended_well end) (behind rest (runs_of p job ends)) (behind (job ∷ rest) (runs_of p job ends)) none.0
      ∙ fails-behind job rest ends none.1

  pub fails-ended : (job : Job) (rest : List Job) (ends : List Ran) → NoneWell ends
      → ended (job ∷ rest) (runs_of p job ends) ≡ []
  fails-ended job rest [] none = refl
  fails-ended job rest (end ∷ ends) none =
      cond-false (ended_well end) (job.number ∷ ended rest (runs_of p job ends))
      (ended (job ∷ rest) (runs_of p job ends)) none.0
      ∙ fails-ended job rest ends none.1

  -- a last run that ends with 0
  pub well-follows : (n : ℕ) (job : Job) (rest : List Job) (last : Ran) → ended_well last ≡ true → 0 < n
      → Follows p t n (job ∷ rest) (run_of p job last ∷ [])
  well-follows n job rest last well some = (
    some,
    refl,
    refl,
    match-true (ended_well last) (Follows p t t rest []) (Follows p t (n - 1) (job ∷ rest) []) well tt,
  )

  pub job-follows : (job : Job) (rest : List Job) (ends : List Ran) → EndsWell t ends
      → Follows p t t (job ∷ rest) (runs_of p job ends)
  job-follows job rest ends w =
      let fs = runs_of p job w.failed in
      let few : length w.failed ≤ t = (let f = w.few in omega (arith, f)) in
      let some : 0 < times_left t t fs = subst (λ n. 0 < n) (sym (fails-times t job w.failed w.none))
      (let f = w.few in omega (arith, f)) in
      let both : Follows p t t (job ∷ rest) (fs ++ run_of p job w.last ∷ []) = follows-then t (job ∷ rest) fs
      (run_of p job w.last ∷ []) (fails-follow t job rest w.failed w.none few)
      (subst (λ js. Follows p t (times_left t t fs) js (run_of p job w.last ∷ []))
      (sym (fails-behind job rest w.failed w.none)) (well-follows (times_left t t fs) job rest w.last w.well some))
      in
      subst (λ rs. Follows p t t (job ∷ rest) rs)
      (sym (ap (λ es. runs_of p job es) w.is ∙ runs-snoc p job w.failed w.last)) both

  pub job-ended : (job : Job) (rest : List Job) (ends : List Ran) → EndsWell t ends
      → ended (job ∷ rest) (runs_of p job ends) ≡ job.number ∷ []
  job-ended job rest ends w =
      let fs = runs_of p job w.failed in
      let few : length w.failed ≤ t = (let f = w.few in omega (arith, f)) in
      ap (λ es. ended (job ∷ rest) (runs_of p job es)) w.is
      ∙ ap (λ rs. ended (job ∷ rest) rs) (runs-snoc p job w.failed w.last)
      ∙ ended-then t (job ∷ rest) fs (run_of p job w.last ∷ []) (fails-follow t job rest w.failed w.none few)
      ∙ ap (λ (l : List ℕ). l ++ ended (behind (job ∷ rest) fs) (run_of p job w.last ∷ []))
      (fails-ended job rest w.failed w.none)
      ∙ ap (λ js. ended js (run_of p job w.last ∷ [])) (fails-behind job rest w.failed w.none)
      ∙ cond-true (ended_well w.last) (job.number ∷ []) [] w.well

  pub job-times : (job : Job) (ends : List Ran) → EndsWell t ends → times_left t t (runs_of p job ends) ≡ t
  job-times job ends w =
      let fs = runs_of p job w.failed in
      ap (λ es. times_left t t (runs_of p job es)) w.is
      ∙ ap (λ rs. times_left t t rs) (runs-snoc p job w.failed w.last)
      ∙ times-then t fs (run_of p job w.last ∷ [])
      ∙ cond-true (ended_well w.last) t (times_left t t fs - 1) w.well
