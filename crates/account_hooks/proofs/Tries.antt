-- One run more of a job.
use Rattle.std.proofs.Common.{◌≡◌, ◌≤◌, ℕ, ◌+◌, ◌-◌, ◌^◌, Bool, true, false, List, [], ◌∷◌, ◌++◌, length, refl, sym, ap}
use Rattle.std.proofs.Common.{◌∙◌, subst, arith, append_assoc, Option, Some, None}
use Rattle.std.specs.Prelude.{min, not}
use Rattle.std.proofs.lemmas.List.{append-nil}
use Rattle.acct_keeper.specs.Faults.{Rose, faults_after}
use Rattle.account_hooks.specs.declared.runs.Ran.{Ran}
use Rattle.account_hooks.specs.Drains.{Job, Run, ended_well, Adds, NoneWell, run_of, runs_of}

pub adds-none : (told : Option (List Run)) → Adds told [] told
adds-none None = tt
adds-none (Some runs) = sym (append-nil runs)

pub adds-then : (told one two : Option (List Run)) (a b : List Run) → Adds told a one → Adds one b two
    → Adds told (a ++ b) two
adds-then told one None a b before after = tt
adds-then told None (Some now) a b before after = absurd after
adds-then None (Some one) (Some now) a b before after = absurd before
adds-then (Some old) (Some one) (Some now) a b before after = after ∙ ap (λ (l : List Run). l ++ b) before
    ∙ append_assoc old a b

pub runs-snoc : (p : List ℕ) (job : Job) (ends : List Ran) (end : Ran)
    → runs_of p job (ends ++ end ∷ []) ≡ runs_of p job ends ++ run_of p job end ∷ []
runs-snoc p job [] end = refl
runs-snoc p job (e ∷ ends) end = ap (λ (l : List Run). run_of p job e ∷ l) (runs-snoc p job ends end)

pub none-snoc : (ends : List Ran) (end : Ran) → NoneWell ends → ended_well end ≡ false → NoneWell (ends ++ end ∷ [])
none-snoc [] end none bad = (bad, tt)
none-snoc (e ∷ ends) end none bad = (none.0, none-snoc ends end none.1 bad)

pub length-snoc : {A : Type 0} (xs : List A) (x : A) → length (xs ++ x ∷ []) ≡ length xs + 1
length-snoc {A} [] x = omega arith
length-snoc (y ∷ xs) x = let rest = length-snoc xs x in omega (arith, rest)

pub tell-one : (told one two : Option (List Run)) (p : List ℕ) (job : Job) (texts : List (List ℕ)) (ends : List Ran)
    (end : Ran) → texts ≡ job.arguments → Adds told (runs_of p job ends) one
    → Adds one ((record { program = p; arguments = texts; ended = end }) ∷ []) two
    → Adds told (runs_of p job (ends ++ end ∷ [])) two
tell-one told one two p job texts ends end same before after =
    subst (λ (l : List Run). Adds told l two)
    (ap (λ (l : List (List ℕ)). runs_of p job ends ++ (record { program = p; arguments = l; ended = end }) ∷ []) same
    ∙ sym (runs-snoc p job ends end))
    (adds-then told one two (runs_of p job ends) ((record { program = p; arguments = texts; ended = end }) ∷ []) before
    after)

pub rose-later : (a b c : ℕ) → Rose a b → b ≤ c → Rose a c
rose-later a b c rose later = omega (arith, rose, later)

pub rose-since : (a b c : ℕ) → a ≤ b → Rose b c → Rose a c
rose-since a b c before rose = omega (arith, before, rose)

-- a run that didn't end with 0 raised the count
pub failed-rose : (well : Bool) (before now : ℕ) → now ≡ faults_after (not well) before → well ≡ false
    → Rose before now
failed-rose false before now is bad = let up : now ≡ min (before + 1) (2 ^ 64 - 1) = is in omega (arith, up)
failed-rose true before now is bad = cc
