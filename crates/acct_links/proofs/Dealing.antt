-- Doors that are made by plans one after another.
use Rattle.std.proofs.Common.{◌≡◌, ℕ, zero, suc, arith, ◌∷◌, ◌+◌, ◌-◌, ◌<◌, List, [], ◌++◌, drop, length, All}
use Rattle.std.proofs.Common.{refl, sym, ◌∙◌, ap, append_assoc, subst, false, Result, Ok, Err, IfOk, IfErr}
use Rattle.std.proofs.lemmas.List.Elements.{All-nil, All-cons, All-head}
use Rattle.std.proofs.lemmas.Bool.{false≢true}
use Rattle.acct_keeper.specs.Faults.{KeepCause}
use Rattle.acct_keeper.specs.Memory.{is_fault}
use Rattle.acct_keeper.specs.declared.keeper.KeepError.{KeepError}
use Rattle.acct_keeper.specs.declared.keeper.KeepError.TheVariants.{Failed, NoMemory}
use Rattle.acct_links.specs.MemoryDoors.{dealt, first_or}

module _ {P D : Type 0} (make : P → D) (other : P) where
  -- one door of several
  pub dealt-next : (left : ℕ) (plans : List P) → 0 < left
      → dealt make other left plans ≡ make (first_or other plans) ∷ dealt make other (left - 1) (drop 1 plans)
  dealt-next zero plans some = absurd (omega arith)
  dealt-next (suc n) plans some = let same : suc n - 1 ≡ n = omega arith in rw same refl

  -- a door more
  pub dealt-more : (workers i : ℕ) (doors more all : List D) (plans rest : List P)
      → i < workers → doors ++ dealt make other (workers - i) plans ≡ all → rest ≡ drop 1 plans
      → more ≡ doors ++ make (first_or other plans) ∷ [] → more ++ dealt make other (workers - (i + 1)) rest ≡ all
  dealt-more workers i doors more all plans rest within so_far is_rest is_more =
      let left : workers - i - 1 ≡ workers - (i + 1) = omega arith in
      let later = dealt make other (workers - (i + 1)) (drop 1 plans) in
      let next : dealt make other (workers - i) plans ≡ make (first_or other plans) ∷ later =
      dealt-next (workers - i) plans (omega arith)
      ∙ ap (λ (n : ℕ). make (first_or other plans) ∷ dealt make other n (drop 1 plans)) left in
      ap (λ (ds : List D). ds ++ dealt make other (workers - (i + 1)) rest) is_more
      ∙ ap (λ (ps : List P). (doors ++ make (first_or other plans) ∷ []) ++ dealt make other (workers - (i + 1)) ps)
      is_rest
      ∙ append_assoc doors (make (first_or other plans) ∷ []) later
      ∙ ap (λ (ds : List D). doors ++ ds) (sym next)
      ∙ so_far

  -- what holds of the door of each plan holds of all that are made
  pub dealt-each : (Q : D → Type 0) (workers : ℕ) (plans : List P) → ((plan : P) → Q (make plan))
      → All Q (dealt make other workers plans)
  dealt-each Q zero plans each = All-nil Q
  dealt-each Q (suc n) plans each =
      All-cons Q (make (first_or other plans)) (dealt make other n (drop 1 plans)) (each (first_or other plans))
      (dealt-each Q n (drop 1 plans) each)

  pub length-dealt : (workers : ℕ) (plans : List P) → length (dealt make other workers plans) ≡ workers
  length-dealt zero plans = refl
  length-dealt (suc n) plans = ap suc (length-dealt n (drop 1 plans))

-- what holds of every plan, and of another one, holds of the first
pub first-has : {P : Type 0} (Q : P → Type 0) (other : P) (plans : List P) → Q other → All Q plans
    → Q (first_or other plans)
first-has Q other [] of_other each = of_other
first-has Q other (plan ∷ plans) of_other each = All-head Q plan plans each

-- what holds of the doors that were made holds of those that are given
pub given-are : {V D E : Type 0} (result : Result V E) (items : V → List D) (Q : List D → Type 0) (made : List D)
    → Q made → IfOk result (λ given. items given ≡ made) → IfOk result (λ given. Q (items given))
given-are (Ok given) items Q made holds same = subst Q (sym same) holds
given-are (Err e) items Q made holds same = tt

-- what isn't a fault has its cause
pub free-cause : {T : Type 0} (result : Result T KeepError) (before now : ℕ) → is_fault result ≡ false
    → IfErr result (KeepCause before now)
free-cause (Ok x) before now free = tt
free-cause (Err Failed) before now free = absurd (false≢true (sym free))
free-cause (Err NoMemory) before now free = tt
