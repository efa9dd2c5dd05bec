-- The jobs of a history, and what taking a change out tells of them.
use Rattle.std.proofs.Common.{◌≡◌, ℕ, zero, suc, ◌+◌, ◌-◌, ◌^◌, ◌<◌, ◌≤◌, List, [], ◌∷◌, ◌++◌, length, map, take, drop}
use Rattle.std.proofs.Common.{Some, None, refl, sym, ap, ◌∙◌, subst, arith}
use Rattle.std.specs.List.{slice_get}
use Rattle.std.proofs.Math.Nat.{le_refl}
use Rattle.std.proofs.lemmas.List.{append-nil, length_push}
use Rattle.account_hooks.specs.Drains.{Begins, IsNext, left, numbers, Job}
use Rattle.account_hooks.specs.declared.gate.HookedEnd.{HookedEnd}
use Rattle.account_hooks.specs.declared.gate.HookedEnd.TheVariants as ends
use Rattle.acct_config.specs.Spelled.{IsRightConfig}
use Rattle.acct_rows.specs.Rows.{Lists}
use Rattle.acct_rows.specs.Sound.{IsSoundRows}
use Rattle.acct_tables.specs.declared.row.OutRow.{OutRow}
use Rattle.acct_machine.specs.declared.entry.Entry.{Entry}
use Rattle.acct_machine.specs.declared.entry.Entry.TheVariants.{Opened, Called, Gone, Hooked}
use Rattle.acct_machine.specs.Gates.{IsGood, IsReady, Moves, JobsAreLeft, HooksAreTold, room_at}
use Rattle.acct_machine.specs.Hooking.{IsFirst, Hooks, HookCommits}
use Rattle.acct_machine.specs.Jobs.{arguments, job_of_out, jobs_of, jobs_at}
use Rattle.acct_machine.specs.Legal.{Legal}
use Rattle.acct_machine.specs.Machine.{state_of}
use Rattle.acct_machine.specs.Outbox.{has_hook, least_in}
use Rattle.acct_machine.specs.Outs.{added, outs_of, hooks_of, OutsAreLeft, OutsOnlyGrow}
use Rattle.acct_machine.specs.Shown.{Past, Keeping, Shown}
use Rattle.acct_machine.specs.State.{Start}
use Rattle.acct_machine.specs.Step.{state_at}

-- ---- jobs

drop-jobs : (n : ℕ) (r : Lists) (os : List OutRow) → drop n (jobs_of r os) ≡ jobs_of r (drop n os)
drop-jobs zero r os = refl
drop-jobs (suc n) r [] = refl
drop-jobs (suc n) r (o ∷ os) = drop-jobs n r os

jobs-append : (r : Lists) (os more : List OutRow) → jobs_of r (os ++ more) ≡ jobs_of r os ++ jobs_of r more
jobs-append r [] more = refl
jobs-append r (o ∷ os) more = ap (λ (jobs : List Job). job_of_out r o ∷ jobs) (jobs-append r os more)

numbers-are : (r : Lists) (os : List OutRow) → numbers (jobs_of r os) ≡ map (λ o. o.number) os
numbers-are r [] = refl
numbers-are r (o ∷ os) = ap (λ (ns : List ℕ). o.number ∷ ns) (numbers-are r os)

numbers-split : (n : ℕ) (os : List OutRow)
    → map (λ o. o.number) os ≡ map (λ o. o.number) (take n os) ++ map (λ o. o.number) (drop n os)
numbers-split zero os = refl
numbers-split (suc n) [] = refl
numbers-split (suc n) (o ∷ os) = ap (λ (ns : List ℕ). o.number ∷ ns) (numbers-split n os)

pub jobs-are-left : OutsAreLeft → JobsAreLeft
jobs-are-left law m good =
    let outs : List OutRow = outs_of m.start m.history in
    let n : ℕ = length (hooks_of m.history) in
    let by = law m.start m.history good.right good.sound good.legal in
    record {
      left = drop-jobs n m.start.rows outs ∙ ap (λ (os : List OutRow). jobs_of m.start.rows os) (sym by.left);
      in_front = (
        map (λ o. o.number) (drop n outs),
        numbers-are m.start.rows outs ∙ numbers-split n outs
            ∙ ap (λ (ns : List ℕ). ns ++ map (λ o. o.number) (drop n outs)) (sym by.gone),
      );
    }

-- the job of the first row of the outbox
abbrev job-with : ℕ → List (List ℕ) → Job
job-with number arguments = record { number = number; arguments = arguments }

same-job : (r : Lists) (o : OutRow) (job : Job) → job.number ≡ o.number → job.arguments ≡ arguments r o
    → job ≡ job_of_out r o
same-job r o job number is =
    ap (λ (n : ℕ). job-with n job.arguments) number ∙ ap (λ (l : List (List ℕ)). job-with o.number l) is

first-of : (r : Lists) (os : List OutRow) (o : OutRow) (job : Job) → slice_get os 0 ≡ Some o → job ≡ job_of_out r o
    → (rest : List Job) × (jobs_of r os ≡ job ∷ rest)
first-of r [] o job is same = absurd cc
first-of r (p ∷ os) o job is same =
    let first : p ≡ o = cc in (
      jobs_of r os,
      ap (λ (j : Job). j ∷ jobs_of r os) (ap (λ (x : OutRow). job_of_out r x) first ∙ sym same),
    )

-- it is the next one
pub next-job : JobsAreLeft → (m : Past) → IsGood m → (o : OutRow) (job : Job)
    → slice_get (state_of m).rows.outs 0 ≡ Some o → job.number ≡ o.number → job.arguments ≡ arguments m.start.rows o
    → IsNext (jobs_at m.start m.history) (hooks_of m.history) job
next-job law m good o job first number is =
    let by = first-of m.start.rows (state_of m).rows.outs o job first (same-job m.start.rows o job number is) in
    (by.0, (law m good).left ∙ by.1)

none-of : (r : Lists) (os : List OutRow) → slice_get os 0 ≡ None → jobs_of r os ≡ []
none-of r [] none = refl
none-of r (o ∷ os) none = absurd cc

pub no-job : JobsAreLeft → (m : Past) → IsGood m → slice_get (state_of m).rows.outs 0 ≡ None
    → left (jobs_at m.start m.history) (hooks_of m.history) ≡ []
no-job law m good none = (law m good).left ∙ none-of m.start.rows (state_of m).rows.outs none

-- ---- one number that is to leave

least-from : (r : Lists) (os : List OutRow) (job : Job) (rest : List Job) (number : ℕ) → jobs_of r os ≡ job ∷ rest
    → job.number ≡ number → least_in os ≡ Some number
least-from r [] job rest number is same = absurd cc
least-from r (o ∷ os) job rest number is same =
    let first : job_of_out r o ≡ job = cc in
    ap (λ (n : ℕ). Some n) (ap (λ (j : Job). j.number) first ∙ same)

-- the number of the next job is the first in the outbox
first-is : JobsAreLeft → (m : Past) → IsGood m → (job : Job) (number : ℕ)
    → IsNext (jobs_at m.start m.history) (hooks_of m.history) job → job.number ≡ number → IsFirst m number
first-is left m good job number next same =
    least-from m.start.rows (state_of m).rows.outs job next.0 number (sym (left m good).left ∙ next.1) same

hooks-few : (h : List Entry) → length (hooks_of h) ≤ length h
hooks-few [] = le_refl 0
hooks-few (Opened conn listener ∷ es) = let few = hooks-few es in omega (arith, few)
hooks-few (Called conn call verdict bytes ∷ es) = let few = hooks-few es in omega (arith, few)
hooks-few (Gone conn ∷ es) = let few = hooks-few es in omega (arith, few)
hooks-few (Hooked number ∷ es) = let few = hooks-few es in omega (arith, few)

fewer : (a b : ℕ) → b ≡ a + 1 → 2 ^ 64 - b ≤ 2 ^ 64 - a
fewer a b is = omega (arith, is)

nearer : (a b c : ℕ) → b ≡ a + 1 → b ≤ c → c < 2 ^ 64 → 2 ^ 64 - b < 2 ^ 64 - a
nearer a b c is few short = omega (arith, is, few, short)

-- nothing was entered
same-jobs : (old new : Past) → new ≡ old → Begins (jobs_at old.start old.history) (jobs_at new.start new.history)
same-jobs old new same = (
  [],
  ap (λ (m : Past). jobs_at m.start m.history) same ∙ sym (append-nil (jobs_at old.start old.history)),
)

same-room : (old new : Past) → new ≡ old → room_at new.history ≤ room_at old.history
same-room old new same = subst (λ (m : Past). room_at m.history ≤ room_at old.history) (sym same)
    (le_refl (room_at old.history))

pub hooks-are-told : JobsAreLeft → OutsOnlyGrow → HooksAreTold
hooks-are-told left grow old ends.Done number new good (first, entered) =
    let r : Lists = old.start.rows in
    let goes = grow old.start old.history (Hooked number ∷ []) in
    let gone : hooks_of new.history ≡ hooks_of old.history ++ number ∷ [] =
    ap (λ (m : Past). hooks_of m.history) entered ∙ goes.hooks in
    let longer : length (hooks_of new.history) ≡ length (hooks_of old.history) + 1 =
    ap (λ (ns : List ℕ). length ns) gone ∙ length_push (hooks_of old.history) number in
    record {
      gone = gone;
      past = λ job next same. tt;
      jobs = (
        jobs_of r (added (state_at old.start old.history) (Hooked number ∷ [])),
        ap (λ (m : Past). jobs_at m.start m.history) entered ∙ ap (λ (os : List OutRow). jobs_of r os) goes.outs
            ∙ jobs-append r (outs_of old.start old.history)
            (added (state_at old.start old.history) (Hooked number ∷ [])),
      );
      room = fewer (length (hooks_of old.history)) (length (hooks_of new.history)) longer;
      nearer = λ short done. nearer (length (hooks_of old.history)) (length (hooks_of new.history))
          (length new.history) longer (hooks-few new.history) short;
    }
hooks-are-told left grow old (ends.Past n) number new good (other, is, same) = record {
  gone = ap (λ (m : Past). hooks_of m.history) same;
  past = λ job next number_is. other (first-is left old good job number next number_is);
  jobs = same-jobs old new same;
  room = same-room old new same;
  nearer = λ short done. absurd cc;
}
hooks-are-told left grow old (ends.StoreFault n) number new good (first, same) = record {
  gone = ap (λ (m : Past). hooks_of m.history) same;
  past = λ job next number_is. tt;
  jobs = same-jobs old new same;
  room = same-room old new same;
  nearer = λ short done. absurd cc;
}
hooks-are-told left grow old ends.NoMemory number new good (first, same) = record {
  gone = ap (λ (m : Past). hooks_of m.history) same;
  past = λ job next number_is. tt;
  jobs = same-jobs old new same;
  room = same-room old new same;
  nearer = λ short done. absurd cc;
}

-- ---- what a call of the gate leaves

-- one number more was entered, or none
pub hook-moves : (old new : Shown) (answer : HookedEnd) (number : ℕ) → new.past.start ≡ old.past.start
    → Hooks old.past answer number new.past → HookCommits old.keeper answer new.keeper → Moves old new
hook-moves old new ends.Done number start hooks commits = record {
  start = start;
  more = number ∷ [];
  entries = ap (λ (m : Past). m.history) hooks.1;
  later = subst (λ (n : ℕ). old.keeper.faults ≤ n) (sym commits) (le_refl old.keeper.faults);
}
hook-moves old new (ends.Past n) number start hooks commits = record {
  start = start;
  more = [];
  entries = ap (λ (m : Past). m.history) hooks.2 ∙ sym (append-nil old.past.history);
  later = subst (λ (k : Keeping). old.keeper.faults ≤ k.faults) (sym commits) (le_refl old.keeper.faults);
}
hook-moves old new (ends.StoreFault n) number start hooks commits = record {
  start = start;
  more = [];
  entries = ap (λ (m : Past). m.history) hooks.1 ∙ sym (append-nil old.past.history);
  later = commits.3;
}
hook-moves old new ends.NoMemory number start hooks commits = record {
  start = start;
  more = [];
  entries = ap (λ (m : Past). m.history) hooks.1 ∙ sym (append-nil old.past.history);
  later = subst (λ (k : Keeping). old.keeper.faults ≤ k.faults) (sym commits) (le_refl old.keeper.faults);
}

-- the gate stays ready
pub hook-ready : JobsAreLeft → (old new : Past) → IsReady old → new.start ≡ old.start
    → Legal new.start new.history → IsReady new
hook-ready law old new ready start legal =
    let good : IsGood new = record {
      right = subst (λ (s : Start). IsRightConfig s.config) (sym start) ready.good.right;
      sound = subst (λ (s : Start). IsSoundRows s.rows) (sym start) ready.good.sound;
      legal = legal;
    } in record {
      good = good;
      hook = ap (λ (s : Start). has_hook s.config) start ∙ ready.hook;
      in_front = (law new good).in_front;
    }
