-- The home lane: what the first pass finds, leaves and knows of the changes that were taken out.
use Rattle.std.proofs.Common.{◌≡◌, ℕ, zero, suc, ◌+◌, ◌-◌, ◌^◌, ◌<◌, ◌≤◌, ◌⊎◌, inl, inr, ⊎_elim, List, [], ◌∷◌, ◌++◌}
use Rattle.std.proofs.Common.{length, map, refl, sym, ap, ◌∙◌, subst, arith, Option, IfOk}
use Rattle.std.specs.declared.result.Result.{Result}
use Rattle.std.specs.Prelude.{min}
use Rattle.std.proofs.lemmas.List.{append-nil}
use Rattle.atomic_table.proofs.Lists.{at_longer, at_last}
use Rattle.hist_lock.specs.Lanes.{Mark, home, names_home}
use Rattle.hist_lock.specs.Histories.{At, In, Appends, merged}
use Rattle.hist_lock.specs.Views.{IsFirst, IsOfOwnLane, Finds, Turn}
use Rattle.hist_lock.specs.declared.view.View.{View}
use Rattle.hist_lock.proofs.Places.{in_merged}
use Rattle.account_hooks.specs.Drains.{Begins, IsNext, IsFirstLeft, IfFault, LeavesBy, numbers, Job}
use Rattle.account_hooks.specs.declared.gate.HookedEnd.{HookedEnd}
use Rattle.account_hooks.specs.declared.gate.HookedEnd.TheVariants as ends
use Rattle.account_hooks.specs.declared.runs.HookJob.{HookJob}
use Rattle.account_hooks.proofs.Draining.{next-more}
use Rattle.acct_rows.specs.Rows.{Lists}
use Rattle.acct_tables.specs.declared.row.OutRow.{OutRow}
use Rattle.acct_machine.specs.Gates.{IsGood, JobsAreLeft, HookTold, RoseTo, room_at}
use Rattle.acct_machine.specs.Hooking.{Hooks, HookCommits}
use Rattle.acct_machine.specs.Jobs.{job_of_out, jobs_of, jobs_at}
use Rattle.acct_machine.specs.Legal.{Legal}
use Rattle.acct_machine.specs.Outs.{added, outs_of, hooks_of, OutsOnlyGrow}
use Rattle.acct_machine.specs.Shown.{Past, Keeping}
use Rattle.acct_machine.specs.State.{Start}
use Rattle.acct_machine.specs.Step.{state_at}
use Rattle.acct_machine.specs.declared.entry.Entry.{Entry}
use Rattle.acct_machine.specs.declared.entry.Entry.TheVariants as entry
use Rattle.link_sessions.specs.Turns.{shown}
use Rattle.link_sessions.specs.Transcript.{IsFrontOf}
use Rattle.door_workers.specs.Hooking.{MachineLooks, MachineHooks, KnowsOwn, KnowsOutbox, TakesOut, TakesInOthers}
use Rattle.door_workers.specs.steps.Lanes.{lane_of}
use Rattle.door_workers.specs.steps.Moving.{front-same, front-then}
use Rattle.door_workers.specs.steps.Passing.{OwnsLanes}
use Rattle.door_workers.specs.declared.kept.Begun.{Begun}
use Rattle.door_workers.proofs.Passing.{at-behind, at-within, own-same, own-more, in-longer, not-home}

-- ---- histories

none-hooked : (es : List Entry) → ((p : ℕ) (e : Entry) → At es p e → lane_of e ≡ home → ⊥) → hooks_of es ≡ []
none-hooked [] none = refl
none-hooked (entry.Opened conn listener ∷ es) none = none-hooked es (λ p e at. none (suc p) e at)
none-hooked (entry.Called conn call verdict bytes ∷ es) none = none-hooked es (λ p e at. none (suc p) e at)
none-hooked (entry.Gone conn ∷ es) none = none-hooked es (λ p e at. none (suc p) e at)
none-hooked (entry.Hooked number ∷ es) none = absurd (none zero (entry.Hooked number) refl refl)

-- where a history goes on by entries that are known before it does if they are of the home lane, no more numbers left
pub hooks-on : OutsOnlyGrow → (start : Start) (a b : List Entry) → IsFrontOf a b
    → ((p : ℕ) (e : Entry) → At b p e → lane_of e ≡ home → At a p e) → hooks_of b ≡ hooks_of a
hooks-on grow start a b front homes =
    let rest : List Entry = front.0 in
    let none : hooks_of rest ≡ [] = none-hooked rest (λ p e at lane.
    let there : At b (length a + p) e = subst (λ (l : List Entry). At l (length a + p) e) (sym front.1)
    (at-behind a rest p e at) in
    let known = at-within a (length a + p) e (homes (length a + p) e there lane) in
    omega (arith, known)) in
    ap hooks_of front.1 ∙ (grow start a rest).hooks ∙ ap (λ (l : List ℕ). hooks_of a ++ l) none
    ∙ append-nil (hooks_of a)

jobs-append : (r : Lists) (os more : List OutRow) → jobs_of r (os ++ more) ≡ jobs_of r os ++ jobs_of r more
jobs-append r [] more = refl
jobs-append r (o ∷ os) more = ap (λ (jobs : List Job). job_of_out r o ∷ jobs) (jobs-append r os more)

-- where a history goes on, so do its jobs
pub jobs-on : OutsOnlyGrow → (start : Start) (a b : List Entry) → IsFrontOf a b
    → Begins (jobs_at start a) (jobs_at start b)
jobs-on grow start a b front = (
  jobs_of start.rows (added (state_at start a) front.0),
  ap (λ (h : List Entry). jobs_at start h) front.1
      ∙ ap (λ (os : List OutRow). jobs_of start.rows os) (grow start a front.0).outs
      ∙ jobs-append start.rows (outs_of start a) (added (state_at start a) front.0),
)

-- ---- what the first pass finds

home-own : (v : View Begun Entry) (m : Mark) → m ≡ home → IsFirst v → IsOfOwnLane lane_of v m
home-own v m is first = subst (λ (n : Mark). IsOfOwnLane lane_of v n) (sym is) first

-- each change that was taken out of a history that the first pass finds is known to it: no other pass took one out
pub hooks-found : OutsOnlyGrow → (start : Start) (v : View Begun Entry) (h : List Entry) → KnowsOutbox start v
    → Finds lane_of v h → hooks_of h ≡ hooks_of v.known
hooks-found grow start v h knows finds = hooks-on grow start v.known h finds.known (λ p e at lane.
    knows.own p e (finds.lanes p e at (home-own v (lane_of e) lane knows.first)))

-- the next job is the next in what a turn finds
next-found : OutsOnlyGrow → (start : Start) (v : View Begun Entry) (h : List Entry) (job : Job) → KnowsOutbox start v
    → Finds lane_of v h → IsNext (jobs_at start v.known) (hooks_of v.known) job
    → IsNext (jobs_at start h) (hooks_of h) job
next-found grow start v h job knows finds next =
    let grown = jobs-on grow start v.known h finds.known in
    let more : IsNext (jobs_at start h) (hooks_of v.known) job =
    subst (λ (js : List Job). IsNext js (hooks_of v.known) job) (sym grown.1)
    (next-more (hooks_of v.known) (jobs_at start v.known) grown.0 job knows.ready.in_front next) in
    subst (λ (ns : List ℕ). IsNext (jobs_at start h) ns job) (sym (hooks-found grow start v h knows finds)) more

-- ---- what a turn of the first pass leaves

-- what the pass knows after a turn has its own entries
pub turn-own : {does : List Entry → List Entry → Type 0} (v w : View Begun Entry) (t : Turn lane_of does v w)
    → KnowsOwn w
turn-own v w t p e i = subst (λ (l : List Entry). At l p e) (sym t.known) (⊎_elim
    (λ (is : t.after ≡ t.before). subst (λ (l : List Entry). At l p e) (sym is)
    (t.finds.own p e (subst (λ (own : List (ℕ × Entry)). In own p e) (own-same v w t is) i)))
    (λ (more : (d : Entry) × (t.after ≡ t.before ++ d ∷ [])). subst (λ (l : List Entry). At l p e) (sym more.1)
    (⊎_elim
    (λ (old : In v.own p e). at_longer t.before (more.0 ∷ []) p e (t.finds.own p e old))
    (λ (new : (length t.before, more.0) ≡ (p, e)).
    let P : ℕ × Entry → Type 0 = λ y. At (t.before ++ more.0 ∷ []) y.0 y.1 in subst P new
    (at_last t.before more.0 (length t.before) refl))
    (in-longer v.own (length t.before, more.0) p e
    (subst (λ (own : List (ℕ × Entry)). In own p e) (own-more v w t more.0 more.1) i))))
    t.appends)

pub knows-after : {does : List Entry → List Entry → Type 0} → JobsAreLeft → (start : Start) (v w : View Begun Entry)
    (t : Turn lane_of does v w) → KnowsOutbox start v → IsGood (shown start t.before) → Legal start t.after
    → KnowsOutbox start w
knows-after left start v w t knows found legal =
    let good : IsGood (shown start w.known) = record {
      right = found.right;
      sound = found.sound;
      legal = subst (λ (h : List Entry). Legal start h) (sym t.known) legal;
    } in
    record {
      first = t.same.number ∙ knows.first;
      ready = record {
        good = good;
        hook = knows.ready.hook;
        in_front = (left (shown start w.known) good).in_front;
      };
      own = turn-own v w t;
    }

-- nothing was appended
pub takes-same : {does : List Entry → List Entry → Type 0} (v w : View Begun Entry) (t : Turn lane_of does v w)
    → t.after ≡ t.before → TakesOut v w
takes-same v w t is =
    let own = own-same v w t is in record {
      same = t.same;
      grows = t.grows;
      kept = λ p e i. subst (λ (l : List (ℕ × Entry)). In l p e) (sym own) i;
      more = λ p e i. inl (subst (λ (l : List (ℕ × Entry)). In l p e) own i);
    }

-- a change was taken out
pub takes-one : {does : List Entry → List Entry → Type 0} (v w : View Begun Entry) (t : Turn lane_of does v w)
    (number : ℕ) → t.after ≡ t.before ++ entry.Hooked number ∷ [] → TakesOut v w
takes-one v w t number is =
    let x : ℕ × Entry = (length t.before, entry.Hooked number) in
    let own = own-more v w t (entry.Hooked number) is in record {
      same = t.same;
      grows = t.grows;
      kept = λ p e i. subst (λ (l : List (ℕ × Entry)). In l p e) (sym own)
          (i.0, at_longer v.own (x ∷ []) i.0 (p, e) i.1);
      more = λ p e i. ⊎_elim (λ (old : In v.own p e). inl old)
          (λ (new : x ≡ (p, e)). inr (ap (λ (y : ℕ × Entry). lane_of y.1) (sym new)))
          (in-longer v.own x p e (subst (λ (l : List (ℕ × Entry)). In l p e) own i));
    }

pub takes-by : {does : List Entry → List Entry → Type 0} (start : Start) (v w : View Begun Entry)
    (t : Turn lane_of does v w) (answer : HookedEnd) (number : ℕ)
    → Hooks (shown start t.before) answer number (shown start t.after) → TakesOut v w
takes-by start v w t ends.Done number is = takes-one v w t number (ap (λ (m : Past). m.history) is.1)
takes-by start v w t (ends.Past first) number is = takes-same v w t (ap (λ (m : Past). m.history) is.2)
takes-by start v w t (ends.StoreFault count) number is = takes-same v w t (ap (λ (m : Past). m.history) is.1)
takes-by start v w t ends.NoMemory number is = takes-same v w t (ap (λ (m : Past). m.history) is.1)

-- a look at the outbox leaves those that left
pub hooks-same : {does : List Entry → List Entry → Type 0} → OutsOnlyGrow → (start : Start) (v w : View Begun Entry)
    (t : Turn lane_of does v w) → KnowsOutbox start v → t.after ≡ t.before → hooks_of w.known ≡ hooks_of v.known
hooks-same grow start v w t knows is = ap hooks_of (t.known ∙ is) ∙ hooks-found grow start v t.before knows t.finds

pub room-same : (a b : List Entry) → hooks_of b ≡ hooks_of a → room_at b ≤ room_at a
room-same a b is =
    let same : room_at b ≡ room_at a = ap (λ (ns : List ℕ). 2 ^ 64 - length ns) is in omega (arith, same)

-- what a turn of the first pass that takes a change out tells of what the pass knew and knows
pub hook-known : {does : List Entry → List Entry → Type 0} → OutsOnlyGrow → (start : Start) (answer : HookedEnd)
    (number : ℕ) (v w : View Begun Entry) (t : Turn lane_of does v w) → KnowsOutbox start v → length t.after < 2 ^ 64
    → HookTold (shown start t.before) answer number (shown start t.after)
    → HookTold (shown start v.known) answer number (shown start w.known)
hook-known grow start answer number v w t knows few told =
    let found = hooks-found grow start v t.before knows t.finds in
    let same : hooks_of w.known ≡ hooks_of t.after = ap hooks_of t.known in
    let before : room_at t.before ≡ room_at v.known = ap (λ (ns : List ℕ). 2 ^ 64 - length ns) found in
    let after : room_at w.known ≡ room_at t.after = ap (λ (ns : List ℕ). 2 ^ 64 - length ns) same in
    record {
      gone = subst (λ (ns : List ℕ). LeavesBy answer number ns (hooks_of w.known)) found
          (subst (λ (ns : List ℕ). LeavesBy answer number (hooks_of t.before) ns) (sym same) told.gone);
      past = λ job next is. told.past job (next-found grow start v t.before job knows t.finds next) is;
      jobs = jobs-on grow start v.known w.known t.grows;
      room = (let r : room_at t.after ≤ room_at t.before = told.room in omega (arith, r, before, after));
      nearer = λ long done. (let r : room_at t.after < room_at t.before = told.nearer few done in
          omega (arith, r, before, after));
    }

-- ---- other passes are taken in

pub takes-in-none : (v : View Begun Entry) → TakesInOthers v v
takes-in-none v = record { grows = front-same v.known; homes = λ p e i lane. i; gone = refl }

-- one pass more of others, which took no change out
pub joins-others : OutsOnlyGrow → (start : Start) (o v w u : View Begun Entry) → OwnsLanes w → IsFirst u
    → u.own ≡ merged v.own w.own → IsFrontOf v.known u.known
    → ((p : ℕ) (e : Entry) → At u.known p e → IsOfOwnLane lane_of u (lane_of e) → In u.own p e) → KnowsOwn o
    → TakesInOthers o v → TakesInOthers o u
joins-others grow start o v w u owns first own front lanes known others =
    let grows = front-then o.known v.known u.known others.grows front in
    let homes : (p : ℕ) (e : Entry) → In u.own p e → lane_of e ≡ home → In o.own p e = λ p e i lane. ⊎_elim
    (λ (j : In v.own p e). others.homes p e j lane)
    (λ (j : In w.own p e). absurd (not-home w e (owns.opened p e j) lane))
    (in_merged v.own w.own p e (subst (λ (l : List (ℕ × Entry)). In l p e) own i)) in
    record {
      grows = grows;
      homes = homes;
      gone = hooks-on grow start o.known u.known grows
          (λ p e at lane. known p e (homes p e (lanes p e at (home-own u (lane_of e) lane first)) lane));
    }

-- ---- the machine's own turns

hooked-are : (more : List ℕ) → hooks_of (map entry.Hooked more) ≡ more
hooked-are [] = refl
hooked-are (n ∷ more) = ap (λ (ns : List ℕ). n ∷ ns) (hooked-are more)

none-more : (a more : List ℕ) → a ++ more ≡ a → more ≡ []
none-more [] more is = is
none-more (n ∷ a) more is = let tail : a ++ more ≡ a = cc in none-more a more tail

-- a history that went on by numbers that left, of which there are no more, is as it was
pub looks-same : OutsOnlyGrow → (start : Start) (found left : List Entry) (more : List ℕ)
    → left ≡ found ++ map entry.Hooked more → hooks_of left ≡ hooks_of found → left ≡ found
looks-same grow start found left more is same =
    let none : more ≡ [] = none-more (hooks_of found) more (ap (λ (l : List ℕ). hooks_of found ++ l)
    (sym (hooked-are more)) ∙ sym (grow start found (map entry.Hooked more)).hooks ∙ ap hooks_of (sym is) ∙ same) in
    is ∙ ap (λ (ns : List ℕ). found ++ map entry.Hooked ns) none ∙ append-nil found

pub first-at : {E : Type 0} (answer : Result (Option HookJob) E) (old new : Past) → new.start ≡ old.start
    → new.history ≡ old.history → IfOk answer (IsFirstLeft (jobs_at new.start new.history) (hooks_of new.history))
    → IfOk answer (IsFirstLeft (jobs_at old.start old.history) (hooks_of old.history))
first-at answer old new start same first =
    subst (λ (h : List Entry). IfOk answer (IsFirstLeft (jobs_at old.start h) (hooks_of h))) same
    (subst (λ (s : Start). IfOk answer (IsFirstLeft (jobs_at s new.history) (hooks_of new.history))) start first)

pub hooking-appends : (old new : Past) (answer : HookedEnd) (number : ℕ) → Hooks old answer number new
    → Appends lane_of names_home old.history new.history
hooking-appends old new ends.Done number is = inr (entry.Hooked number, ap (λ (m : Past). m.history) is.1, refl)
hooking-appends old new (ends.Past first) number is = inl (ap (λ (m : Past). m.history) is.2)
hooking-appends old new (ends.StoreFault count) number is = inl (ap (λ (m : Past). m.history) is.1)
hooking-appends old new ends.NoMemory number is = inl (ap (λ (m : Past). m.history) is.1)

hook-fault : (before : ℕ) (old new : Keeping) (answer : HookedEnd) → before ≤ old.faults → HookCommits old answer new
    → IfFault answer (RoseTo before)
hook-fault before old new ends.Done later is = tt
hook-fault before old new (ends.Past first) later is = tt
hook-fault before old new (ends.StoreFault count) later is = record {
  count = old.faults;
  since = later;
  rose = (let now = is.0 in let up : new.faults ≡ min (old.faults + 1) (2 ^ 64 - 1) = is.2 in omega (arith, now, up));
}
hook-fault before old new ends.NoMemory later is = tt

pub hooking-does : (old new : Past) (before after : Keeping) (answer : HookedEnd) (number : ℕ) → IsGood old
    → new.start ≡ old.start → Hooks old answer number new → Legal new.start new.history → length new.history < 2 ^ 64
    → old.start.faults ≤ before.faults → HookCommits before answer after
    → MachineHooks old.start number answer old.history new.history
hooking-does old new before after answer number good start hooks legal few later commits = record {
  hooks = subst (λ (s : Start). Hooks old answer number (shown s new.history)) start hooks;
  good = good;
  legal = subst (λ (s : Start). Legal s new.history) start legal;
  few = few;
  fault = hook-fault old.start.faults before after answer later commits;
}

-- what a look of the first pass answers, of what the pass then knows
pub looked-at : {E : Type 0} (start : Start) (answer : Result (Option HookJob) E) (found left known : List Entry)
    → known ≡ left → MachineLooks start answer found left
    → IfOk answer (IsFirstLeft (jobs_at start known) (hooks_of known))
looked-at start answer found left known is looks =
    subst (λ (h : List Entry). IfOk answer (IsFirstLeft (jobs_at start h) (hooks_of h))) (sym (is ∙ looks.same))
    looks.first
