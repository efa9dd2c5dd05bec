-- Drains of one call, one after another, and what they leave of the links that were served.
use Rattle.std.proofs.Common.{◌≡◌, ◌≢◌, ℕ, ◌<◌, ◌≤◌, ◌⊎◌, inl, inr, ⊎_elim, true, List, [], ◌++◌, refl, sym, ap, ◌∙◌}
use Rattle.std.proofs.Common.{Option, Some, None, IfSome, subst, arith}
use mathlib.Core.Option.{some, some-ne-none}
use lib.ListN.{get_elem?}
use Rattle.hist_lock.specs.Histories.{At, In}
use Rattle.hist_lock.specs.Lanes.{opens, within, home}
use Rattle.hist_lock.specs.Views.{IsFirst}
use Rattle.hist_lock.specs.declared.view.View.{View}
use Rattle.account_hooks.specs.Drains.{Drains, GoesTo, IsDraining, IfHeld, IfStoreFault, Begins, numbers, Job, Run}
use Rattle.account_hooks.specs.Drains.{Adds}
use Rattle.account_hooks.specs.declared.drains.Drained.{Drained}
use Rattle.account_hooks.specs.declared.drains.Drained.TheVariants as drained
use Rattle.account_hooks.specs.declared.runs.Spawner.{Ghosts}
use Rattle.account_hooks.proofs.Draining.{draining-none, draining-first, drains-more}
use Rattle.account_hooks.proofs.Tries.{adds-none, adds-then, rose-since}
use Rattle.acct_config.specs.Spelled.{IsRightConfig}
use Rattle.acct_config.specs.declared.config.Hook.{Hook}
use Rattle.acct_keeper.specs.Faults.{Rose}
use Rattle.acct_links.specs.Links.{Told}
use Rattle.acct_links.specs.declared.doors.Door as doors
use Rattle.acct_machine.specs.Gates.{IsGood, IsReady, JobsAreLeft, RoseTo}
use Rattle.acct_machine.specs.Jobs.{jobs_at}
use Rattle.acct_machine.specs.Legal.{Legal}
use Rattle.acct_machine.specs.Outbox.{has_hook}
use Rattle.acct_machine.specs.Outs.{hooks_of, OutsOnlyGrow}
use Rattle.acct_machine.specs.Passing.{conn_of}
use Rattle.acct_machine.specs.Shown.{Past}
use Rattle.acct_machine.specs.State.{Start}
use Rattle.acct_machine.specs.declared.entry.Entry.{Entry}
use Rattle.acct_machine.specs.declared.entry.Entry.TheVariants as entry
use Rattle.acct_rows.specs.Sound.{IsSoundRows}
use Rattle.link_sessions.specs.Turns.{shown}
use Rattle.link_sessions.specs.declared.ends.Ended.{Ended}
use Rattle.door_workers.specs.Doors.{all_services}
use Rattle.door_workers.specs.steps.Hiring.{WorksDoors}
use Rattle.door_workers.specs.Hooking.{KnowsOwn, KnowsOutbox, TakesOut, TakesInOthers, HasDrained, stopped_by}
use Rattle.door_workers.specs.steps.Lanes.{lane_of}
use Rattle.door_workers.specs.steps.Passing.{IsMine}
use Rattle.door_workers.specs.Services.{Service}
use Rattle.door_workers.specs.steps.Working.{IsJoined}
use Rattle.door_workers.specs.declared.ends.DoorEnd.{DoorEnd}
use Rattle.door_workers.specs.declared.kept.Begun.{Begun}
use Rattle.door_workers.proofs.Homes.{jobs-on}
use Rattle.door_workers.proofs.LinksJoined.{was-on}
use Rattle.door_workers.proofs.Passing.{conn-mine}

-- ---- drains

held-since : (a : Drained) (x y z : ℕ) → x ≤ y → IfHeld a (Rose y z) → IfHeld a (Rose x z)
held-since drained.Empty x y z before held = tt
held-since (drained.Held n) x y z before held = rose-since x y z before held
held-since (drained.StoreFault n) x y z before held = tt
held-since drained.NoMemory x y z before held = tt

goes-more : (p : List ℕ) (t : ℕ) (ended : Option Drained) (jobs after : List Job) (gone same : List ℕ)
    (runs : List Run) → ended ≢ Some drained.Empty → Begins gone (numbers jobs) → Begins jobs after → same ≡ gone
    → GoesTo ended p t [] jobs gone runs → GoesTo ended p t [] after same runs
goes-more p t None jobs after gone same runs not front b is d = draining-first p t [] jobs after gone same runs b is d
goes-more p t (Some answer) jobs after gone same runs not front b is d =
    subst (λ (ns : List ℕ). Drains answer p t [] after ns runs) (sym is)
    (subst (λ (js : List Job). Drains answer p t [] js gone runs) (sym b.1)
    (drains-more p t answer [] jobs b.0 gone runs (λ e. not (ap Some e)) (numbers jobs, refl) front d))

module _ {P : Type 0} (spawner : Ghosts P) (hook : Hook) (start : Start) (before : P) where
  -- what a drain adds to runs that ended between two jobs
  abbrev Adding : List ℕ → Start → List Entry → List Entry → P → P → Drained → Type 0
  Adding program other known left one two answer = (more : List Run)
      × Adds (spawner.runs one) more (spawner.runs two)
      × ((gone : List ℕ) (earlier : List Run)
      → IsDraining program hook.tries gone (jobs_at start known) (hooks_of known) earlier
      → Drains answer program hook.tries gone (jobs_at other left) (hooks_of left) (earlier ++ more))

  -- one drain more
  pub drained-on : (program : List ℕ) (other : Start) → program ≡ hook.program → other ≡ start → (one two : P)
      (known left : List Entry) (answer : Drained) → HasDrained spawner hook start before one known None
      → Adding program other known left one two answer
      → IfHeld answer (Rose (spawner.failed one) (spawner.failed two)) → IfStoreFault answer (RoseTo start.faults)
      → spawner.failed one ≤ spawner.failed two → HasDrained spawner hook start before two left (Some answer)
  drained-on program other named same one two known left answer so_far adding held fault later =
      let goes : Adding hook.program start known left one two answer =
      subst (λ (s : Start). Adding hook.program s known left one two answer) same
      (subst (λ (p : List ℕ). Adding p other known left one two answer) named adding) in
      record {
        runs = so_far.runs ++ goes.0;
        told = adds-then (spawner.runs before) (spawner.runs one) (spawner.runs two) so_far.runs goes.0 so_far.told
            goes.1;
        drains = goes.2 [] so_far.runs so_far.drains;
        held = held-since answer (spawner.failed before) (spawner.failed one) (spawner.failed two) so_far.later held;
        fault = fault;
        later = (let a = so_far.later in omega (arith, a, later));
      }

  -- after a drain that left no change the next may go on
  pub drained-more : (now : P) (known : List Entry) (answer : Drained)
      → HasDrained spawner hook start before now known (Some answer)
      → HasDrained spawner hook start before now known (stopped_by answer)
  drained-more now known drained.Empty d = record {
    runs = d.runs;
    told = d.told;
    drains = d.drains.stops.0;
    held = tt;
    fault = tt;
    later = d.later;
  }
  drained-more now known (drained.Held n) d = d
  drained-more now known (drained.StoreFault n) d = d
  drained-more now known drained.NoMemory d = d

  -- changes may come where none leaves
  pub drained-grows : OutsOnlyGrow → (now : P) (v w : View Begun Entry) (ended : Option Drained)
      → ended ≢ Some drained.Empty → KnowsOutbox start v → TakesInOthers v w
      → HasDrained spawner hook start before now v.known ended → HasDrained spawner hook start before now w.known ended
  drained-grows grow now v w ended not knows others d = record {
    runs = d.runs;
    told = d.told;
    drains = goes-more hook.program hook.tries ended (jobs_at start v.known) (jobs_at start w.known)
        (hooks_of v.known) (hooks_of w.known) d.runs not knows.ready.in_front
        (jobs-on grow start v.known w.known others.grows) others.gone d.drains;
    held = d.held;
    fault = d.fault;
    later = d.later;
  }

  -- nothing was run yet
  pub drained-none : (known : List Entry) → known ≡ [] → HasDrained spawner hook start before before known None
  drained-none known is = record {
    runs = [];
    told = adds-none (spawner.runs before);
    drains = subst (λ (h : List Entry). IsDraining hook.program hook.tries [] (jobs_at start h) (hooks_of h) [])
        (sym is)
        (draining-none hook.program hook.tries (jobs_at start []) [] (numbers (jobs_at start []), refl));
    held = tt;
    fault = tt;
    later = omega arith;
  }

  -- memory ran out before anything was run
  pub drained-nomemory : (known : List Entry) → known ≡ []
      → HasDrained spawner hook start before before known (Some drained.NoMemory)
  drained-nomemory known is =
      let d = drained-none known is in record {
        runs = d.runs;
        told = d.told;
        drains = record { in_order = d.drains.in_order; stops = inl d.drains };
        held = tt;
        fault = tt;
        later = d.later;
      }

pub not-empty : (answer : Drained) → stopped_by answer ≢ Some drained.Empty
not-empty drained.Empty is = cc
not-empty (drained.Held n) is = cc
not-empty (drained.StoreFault n) is = cc
not-empty drained.NoMemory is = cc

-- ---- what the first pass knows

-- nothing has happened yet
pub begun-knows : (start : Start) (past : Past) (v : View Begun Entry) → start ≡ past.start → IsGood past
    → has_hook past.start.config ≡ true → IsFirst v → v.known ≡ [] → v.own ≡ [] → KnowsOutbox start v
begun-knows start past v same good hook first known own = record {
  first = first;
  ready = record {
    good = record {
      right = subst (λ (s : Start). IsRightConfig s.config) (sym same) good.right;
      sound = subst (λ (s : Start). IsSoundRows s.rows) (sym same) good.sound;
      legal = subst (λ (h : List Entry). Legal start h) (sym known) tt;
    };
    hook = subst (λ (s : Start). has_hook s.config ≡ true) (sym same) hook;
    in_front = subst (λ (h : List Entry). Begins (hooks_of h) (numbers (jobs_at start h))) (sym known)
        (numbers (jobs_at start []), refl);
  };
  own = λ p e i. absurd (some-ne-none (p, e)
      (sym (subst (λ (l : List (ℕ × Entry)). get_elem? l i.0 ≡ some (p, e)) own i.1)));
}

-- it knows and owns no more
pub idle-knows : (start : Start) (v w : View Begun Entry) → KnowsOutbox start v → w.known ≡ v.known → w.own ≡ v.own
    → IsFirst w → KnowsOutbox start w
idle-knows start v w knows known own first = record {
  first = first;
  ready = subst (λ (h : List Entry). IsReady (shown start h)) (sym known) knows.ready;
  own = subst (λ (h : List Entry). (p : ℕ) (e : Entry) → In w.own p e → At h p e) (sym known)
      (subst (λ (l : List (ℕ × Entry)). (p : ℕ) (e : Entry) → In l p e → At v.known p e) (sym own) knows.own);
}

-- others were taken in
pub knows-joined : JobsAreLeft → (start : Start) (v u : View Begun Entry) → KnowsOutbox start v → IsFirst u
    → Legal start u.known → KnowsOwn u → KnowsOutbox start u
knows-joined left start v u knows first legal own =
    let good : IsGood (shown start u.known) = record {
      right = knows.ready.good.right;
      sound = knows.ready.good.sound;
      legal = legal;
    } in
    record {
      first = first;
      ready = record {
        good = good;
        hook = knows.ready.hook;
        in_front = (left (shown start u.known) good).in_front;
      };
      own = own;
    }

-- ---- links

if-home : (v : View Begun Entry) (e : Entry) → lane_of e ≡ home → IfSome (conn_of e) (IsMine v)
if-home v (entry.Opened conn listener) is = absurd (let other : opens conn ≡ home = is in cc)
if-home v (entry.Called conn call verdict bytes) is = absurd (let other : within conn ≡ home = is in cc)
if-home v (entry.Gone conn) is = absurd (let other : within conn ≡ home = is in cc)
if-home v (entry.Hooked number) is = tt

home-conn : (e : Entry) (k : ℕ) → lane_of e ≡ home → conn_of e ≡ Some k → ⊥
home-conn (entry.Opened conn listener) k is of = absurd (let other : opens conn ≡ home = is in cc)
home-conn (entry.Called conn call verdict bytes) k is of = absurd (let other : within conn ≡ home = is in cc)
home-conn (entry.Gone conn) k is of = absurd (let other : within conn ≡ home = is in cc)
home-conn (entry.Hooked number) k is of = absurd cc

home-opens : (e : Entry) (k : ℕ) → lane_of e ≡ home → lane_of e ≡ opens k → ⊥
home-opens e k is other = absurd (let both : home ≡ opens k = sym is ∙ other in cc)

-- what stands of links stands where changes were taken out
pub taken-joined : {L : Type 0} (told : L → Told) (start : Start) (most : ℕ) (v w : View Begun Entry)
    (ss : List (Service L)) → IsJoined told start most v ss → TakesOut v w → KnowsOutbox start w
    → IsJoined told start most w ss
taken-joined told start most v w ss joined takes knows =
    let mine : (k : ℕ) → IsMine v k → IsMine w k = λ k m. (m.0, m.1, takes.kept m.0 m.1 m.2, m.3) in
    record {
      legal = knows.ready.good.legal;
      known = knows.own;
      opened = λ p e i. ⊎_elim
          (λ (j : In v.own p e). conn-mine v w (conn_of e) mine (joined.opened p e j))
          (λ (h : lane_of e ≡ home). if-home w e h) (takes.more p e i);
      was = λ s has. was-on told start most v w s mine takes.grows (λ p e i. ⊎_elim (λ (j : In v.own p e). inl j)
          (λ (h : lane_of e ≡ home). inr (λ k of m. home-conn e k h of)) (takes.more p e i))
          (joined.was s has);
      all = λ k m. ⊎_elim (λ (j : In v.own m.0 m.1). joined.all k (m.0, m.1, j, m.3))
          (λ (h : lane_of m.1 ≡ home). absurd (home-opens m.1 k h m.3)) (takes.more m.0 m.1 m.2);
      once = joined.once;
    }

pub works-on : {D L : Type 0} (door : doors.Ghosts D L) (told : L → Told) (start : Start) (most : ℕ)
    (v w : View Begun Entry) (before now : List D) (answer : DoorEnd) (ends : List Ended)
    → WorksDoors door told start most v before now answer ends → TakesOut v w → KnowsOutbox start w
    → WorksDoors door told start most w before now answer ends
works-on door told start most v w before now answer ends works takes knows = record {
  runs = works.runs;
  doors = works.doors;
  links = taken-joined told start most v w (all_services works.runs) works.links takes knows;
  comes = works.comes;
}

-- ---- under one lock

pub drained-as : {P : Type 0} (spawner : Ghosts P) (hook : Hook) (a b : Start) → a ≡ b → (before now : P)
    (known : List Entry) (ended : Option Drained) → HasDrained spawner hook a before now known ended
    → HasDrained spawner hook b before now known ended
drained-as spawner hook a b same before now known ended d =
    subst (λ (s : Start). HasDrained spawner hook s before now known ended) same d
