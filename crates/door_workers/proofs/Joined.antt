-- One worker more is joined.
use Rattle.std.proofs.Common.{◌≡◌, ◌≢◌, ℕ, zero, suc, ◌+◌, ◌<◌, List, []}
use Rattle.std.proofs.Common.{◌∷◌, ◌++◌, length, map, refl, sym, ap, ◌∙◌, subst}
use Rattle.std.proofs.Common.{arith, get_or, Some}
use Rattle.std.specs.List.{flat_map}
use Rattle.std.specs.List.Sorted.{IsPermutation, IsNonDecreasingBy}
use Rattle.std.proofs.lemmas.List.{get_or_append_left, get_or_push, get_or_default}
use mathlib.Core.Logic.{dite}
use mathlib.Core.Option.{some-ne-none}
use native.Mathlib.Decide.{ℕ_discrete}
use Rattle.hist_lock.specs.Histories.{At}
use Rattle.hist_lock.specs.declared.view.View.{View}
use Rattle.acct_machine.specs.State.{Start}
use Rattle.acct_machine.specs.declared.entry.Entry.{Entry}
use Rattle.acct_machine.specs.declared.entry.Entry.TheVariants as entry
use Rattle.acct_links.specs.Links.{Told}
use Rattle.acct_links.specs.declared.doors.Door.{Ghosts}
use Rattle.door_workers.specs.declared.kept.Begun.{Begun}
use Rattle.door_workers.specs.declared.ends.DoorEnd.{DoorEnd}
use Rattle.door_workers.specs.declared.ends.DoorEnd.TheVariants as stop
use Rattle.link_sessions.specs.declared.ends.Ended.{Ended}
use Rattle.door_workers.specs.Services.{Service, end_of}
use Rattle.door_workers.specs.steps.Joining.{TakesIn, WorksAlone, JoinsLinks}
use Rattle.door_workers.specs.steps.Serving.{IsServing}
use Rattle.door_workers.specs.steps.Working.{IsJoined}
use Rattle.door_workers.specs.Doors.{AreServed, Adds, behind, DoorRun, ServesDoor, ServesDoors, ComesTo, IsServed}
use Rattle.door_workers.specs.Doors.{all_services, ends_from}
use Rattle.door_workers.proofs.Runs.{runs-none}
use Rattle.door_workers.proofs.Places.{has-none, distinct-none}
use Rattle.door_workers.specs.steps.Hiring.{JoinsOne, AreJoined, WorksDoors}
use Rattle.door_workers.proofs.DoorPlaces.{longer-by-one}
use Rattle.door_workers.proofs.Outcomes.{none-before, none-behind, outcome-more, services-more, ends-more, comes-sorted}

some-end : (a b : DoorEnd) → Some a ≡ Some b → a ≡ b
some-end a b same = cc

module _ {D L : Type 0} (door : Ghosts D L) (told : L → Told) where
  serves-as : (x y a b : D) (p q : DoorRun L) → x ≡ y → a ≡ b → p ≡ q → ServesDoor door told y b q
      → ServesDoor door told x a p
  serves-as x y a b p q one two three is =
      subst (λ (z : D). ServesDoor door told z a p) (sym one)
      (subst (λ (z : D). ServesDoor door told y z p) (sym two)
      (subst (λ (r : DoorRun L). ServesDoor door told y b r) (sym three) is))

  module _ (start : Start) (most : ℕ) where
    pub none-joined : (v : View Begun Entry) (before : List D) → IsJoined told start most v []
        → AreJoined door told start most v before [] stop.Closed []
    none-joined v before joined = record {
      runs = [];
      count = refl;
      each = λ i d e run lt. absurd (omega arith);
      links = joined;
      comes = λ not. (refl, refl);
    }

    pub one-joined : (v u : View Begun Entry) (before now : List D) (place : ℕ) (b n : D) (end : DoorEnd)
        (es : List Ended) (answer new : DoorEnd) (ends all : List Ended)
        → AreJoined door told start most v before now answer ends
        → JoinsOne door told start most place v u b n end es
        → place ≡ length now → ((d : D) → get_or before (length now) d ≡ b) → Adds end es answer ends new all
        → AreJoined door told start most u before (now ++ n ∷ []) new all
    one-joined v u before now place b n end es answer new ends all joined one at given adds =
        let run : DoorRun L = record { services = one.services; stop = end } in
        let count = joined.count in
        record {
          runs = joined.runs ++ run ∷ [];
          count = longer-by-one joined.runs run ∙ ap (λ m. m + 1) count ∙ sym (longer-by-one now n);
          each = λ i d e r lt.
              let long = longer-by-one now n in
              dite (ℕ_discrete i (length now))
              (λ same. serves-as (get_or before i d) b (get_or (now ++ n ∷ []) i e) n
              (get_or (joined.runs ++ run ∷ []) i r) run (ap (λ m. get_or before m d) same ∙ given d)
              (get_or_push now n e i (sym same)) (get_or_push joined.runs run r i (count ∙ sym same))
              (record { runs = one.runs; stops = one.stops }))
              (λ other. serves-as (get_or before i d) (get_or before i d) (get_or (now ++ n ∷ []) i e) (get_or now i e)
              (get_or (joined.runs ++ run ∷ []) i r) (get_or joined.runs i r) refl
              (get_or_append_left now (n ∷ []) e i (omega arith))
              (get_or_append_left joined.runs (run ∷ []) r i (omega arith)) (joined.each i d e r (omega arith)));
          links = subst (λ (l : List (Service L)). IsJoined told start most u l) (sym (services-more joined.runs run))
              (one.links (all_services joined.runs) joined.links);
          comes = λ not.
              let adds = adds not in
              let sum : behind answer end ≢ stop.NoMemory = λ same. not (adds.0 ∙ same) in
              let was = joined.comes (none-before answer end sum) in
              let noted = one.noted (none-behind answer end sum) in
              let same : place ≡ 0 + length joined.runs = omega (arith, at, count) in (
                adds.0 ∙ ap (λ o. behind o end) was.0 ∙ sym (outcome-more joined.runs run),
                adds.1 ∙ ap (λ l. l ++ es) was.1 ∙ ap (λ l. ends_from 0 joined.runs ++ l) noted
                    ∙ ap (λ m. ends_from 0 joined.runs ++ flat_map (end_of m) one.services) same
                    ∙ sym (ends-more 0 joined.runs run),
              );
        }

    -- all were joined, and the ends stand by number
    pub all-joined : (v : View Begun Entry) (before now : List D) (answer sorted : DoorEnd) (ends by : List Ended)
        → AreJoined door told start most v before now answer ends → length now ≡ length before → sorted ≡ answer
        → (answer ≡ stop.NoMemory → by ≡ [])
        → (answer ≢ stop.NoMemory
        → IsPermutation ends by × IsNonDecreasingBy (λ (end : Ended). end.conn) by)
        → WorksDoors door told start most v before now sorted by
    all-joined v before now answer sorted ends by joined count same none all = record {
      runs = joined.runs;
      doors = record { doors = count; count = joined.count; each = joined.each };
      links = joined.links;
      comes = subst (λ (o : DoorEnd). ComesTo joined.runs o by) (sym same)
          (comes-sorted joined.runs answer ends by joined.comes none all);
    }

    -- no worker worked
    abbrev idle : DoorRun L
    idle = record { services = []; stop = stop.NoMemory }

    no-services : (ds : List D) → all_services (map (λ _. idle) ds) ≡ []
    no-services [] = refl
    no-services (d ∷ ds) = no-services ds

    each-idle : (ds : List D) → length (map (λ _. idle) ds) ≡ length ds
    each-idle [] = refl
    each-idle (d ∷ ds) = ap (λ n. suc n) (each-idle ds)

    is-idle : (ds : List D) (i : ℕ) (r : DoorRun L) → i < length ds → get_or (map (λ _. idle) ds) i r ≡ idle
    is-idle [] i r lt = absurd (omega arith)
    is-idle (d ∷ ds) zero r lt = refl
    is-idle (d ∷ ds) (suc i) r lt = is-idle ds i r (omega arith)

    idle-doors : (doors : List D) → ServesDoors door told doors doors (map (λ _. idle) doors)
    idle-doors doors = record {
      doors = refl;
      count = each-idle doors;
      each = λ i d e r lt. serves-as (get_or doors i d) (get_or doors i e) (get_or doors i e) (get_or doors i e)
          (get_or (map (λ _. idle) doors) i r) idle (get_or_default doors i d e lt) refl (is-idle doors i r lt)
          (record { runs = runs-none door told (get_or doors i e); stops = (tt, refl) });
    }

    pub none-worked : (v : View Begun Entry) (doors : List D) (ends : List Ended) → IsJoined told start most v []
        → ends ≡ [] → WorksDoors door told start most v doors doors stop.NoMemory ends
    none-worked v doors ends joined none = record {
      runs = map (λ _. idle) doors;
      doors = idle-doors doors;
      links = subst (λ (l : List (Service L)). IsJoined told start most v l) (sym (no-services doors)) joined;
      comes = none;
    }

    none-found : (p : ℕ) (e : Entry) → At [] p e → ⊥
    none-found p e at = some-ne-none e (sym at)

    pub none-served : (doors : List D) (history : List Entry) (answer : DoorEnd) (ends : List Ended) → history ≡ []
        → answer ≡ stop.NoMemory → ends ≡ [] → IsServed door told start most doors doors history answer ends
    none-served doors history answer ends nothing wants none = record {
      runs = map (λ _. idle) doors;
      doors = idle-doors doors;
      links = subst (λ (h : List Entry). AreServed told start most h (all_services (map (λ _. idle) doors)))
          (sym nothing)
          (subst (λ (l : List (Service L)). AreServed told start most [] l) (sym (no-services doors))
          (record {
            legal = tt;
            each = λ s has. absurd (has-none s has);
            all = λ p k listener at. absurd (none-found p (entry.Opened k listener) at);
            once = distinct-none;
          }));
      comes = subst (λ (o : DoorEnd). ComesTo (map (λ _. idle) doors) o ends) (sym wants) none;
    }

    -- a worker's pass was joined
    pub joins-one : (place : ℕ) (v w u : View Begun Entry) (before now : D) (end : DoorEnd) (ends : List Ended)
        → WorksAlone told → JoinsLinks told → TakesIn v w u
        → IsServing door told start most place (Some end) before now w ends
        → JoinsOne door told start most place v u before now end ends
    joins-one place v w u before now end ends alone joins takes serving = record {
      services = serving.services;
      runs = serving.runs;
      stops = serving.stops;
      links = λ ss joined. joins start most v w u ss serving.services takes joined
          (alone start most w serving.services serving.working);
      noted = λ not. serving.noted (λ same. not (some-end end stop.NoMemory same));
    }
