-- A door gives one link more, or none.
use Rattle.std.proofs.Common.{◌≡◌, ◌≢◌, ℕ, ◌≤◌, inl, inr, ⊎_elim, true, List, [], ◌∷◌, ◌++◌, map, refl, sym, ap}
use Rattle.std.proofs.Common.{◌∙◌, subst, arith, append_assoc, Option, Some, None, Bool, false, ◌||◌}
use Rattle.std.specs.Prelude.{option_map, IfSome}
use Rattle.std.specs.List.{flat_map}
use Rattle.std.proofs.lemmas.List.{append-nil}
use Rattle.std.proofs.lemmas.List.Concat.{flat_map-append}
use Rattle.hist_lock.specs.declared.view.View.{View}
use Rattle.acct_machine.specs.State.{Start}
use Rattle.acct_machine.specs.declared.entry.Entry.{Entry}
use Rattle.acct_keeper.specs.Faults.{one_more}
use Rattle.acct_links.specs.Links.{Told}
use Rattle.acct_links.specs.Doors.{GivesNext}
use Rattle.acct_links.specs.declared.doors.Door.{Ghosts}
use Rattle.acct_links.specs.declared.doors.Next.TheVariants as next
use Rattle.link_sessions.specs.declared.ends.SessionEnd.{SessionEnd}
use Rattle.link_sessions.specs.declared.ends.SessionEnd.TheVariants as end
use Rattle.door_workers.specs.declared.kept.Begun.{Begun}
use Rattle.link_sessions.specs.declared.ends.Ended.{Ended}
use Rattle.door_workers.specs.declared.ends.DoorEnd.{DoorEnd}
use Rattle.door_workers.specs.declared.ends.DoorEnd.TheVariants as stop
use Rattle.door_workers.specs.Services.{Service, Served, Serves, given_of, finished_of, IsAtListener, full_count}
use Rattle.door_workers.specs.Services.{end_count, NoneFull, NoneFullBeforeLast, end_of}
use Rattle.door_workers.specs.Doors.{Has, Gives, Runs, StopsAt}
use Rattle.door_workers.specs.steps.Working.{IsWorking}
use Rattle.door_workers.specs.steps.Serving.{door_end, EndsLink, NotesEnd, TakesBack, HandlesLink, IsServing}
use Rattle.door_workers.proofs.Places.{has-either, has-none, only}

-- where none of the links found the history full, one more may be the last
none-before-last : {L : Type 0} (ss : List (Service L)) (s : Service L) → NoneFull ss → NoneFullBeforeLast (ss ++ s ∷ [])
none-before-last [] s none = tt
none-before-last (t ∷ []) s none = (none.0, tt)
none-before-last (t ∷ u ∷ ss) s none = (none.0, none-before-last (u ∷ ss) s none.1)

-- ---- links to come

module _ {L : Type 0} where
  gives-none : (a : Option (List L)) → Gives a [] a
  gives-none None = tt
  gives-none (Some xs) = refl

  gives-more : (a b c : Option (List L)) (xs : List L) (x : L) → Gives a xs b → GivesNext (next.Link x) b c
      → Gives a (xs ++ x ∷ []) c
  gives-more None b c xs x gives more = tt
  gives-more (Some old) None c xs x gives more = absurd gives
  gives-more (Some old) (Some mid) None xs x gives more = absurd more
  gives-more (Some old) (Some mid) (Some now) xs x gives more =
      gives ∙ ap (λ (l : List L). xs ++ l) more ∙ sym (append_assoc xs (x ∷ []) now)

  gives-closed : (a b c : Option (List L)) (xs : List L) → Gives a xs b → GivesNext next.Closed b c → Gives a xs c
  gives-closed None b c xs gives none = tt
  gives-closed (Some old) None c xs gives none = absurd gives
  gives-closed (Some old) (Some mid) None xs gives none = absurd none
  gives-closed (Some old) (Some mid) (Some now) xs gives none =
      gives ∙ ap (λ (l : List L). xs ++ l) (none.0 ∙ sym none.1)

  gives-failed : (a b c : Option (List L)) (xs : List L) → Gives a xs b → GivesNext next.Failed b c → Gives a xs c
  gives-failed None b c xs gives none = tt
  gives-failed (Some old) None c xs gives none = absurd gives
  gives-failed (Some old) (Some mid) None xs gives none = absurd none
  gives-failed (Some old) (Some mid) (Some now) xs gives none =
      gives ∙ ap (λ (l : List L). xs ++ l) (sym none.1)

  closed-none : (a b c : Option (List L)) (xs : List L) → Gives a xs b → GivesNext next.Closed b c
      → IfSome a (λ _. c ≡ Some [])
  closed-none None b c xs gives none = tt
  closed-none (Some old) None c xs gives none = absurd gives
  closed-none (Some old) (Some mid) None xs gives none = absurd none
  closed-none (Some old) (Some mid) (Some now) xs gives none = ap (λ (l : List L). Some l) none.1

-- ---- finished links

module _ {A : Type 0} where
  finished-none : (a : Option (List A)) → a ≡ option_map (λ l. l ++ []) a
  finished-none None = refl
  finished-none (Some xs) = ap (λ (l : List A). Some l) (sym (append-nil xs))

  finished-more : (a : Option (List A)) (xs ys : List A)
      → option_map (λ l. l ++ ys) (option_map (λ l. l ++ xs) a) ≡ option_map (λ l. l ++ (xs ++ ys)) a
  finished-more None xs ys = refl
  finished-more (Some zs) xs ys = ap (λ (l : List A). Some l) (append_assoc zs xs ys)

map-more : {A B : Type 0} (f : A → B) (xs : List A) (x : A) → map f (xs ++ x ∷ []) ≡ map f xs ++ f x ∷ []
map-more f [] x = refl
map-more f (y ∷ ys) x = ap (λ l. f y ∷ l) (map-more f ys x)

-- ---- ends

module _ {L : Type 0} where
  none-more : (ss : List (Service L)) (s : Service L) → NoneFull ss → full_count s ≡ None → NoneFull (ss ++ s ∷ [])
  none-more [] s none is = (is, tt)
  none-more (t ∷ ts) s none is = (none.0, none-more ts s none.1 is)

  noted-more : (place : ℕ) (old new : List Ended) (ss : List (Service L)) (s : Service L)
      → old ≡ flat_map (end_of place) ss → new ≡ old ++ end_of place s → new ≡ flat_map (end_of place) (ss ++ s ∷ [])
  noted-more place old new ss s was is =
      is ∙ ap (λ (l : List Ended). l ++ end_of place s) was
      ∙ ap (λ (l : List Ended). flat_map (end_of place) ss ++ l) (sym (append-nil (end_of place s)))
      ∙ sym (flat_map-append (end_of place) ss (s ∷ []))

  -- what a session's end adds
  pub notes-link : (answer : Option DoorEnd) (place : ℕ) (s : Served L) (old new : List Ended)
      → NotesEnd answer place s.conn s.end old new → EndsLink answer place (Serves s) old new
  notes-link answer place s old new (inr wants) =
      subst (λ (a : Option DoorEnd). EndsLink a place (Serves s) old new) (sym wants) tt
  notes-link answer place s old new (inl (is, more)) =
      subst (λ (a : Option DoorEnd). EndsLink a place (Serves s) old new) (sym is) (by s.end refl)
    where
      by : (e : SessionEnd) → s.end ≡ e → EndsLink (door_end e) place (Serves s) old new
      by end.End same = (ap end_count same, more)
      by (end.Closed at cause) same = (ap end_count same, more)
      by end.ReadFault same = (ap end_count same, more)
      by end.WriteFault same = (ap end_count same, more)
      by (end.Full n) same = (ap end_count same, more)
      by (end.ByteLimit n) same = (ap end_count same, more)
      by end.NoMemory same = (ap end_count same, more)

-- ---- a door

module _ {D L : Type 0} (door : Ghosts D L) (told : L → Told) where
  pub runs-none : (before : D) → Runs door told before before []
  runs-none before = record {
    coming = gives-none (door.coming before);
    finished = finished-none (door.finished before);
    listener = refl;
    later = omega arith;
    at = λ s has. absurd (has-none s has);
  }

  module _ (start : Start) (most place : ℕ) (before old mid new : D) (finished : door.finished mid ≡ door.finished old)
      (listener : door.listener mid ≡ door.listener old) (later : door.faults old ≤ door.faults mid) where
    runs-same : (ss : List (Service L)) → Runs door told before old ss
        → Gives (door.coming before) (map given_of ss) (door.coming mid) → Runs door told before mid ss
    runs-same ss runs coming = record {
      coming = coming;
      finished = finished ∙ runs.finished;
      listener = listener ∙ runs.listener;
      later = let was = runs.later in omega arith;
      at = runs.at;
    }

    runs-more : (ss : List (Service L)) (s : Service L) (link : L) → Runs door told before old ss
        → GivesNext (next.Link link) (door.coming old) (door.coming mid) → given_of s ≡ link
        → IsAtListener (door.listener mid) s
        → TakesBack door told (finished_of s).0 (finished_of s).1 mid new → Runs door told before new (ss ++ s ∷ [])
    runs-more ss s link runs gives given at takes = record {
      coming = subst (λ (c : Option (List L)). Gives (door.coming before) (map given_of (ss ++ s ∷ [])) c)
          (sym takes.coming)
          (subst (λ (l : List L). Gives (door.coming before) l (door.coming mid)) (sym (map-more given_of ss s))
          (gives-more (door.coming before) (door.coming old) (door.coming mid) (map given_of ss) (given_of s)
          runs.coming
          (subst (λ (x : L). GivesNext (next.Link x) (door.coming old) (door.coming mid)) (sym given) gives)));
      finished =
          takes.finished
          ∙ ap (λ (f : Option (List (ℕ × L))). option_map (λ l. l ++ finished_of s ∷ []) f) (finished ∙ runs.finished)
          ∙ finished-more (door.finished before) (map finished_of ss) (finished_of s ∷ [])
          ∙ ap (λ (l : List (ℕ × L)). option_map (λ k. k ++ l) (door.finished before))
          (sym (map-more finished_of ss s));
      listener = takes.listener ∙ listener ∙ runs.listener;
      later = let was = runs.later in let same = takes.faults in omega arith;
      at = λ t has. ⊎_elim (λ (h : Has ss t). runs.at t h)
          (λ (h : Has (s ∷ []) t). subst (λ (u : Service L). IsAtListener (door.listener before) u) (only s t h)
          (subst (λ n. IsAtListener n s) (listener ∙ runs.listener) at))
          (has-either ss (s ∷ []) t has);
    }

  stops-more : (answer : Option DoorEnd) (place : ℕ) (before new : D) (old_ends ends : List Ended)
      (ss : List (Service L)) (s : Service L) → NoneFull ss → door.faults new ≡ door.faults before
      → EndsLink answer place s old_ends ends → StopsAt door told answer before new (ss ++ s ∷ [])
  stops-more None place before new old_ends ends ss s none same more = (none-more ss s none more.0, same)
  stops-more (Some stop.Closed) place before new old_ends ends ss s none same more = absurd more
  stops-more (Some stop.Failed) place before new old_ends ends ss s none same more = absurd more
  stops-more (Some (stop.Full n)) place before new old_ends ends ss s none same more =
      (record { before = ss; last = s; is = refl; none = none; full = more.0 }, same)
  stops-more (Some stop.NoMemory) place before new old_ends ends ss s none same more =
      (none-before-last ss s none, same)

  noted-by : (answer : Option DoorEnd) (place : ℕ) (old_ends ends : List Ended) (ss : List (Service L))
      (s : Service L) → old_ends ≡ flat_map (end_of place) ss → EndsLink answer place s old_ends ends
      → answer ≢ Some stop.NoMemory → ends ≡ flat_map (end_of place) (ss ++ s ∷ [])
  noted-by None place old_ends ends ss s was more not = noted-more place old_ends ends ss s was more.1
  noted-by (Some stop.Closed) place old_ends ends ss s was more not = absurd more
  noted-by (Some stop.Failed) place old_ends ends ss s was more not = absurd more
  noted-by (Some (stop.Full n)) place old_ends ends ss s was more not =
      noted-more place old_ends ends ss s was more.1
  noted-by (Some stop.NoMemory) place old_ends ends ss s was more not = absurd (not refl)

  going : None ≢ Some stop.NoMemory
  going same = let other : None ≡ Some stop.NoMemory = same in cc

  -- nothing was given yet
  pub idle-serves : (start : Start) (most place : ℕ) (before : D) (v : View Begun Entry) (ends : List Ended)
      → ends ≡ [] → IsWorking told start most v []
      → IsServing door told start most place None before before v ends
  idle-serves start most place before v ends none working = record {
    services = [];
    runs = runs-none before;
    working = working;
    stops = (tt, refl);
    noted = λ _. none;
  }

  module _ (start : Start) (most place : ℕ) (before old mid new : D) (v w : View Begun Entry)
      (old_ends ends : List Ended) (finished : door.finished mid ≡ door.finished old)
      (listener : door.listener mid ≡ door.listener old) (later : door.faults old ≤ door.faults mid)
      (serving : IsServing door told start most place None before old v old_ends) where
    -- a link was given and taken back
    pub link-served : (answer : Option DoorEnd) (link : L)
        → GivesNext (next.Link link) (door.coming old) (door.coming mid) → door.faults mid ≡ door.faults old
        → HandlesLink door told start most place link v w mid new old_ends ends answer
        → IsServing door told start most place answer before new w ends
    link-served answer link gives same handles = record {
      services = serving.services ++ handles.service ∷ [];
      runs = runs-more start most place before old mid new finished listener later serving.services handles.service link
          serving.runs gives handles.given handles.at handles.takes;
      working = handles.works serving.services serving.working;
      stops = stops-more answer place before new old_ends ends serving.services handles.service serving.stops.0
          (handles.takes.faults ∙ same ∙ serving.stops.1) handles.ends;
      noted = noted-by answer place old_ends ends serving.services handles.service (serving.noted going) handles.ends;
    }

    -- none was given
    pub door-closed : GivesNext next.Closed (door.coming old) (door.coming mid) → door.faults mid ≡ door.faults old
        → door.closed mid ≡ true
        → IsServing door told start most place (Some stop.Closed) before mid v old_ends
    door-closed gives same closed = record {
      services = serving.services;
      runs = runs-same start most place before old mid new finished listener later serving.services serving.runs
          (gives-closed (door.coming before) (door.coming old) (door.coming mid) (map given_of serving.services)
          serving.runs.coming gives);
      working = serving.working;
      stops = (
        serving.stops.0,
        same ∙ serving.stops.1,
        closed,
        closed-none (door.coming before) (door.coming old) (door.coming mid) (map given_of serving.services)
            serving.runs.coming gives,
      );
      noted = λ _. serving.noted going;
    }

    pub door-failed : GivesNext next.Failed (door.coming old) (door.coming mid)
        → door.faults mid ≡ one_more (door.faults old)
        → IsServing door told start most place (Some stop.Failed) before mid v old_ends
    door-failed gives more = record {
      services = serving.services;
      runs = runs-same start most place before old mid new finished listener later serving.services serving.runs
          (gives-failed (door.coming before) (door.coming old) (door.coming mid) (map given_of serving.services)
          serving.runs.coming gives);
      working = serving.working;
      stops = (serving.stops.0, more ∙ ap one_more serving.stops.1);
      noted = λ _. serving.noted going;
    }

-- what is said of a worker, where the beginning, the most that is read and the place are told by equal values
pub serving-as : {D L : Type 0} (door : Ghosts D L) (told : L → Told) (start other : Start) (most its_most place
    its_place : ℕ) (answer : Option DoorEnd) (before now : D) (v : View Begun Entry) (ends : List Ended)
    → start ≡ other → most ≡ its_most → place ≡ its_place
    → IsServing door told start most place answer before now v ends
    → IsServing door told other its_most its_place answer before now v ends
serving-as door told start other most its_most place its_place answer before now v ends same same_most same_place is =
    subst (λ (s : Start). IsServing door told s its_most its_place answer before now v ends) same
    (subst (λ m. IsServing door told start m its_place answer before now v ends) same_most
    (subst (λ p. IsServing door told start most p answer before now v ends) same_place is))

or-true : (b : Bool) → (b || true) ≡ true
or-true true = refl
or-true false = refl

-- a door that answers that it is closed is closed
pub is-closed : (b c : Bool) → c ≡ (b || true) → c ≡ true
is-closed b c is = is ∙ or-true b
