-- Rounds of serving one after another, and what the world keeps of them.
use Rattle.std.proofs.Common.{◌≡◌, ℕ, ◌-◌, ◌<◌, inl, inr, true, false, List, ◌∷◌, [], ◌++◌, Option, Some, None}
use Rattle.std.proofs.Common.{◌≢◌, length, slice_index_or, arith, refl, sym, ◌∙◌, ap, subst, append_assoc}
use Rattle.std.specs.Prelude.{option_to_list, is_some, IsSome, MatchOption}
use Rattle.std.specs.List.{flat_map}
use Rattle.std.proofs.lemmas.List.{append-nil}
use Rattle.std.proofs.lemmas.Grind.{flat_map-append}
use Rattle.account_hooks.specs.declared.drains.Drained.{Drained}
use Rattle.account_hooks.specs.declared.drains.Drained.TheVariants as drained
use Rattle.acct_config.specs.declared.config.Config.{Config}
use Rattle.acct_config.specs.declared.config.Hook.{Hook}
use Rattle.door_workers.specs.Doors.{DoorRun}
use Rattle.door_workers.specs.declared.ends.DoorEnd.{DoorEnd}
use Rattle.door_workers.specs.declared.ends.DoorEnd.TheVariants as stop
use Rattle.door_workers.specs.declared.ends.DoorEnd.TheVariants.{Closed}
use Rattle.acct_server.specs.Beside.{TellingBeside, IsServeBeside, ServesAsWell, ServesBut, status_beside, after_doors}
use Rattle.acct_server.specs.Leaves.{StoreCause}
use Rattle.acct_server.specs.Serving.{TellingDoors, IsServe, served_status}
use Rattle.acct_server.specs.declared.serving.Served.{Served}
use Rattle.acct_server.specs.declared.status.Status.{Status}
use Rattle.acct_server.specs.declared.status.Status.TheVariants.{Done, Usage, HookHeld, HookStore}
use Rattle.acct_world.specs.declared.period.Period.{Period}
use Rattle.acct_world.specs.World.{Seen}
use Rattle.acct_commands.specs.Commanded.{period_between, Keeps}
use Rattle.acct_commands.specs.Serving.{Round, ServesAlone, ServesBeside, IsRound, GoesOn, Follow, AreRounds}
use Rattle.acct_commands.specs.Serving.{KeepsRounds, ending, is_full, kept_in}
use Rattle.acct_commands.specs.steps.Rounds.{ServesPeriod, RunsRound}

-- ---- one period

module _ {D F K P : Type 0} (telling : TellingBeside D F K P) (config : Config) where
  -- with a hook or without one
  abbrev pub PeriodBy : Option Hook → List D → K → Option P → Round D K P → Type 0
  PeriodBy o doors keeper spawner round = MatchOption o (ServesAlone telling config doors keeper spawner round)
      (λ hook. ServesBeside telling config hook doors keeper spawner round)

  -- whether it is kept is another matter
  period-as : (o : Option Hook) (doors : List D) (keeper : K) (spawner : Option P) (a b : Round D K P)
      → b.doors ≡ a.doors → b.left ≡ a.left → b.spawner ≡ a.spawner → PeriodBy o doors keeper spawner a
      → PeriodBy o doors keeper spawner b
  period-as None doors keeper spawner a b same_doors same_left same_spawner alone = record {
    serves = subst (λ (ds : List D). IsServe telling.serving config doors ds keeper b.left) (sym same_doors)
        (subst (λ (l : Served K). IsServe telling.serving config doors a.doors keeper l) (sym same_left) alone.serves);
    spawner_same = same_spawner ∙ alone.spawner_same;
  }
  period-as (Some hook) doors keeper spawner a b same_doors same_left same_spawner beside = record {
    before = beside.before;
    after = beside.after;
    was = beside.was;
    is = same_spawner ∙ beside.is;
    serves = subst (λ (ds : List D). IsServeBeside telling config hook doors ds keeper beside.before b.left
        beside.after) (sym same_doors)
        (subst (λ (l : Served K). IsServeBeside telling config hook doors a.doors keeper beside.before l beside.after)
        (sym same_left) beside.serves);
  }

  -- what serving promises, it promises
  pub served-as : ServesAsWell telling → (o : Option Hook) (doors : List D) (keeper : K) (spawner : Option P)
      (round : Round D K P) → PeriodBy o doors keeper spawner round
      → ServesBut telling config doors round.doors keeper round.left
  served-as law None doors keeper spawner round alone = record {
    status = round.left.status;
    serves = alone.serves;
    unserved = λ no. refl;
  }
  served-as law (Some hook) doors keeper spawner round beside =
      law config hook doors round.doors keeper beside.before round.left beside.after beside.serves

  -- what runs programs is there after it where it was there before
  pub handed-on : (o : Option Hook) (doors : List D) (keeper : K) (spawner : Option P) (round : Round D K P)
      → PeriodBy o doors keeper spawner round → is_some spawner ≡ is_some o → is_some round.spawner ≡ is_some o
  handed-on None doors keeper spawner round alone handed =
      ap (λ (s : Option P). is_some s) alone.spawner_same ∙ handed
  handed-on (Some hook) doors keeper spawner round beside handed = ap (λ (s : Option P). is_some s) beside.is

module _ {S T K E D F C L P : Type 0} (telling : TellingBeside D F K P) (config : Config) where
  -- the doors were served once, and the world was asked to keep what that left
  pub round-of : (doors now : List D) (keeper : K) (spawner spawner_now : Option P) (left : Served K)
      (old new : Seen S T K E D C L P) (status : Status) (o : Option Period)
      → period_between left.opening left.history left.rows left.ends ≡ o
      → ServesPeriod telling config doors now keeper spawner left spawner_now → Keeps old new o left.status status
      → new ≡ record old { periods = new.periods }
      → RunsRound telling config doors now keeper left.keeper spawner spawner_now old new status
  round-of doors now keeper spawner spawner_now left old new status None is serves keeps others = record {
    round = record { doors = now; left = left; spawner = spawner_now; kept = true };
    is = record { serves = serves; kept = λ no. absurd cc };
    left_doors = refl;
    left_keeper = refl;
    left_spawner = refl;
    ends = keeps.0;
    keeps = record {
      periods = λ tells. keeps.1 ∙ sym (append-nil old.periods)
          ∙ ap (λ (p : Option Period). old.periods ++ (option_to_list p ++ [])) (sym is);
      others = others;
    };
  }
  round-of doors now keeper spawner spawner_now left old new status (Some period) is serves (inl keeps) others =
      record {
        round = record { doors = now; left = left; spawner = spawner_now; kept = true };
        is = record { serves = serves; kept = λ no. absurd cc };
        left_doors = refl;
        left_keeper = refl;
        left_spawner = refl;
        ends = keeps.0;
        keeps = record {
          periods = λ tells. keeps.1 tells
              ∙ ap (λ (p : Option Period). old.periods ++ (option_to_list p ++ [])) (sym is);
          others = others;
        };
      }
  round-of doors now keeper spawner spawner_now left old new status (Some period) is serves (inr keeps) others =
      let round : Round D K P = record { doors = now; left = left; spawner = spawner_now; kept = false } in
      record {
        round = round;
        is = record {
          serves = period-as telling config config.hook doors keeper spawner
              (record { doors = now; left = left; spawner = spawner_now; kept = true }) round refl refl refl serves;
          kept = λ no. subst (λ (p : Option Period). IsSome p) (sym is) refl;
        };
        left_doors = refl;
        left_keeper = refl;
        left_spawner = refl;
        ends = keeps.0;
        keeps = record { periods = λ tells. keeps.1 ∙ sym (append-nil old.periods); others = others };
      }

module _ {D F K P : Type 0} (telling : TellingBeside D F K P) (config : Config) where
  -- what was run so far, where so many more may be run: whatever may follow the last round follows all of them
  abbrev pub SoFar : ℕ → List D → K → Option P → List (Round D K P) → Round D K P → Type 0
  SoFar more doors keeper spawner earlier last = (rounds : List (Round D K P)) → Follow telling config more last rounds
      → AreRounds telling config doors keeper spawner (earlier ++ last ∷ rounds)

  pub so-far-one : (doors : List D) (keeper : K) (spawner : Option P) (first : Round D K P)
      → IsRound telling config doors keeper spawner first
      → SoFar (config.limits.max_periods - 1) doors keeper spawner [] first
  so-far-one doors keeper spawner first is rounds follow = (is, follow)

  pub so-far-more : (more : ℕ) (doors : List D) (keeper : K) (spawner : Option P) (earlier : List (Round D K P))
      (last next : Round D K P) → SoFar more doors keeper spawner earlier last → is_full (ending last) ≡ true
      → 0 < more → IsRound telling config last.doors last.left.keeper last.spawner next
      → GoesOn telling config last next → SoFar (more - 1) doors keeper spawner (earlier ++ last ∷ []) next
  so-far-more more doors keeper spawner earlier last next so_far full some is goes rounds follow =
      subst (λ (rs : List (Round D K P)). AreRounds telling config doors keeper spawner rs)
      (sym (append_assoc earlier (last ∷ []) (next ∷ rounds)))
      (so_far (next ∷ rounds) (full, (some, (is, (goes, follow)))))

  pub so-far-all : (more : ℕ) (doors : List D) (keeper : K) (spawner : Option P) (earlier : List (Round D K P))
      (last : Round D K P) → SoFar more doors keeper spawner earlier last
      → (is_full (ending last) ≡ true → more ≡ 0)
      → AreRounds telling config doors keeper spawner (earlier ++ last ∷ [])
  so-far-all more doors keeper spawner earlier last so_far ends = so_far [] ends

module _ {D F K : Type 0} (telling : TellingDoors D F K) (config : Config) where
  -- the doors keep their number and their listeners
  pub doors-stay : (doors now : List D) (keeper : K) (left : Served K) → IsServe telling config doors now keeper left
      → length now ≡ length doors
  doors-stay doors now keeper left serves = elim serves.leaves [
    | inl none ↦ ap length none.doors
    | inr served ↦ served.served.doors.doors
  ]

  pub listeners-stay : (doors now : List D) (keeper : K) (left : Served K) (most : ℕ)
      → IsServe telling config doors now keeper left
      → ((i : ℕ) (d : D) → i < length doors → telling.door.listener (slice_index_or doors i d) < most)
      → (i : ℕ) (d : D) → i < length now → telling.door.listener (slice_index_or now i d) < most
  listeners-stay doors now keeper left most serves within i d inside =
      let count : length now ≡ length doors = doors-stay doors now keeper left serves in
      let first : telling.door.listener (slice_index_or doors i d) < most = within i d (omega (arith, count, inside)) in
      elim serves.leaves [
        | inl none ↦ rw none.doors first
        | inr served ↦
            let none : DoorRun F = record { services = []; stop = Closed } in
            rw (served.served.doors.each i d d none inside).runs.listener first
      ]

  -- no period ends for words without a form
  of-outcome : (outcome : DoorEnd) → served_status outcome ≢ Usage
  of-outcome stop.Closed is = absurd cc
  of-outcome stop.Failed is = absurd cc
  of-outcome (stop.Full n) is = absurd cc
  of-outcome stop.NoMemory is = absurd cc

  pub serve-not-usage : (doors now : List D) (keeper : K) (left : Served K)
      → IsServe telling config doors now keeper left → left.status ≢ Usage
  serve-not-usage doors now keeper left serves is = elim serves.leaves [
    | inl none ↦ subst (λ (s : Status). StoreCause (telling.pairs keeper) (telling.faults keeper)
        (telling.faults left.keeper) s) is none.cause
    | inr served ↦ of-outcome served.outcome (sym served.status ∙ is)
  ]

-- nor one with a hook
of-doors : (end : DoorEnd) (status : Status) → status ≢ Usage → after_doors end status ≢ Usage
of-doors stop.Closed status other is = other is
of-doors stop.Failed status other is = absurd cc
of-doors (stop.Full n) status other is = absurd cc
of-doors stop.NoMemory status other is = absurd cc

of-beside : (end : DoorEnd) (answer : Drained) → status_beside end answer ≢ Usage
of-beside end drained.Empty is = of-doors end Done (λ same. absurd cc) is
of-beside end (drained.Held n) is = of-doors end (HookHeld n) (λ same. absurd cc) is
of-beside end (drained.StoreFault n) is = of-doors end (HookStore n) (λ same. absurd cc) is
of-beside end drained.NoMemory is = absurd cc

pub period-not-usage : {D F K P : Type 0} (telling : TellingBeside D F K P) (config : Config) (o : Option Hook)
    (doors : List D) (keeper : K) (spawner : Option P) (round : Round D K P)
    → PeriodBy telling config o doors keeper spawner round → round.left.status ≢ Usage
period-not-usage telling config None doors keeper spawner round alone is =
    serve-not-usage telling.serving config doors round.doors keeper round.left alone.serves is
period-not-usage telling config (Some hook) doors keeper spawner round beside is = elim beside.serves.leaves [
  | inl none ↦ subst (λ (s : Status). StoreCause (telling.serving.pairs keeper) (telling.serving.faults keeper)
      (telling.serving.faults round.left.keeper) s) is none.serves.cause
  | inr has ↦ of-beside has.outcome has.answer (sym has.status ∙ is)
]

-- the periods of some rounds, and of one more
pub keeps-more : {S T K E D C L P : Type 0} (w0 w1 w2 : Seen S T K E D C L P) (rounds : List (Round D K P))
    (next : Round D K P)
    → KeepsRounds w0 w1 rounds → KeepsRounds w1 w2 (next ∷ []) → KeepsRounds w0 w2 (rounds ++ next ∷ [])
keeps-more w0 w1 w2 rounds next first second = record {
  periods = λ tells. second.periods (ap (λ (s : Seen _ _ _ _ _ _ _ _). s.tells) first.others ∙ tells)
      ∙ ap (λ (ps : List Period). ps ++ flat_map kept_in (next ∷ [])) (first.periods tells)
      ∙ append_assoc w0.periods (flat_map kept_in rounds) (flat_map kept_in (next ∷ []))
      ∙ ap (λ (ps : List Period). w0.periods ++ ps) (sym (flat_map-append kept_in rounds (next ∷ [])));
  others = second.others ∙ ap (λ (s : Seen _ _ _ _ _ _ _ _). record s { periods = w2.periods }) first.others;
}
