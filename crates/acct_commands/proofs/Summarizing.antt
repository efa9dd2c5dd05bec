-- What the replay of the generated events leaves, and how the command ends.
use Rattle.std.proofs.Common.{◌≡◌, ◌≢◌, ℕ, ◌⊎◌, inl, inr, List, [], Option, Some, None}
use Rattle.std.proofs.Common.{refl, sym, ap, ◌∙◌, subst, arith}
use Rattle.std.specs.Prelude.{codes}
use Rattle.acct_config.specs.declared.config.Config.{Config}
use Rattle.acct_keeper.specs.declared.pairs.Pair.{Pair}
use Rattle.acct_keeper.specs.Faults.{Rose}
use Rattle.acct_keeper.specs.Memory.{SteadyInMemory}
use Rattle.acct_keeper.specs.declared.memory_streams.SteadySink.{SteadySink}
use Rattle.acct_server.specs.declared.replays.Replayed.{Replayed}
use Rattle.acct_server.specs.declared.status.Status.{Status}
use Rattle.acct_server.specs.declared.status.Status.TheVariants.{Done, NoMemory, Usage, Config as ConfigBroken}
use Rattle.acct_server.specs.declared.status.Status.TheVariants.{ReadFault, WriteFault, StoreFault, StoredPair}
use Rattle.acct_server.specs.declared.status.Status.TheVariants.{EventLine, HistoryFull, InputTooLong}
use Rattle.acct_server.specs.Leaves.{IsOfRun, IsRunThrough, ConfigCause, EventsCause, StoreCause, spelled}
use Rattle.acct_server.specs.Replayed.{listener_from}
use Rattle.acct_server.specs.Replaying.{TellingReplay, Parts, HasNotRun, IsReplay}
use Rattle.acct_commands.specs.Generated.{generated}
use Rattle.acct_commands.specs.Generating.{configuration, source, steady, LeftByReplay, IsWritten}
use Rattle.acct_commands.specs.Generating.{AreAccepted, IsOfGenerated}
use Rattle.acct_commands.proofs.Configured.{configuration-is-taken}

-- why the lines weren't run
abbrev Causes : {S T K : Type 0} → TellingReplay S T K → Parts S T K → Parts S T K → Status → Type 0
Causes told old new s =
    ConfigCause (told.left old.config) (told.read_faults old.config) (told.read_faults new.config) s
    ⊎ (EventsCause (told.left old.events) (told.read_faults old.events) (told.read_faults new.events) s
    ⊎ StoreCause (told.pairs old.keeper) (told.store_faults old.keeper) (told.store_faults new.keeper) s)

pub not-run-has-cause : {S T K : Type 0} (told : TellingReplay S T K) (old new : Parts S T K) (left : Replayed K)
    (s : Status)
    → HasNotRun told old new left → left.status ≡ s → Causes told old new s
not-run-has-cause told old new left s none is =
    let C : Status → Type 0 = λ (x : Status).
    ConfigCause (told.left old.config) (told.read_faults old.config) (told.read_faults new.config) x in
    let E : Status → Type 0 = λ (x : Status).
    EventsCause (told.left old.events) (told.read_faults old.events) (told.read_faults new.events) x in
    let K : Status → Type 0 = λ (x : Status).
    StoreCause (told.pairs old.keeper) (told.store_faults old.keeper) (told.store_faults new.keeper) x in
    elim none.cause [
      | inl config ↦ inl (subst C is config.cause)
      | inr other ↦ elim other [
        | inl events ↦ inr (inl (subst E is events.cause))
        | inr store ↦ inr (inr (subst K is store.cause))
      ]
    ]

-- ---- how the replay ends

-- the parts with which the generated events are replayed
abbrev pub Before : ℕ → SteadySink → Parts SteadyInMemory SteadySink (List Pair)
Before users out =
    record { config = source configuration; events = source (generated users); out = out; keeper = [] }

-- a count that never rises hasn't risen
never-rose : Rose 0 0 → ⊥
never-rose rose = omega (arith, rose)

-- where the lines weren't run, memory ran out or there are too many of them
by-config : (s : Status) → ConfigCause (Some configuration) 0 0 s → IsOfGenerated s
by-config NoMemory cause = tt
by-config InputTooLong cause = tt
by-config ReadFault cause = absurd (never-rose cause)
by-config (ConfigBroken n) cause =
    let clash : None ≡ Some n = sym configuration-is-taken.kept_all ∙ cause.0 in absurd cc
by-config _ never = absurd never

by-events : (events : List ℕ) (s : Status) → EventsCause (Some events) 0 0 s → IsOfGenerated s
by-events events NoMemory cause = tt
by-events events InputTooLong cause = tt
by-events events ReadFault cause = absurd (never-rose cause)
by-events events _ never = absurd never

by-store : (s : Status) → StoreCause (Some []) 0 0 s → IsOfGenerated s
by-store NoMemory cause = tt
by-store StoreFault cause = absurd (never-rose cause)
by-store (StoredPair key) cause = absurd (cause.0 refl)
by-store _ never = absurd never

-- where they were run, none was refused and no write failed
by-run : (s : Status) → IsOfRun s → s ≢ WriteFault → ((n : ℕ) → s ≢ EventLine n) → IsOfGenerated s
by-run Done run wrote accepted = tt
by-run NoMemory run wrote accepted = tt
by-run WriteFault run wrote accepted = absurd (wrote refl)
by-run (EventLine n) run wrote accepted = absurd (accepted n refl)
by-run (HistoryFull count) run wrote accepted = tt
by-run _ never wrote accepted = absurd never

is-possible : (users : ℕ) (out : SteadySink) (after : Parts SteadyInMemory SteadySink (List Pair))
    (left : Replayed (List Pair)) → AreAccepted (generated users) → IsReplay steady (Before users out) after left
    → IsOfGenerated left.status
is-possible users out after left accepted replayed = elim replayed.leaves [
  | inl none ↦ elim (not-run-has-cause steady (Before users out) after left left.status none refl) [
    | inl config ↦ by-config left.status config
    | inr other ↦ elim other [
      | inl events ↦ by-events (generated users) left.status events
      | inr store ↦ by-store left.status store
    ]
  ]
  | inr has ↦
      let under : has.start.config ≡ spelled configuration = has.begun.under ∙ has.configured.told.value in
      let place : listener_from 0 (codes "a") has.start.config.listeners ≡ Some 0 =
      ap (λ (c : Config). listener_from 0 (codes "a") c.listeners) under ∙ configuration-is-taken.listener in
      let all : AreAccepted has.events =
      subst (λ (lines : List ℕ). AreAccepted lines) (sym has.whole.all) accepted in
      by-run left.status has.runs.possible (λ is. never-rose (has.runs.write is))
      (λ n is. all has.start left.history 0 place n
      (sym (has.runs.through (subst IsRunThrough (sym is) tt)).ends ∙ is))
]

-- ---- the replay

-- a replay that found no memory for its sources
pub without-sources : (users : ℕ) (out : SteadySink) (left : Replayed (List Pair)) → left.status ≡ NoMemory
    → left.opening ≡ None → left.history ≡ [] → left.rows ≡ None → left.keeper ≡ [] → LeftByReplay users left
without-sources users out left is opening history rows keeper = record {
  out = out;
  after = record { config = source configuration; events = source (generated users); out = out; keeper = [] };
  keeper = sym keeper;
  replayed = record {
    leaves = inl (record {
      opening = opening;
      nothing = history;
      rows = rows;
      out = refl;
      cause = inl (record {
        cause = subst (λ (s : Status). ConfigCause (Some configuration) 0 0 s) (sym is) tt;
        events = refl;
        keeper = refl;
      });
    });
    complete = λ quiet. inr (inr is);
    config_later = omega arith;
    events_later = omega arith;
    out_later = omega arith;
    keeper_later = omega arith;
  };
  possible = subst IsOfGenerated (sym is) tt;
}

-- a replay over parts that are these
pub left-by-replay : (users : ℕ) (old after : Parts SteadyInMemory SteadySink (List Pair)) (left : Replayed (List Pair))
    → old.config ≡ source configuration → old.events ≡ source (generated users) → old.keeper ≡ []
    → after.keeper ≡ left.keeper → AreAccepted (generated users) → IsReplay steady old after left
    → LeftByReplay users left
left-by-replay users old after left config events keeper kept accepted replayed =
    let same : IsReplay steady (Before users old.out) after left =
    subst (λ (k : List Pair). IsReplay steady
    (record { config = source configuration; events = source (generated users); out = old.out; keeper = k })
    after left) keeper
    (subst (λ (e : SteadyInMemory). IsReplay steady
    (record { config = source configuration; events = e; out = old.out; keeper = old.keeper }) after left) events
    (subst (λ (d : SteadyInMemory). IsReplay steady
    (record { config = d; events = old.events; out = old.out; keeper = old.keeper }) after left) config replayed)) in
    record {
      out = old.out;
      after = after;
      keeper = kept;
      replayed = same;
      possible = is-possible users old.out after left accepted same;
    }

-- ---- how the command ends

pub written-not-usage : (text : List ℕ) (held now : Option (List ℕ)) (before after : ℕ) (ended : Status)
    → IsWritten text held now before after ended → ended ≢ Usage
written-not-usage text held now before after ended written is =
    subst (λ (s : Status). IsWritten text held now before after s) is written
