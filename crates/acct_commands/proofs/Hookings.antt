-- What a world shows over the command `hooks`: parts that are out are given back, and those that were handed out
-- before; and where nothing failed outside, draining comes to its end.
use Rattle.std.proofs.Common.{◌≡◌, ◌≢◌, ℕ, ◌<◌, ◌≤◌, inl, inr, List, ◌∷◌, [], length, Ok, refl, sym, ◌∙◌, ap}
use Rattle.std.proofs.Common.{Option, Some, None, subst, arith}
use Rattle.std.specs.Prelude.{is_some, true, false, IfSome, IsSome, MatchOption}
use Rattle.account_hooks.specs.declared.drains.Drained.{Drained}
use Rattle.account_hooks.specs.declared.drains.Drained.TheVariants as drained
use Rattle.acct_config.specs.Rules.{first_broken}
use Rattle.acct_config.specs.Spelled.{IsSpelledBy}
use Rattle.acct_config.specs.declared.config.Config.{Config}
use Rattle.acct_config.specs.declared.config.Hook.{Hook}
use Rattle.acct_keeper.specs.Faults.{Rose, NotRisen, most_bytes}
use Rattle.acct_server.specs.Leaves.{spelled, ConfigCause, StoreCause}
use Rattle.acct_server.specs.Hooked.{RunsHooks, HooksAreComplete, IsDrainsEnd, hook_status}
use Rattle.acct_server.specs.declared.status.Status.{Status}
use Rattle.acct_server.specs.declared.status.Status.TheVariants as status
use Rattle.acct_world.specs.declared.part.Part.TheVariants as part
use Rattle.acct_world.specs.World.{Seen, TakesSource, GivesSource, TakesKeeper, GivesKeeper, TakesSpawner}
use Rattle.acct_world.specs.World.{GivesSpawner}
use Rattle.acct_commands.specs.Words.{ServeNames}
use Rattle.acct_commands.specs.Hooking.{TellingOutbox, OutboxParts, LeavesOutbox, ReturnsOutbox, HasHooked, IsQuiet}
use Rattle.acct_commands.specs.Hooking.{IsSpelled, hook_parts, hook_rule}
use Rattle.acct_commands.proofs.Worlds.{asked-ok, asked-more}

not-risen : (before now : ℕ) → NotRisen before now → Rose before now → ⊥
not-risen before now still rose = omega (arith, still.0, still.1, rose)

-- ---- where nothing failed

-- a document that is told, is short and breaks no rule
abbrev Told : Option (List ℕ) → List ℕ → Type 0
Told left document = (left ≡ Some document) × (length document ≤ most_bytes) × (first_broken document ≡ None)

config-drains : (left : Option (List ℕ)) (document : List ℕ) (before now : ℕ) (s : Status) → Told left document
    → NotRisen before now → ConfigCause left before now s → IsDrainsEnd s
config-drains left document before now status.Done told still cause = tt
config-drains left document before now status.NoMemory told still cause = tt
config-drains left document before now (status.Config n) told still cause =
    let broken = subst (λ (o : Option (List ℕ)). IfSome o (λ bytes. (first_broken bytes ≡ Some n)
    × (length bytes ≤ most_bytes))) told.0 cause in
    let clash : None ≡ Some n = sym told.2 ∙ broken.0 in
    absurd cc
config-drains left document before now status.ReadFault told still cause = absurd (not-risen before now still cause)
config-drains left document before now status.InputTooLong told still cause =
    let long : most_bytes < length document =
    subst (λ (o : Option (List ℕ)). IfSome o (λ bytes. most_bytes < length bytes)) told.0 cause in
    absurd (omega (arith, long, told.1))
config-drains left document before now _ told still cause = absurd cause

-- a document with a program spells no configuration without one
no-program : (left : Option (List ℕ)) (document : List ℕ) (config : Config) → left ≡ Some document
    → IfSome left (λ bytes. IsSpelledBy bytes config) → config.hook ≡ None → IsSome (spelled document).hook → ⊥
no-program left document config told by none some =
    let is : IsSpelledBy document config =
    subst (λ (o : Option (List ℕ)). IfSome o (λ bytes. IsSpelledBy bytes config)) told by in
    let lacks : (spelled document).hook ≡ None = sym (ap (λ (c : Config). c.hook) is.value) ∙ none in
    let clash : false ≡ true = subst (λ (h : Option Hook). is_some h ≡ true) lacks some in
    absurd cc

-- ---- no status of it is that of words without a form

hook-not-usage : (answer : Drained) → hook_status answer ≢ status.Usage
hook-not-usage drained.Empty is = absurd cc
hook-not-usage (drained.Held number) is = absurd cc
hook-not-usage (drained.StoreFault count) is = absurd cc
hook-not-usage drained.NoMemory is = absurd cc

pub outbox-not-usage : {S K P : Type 0} (told : TellingOutbox S K P) (before after : OutboxParts S K P) (s : Status)
    → LeavesOutbox told before after s → s ≢ status.Usage
outbox-not-usage told before after s leaves is =
    let C : Status → Type 0 = λ (x : Status).
    ConfigCause (told.left before.config) (told.read_faults before.config) (told.read_faults after.config) x in
    let R : Status → Type 0 = λ (x : Status).
    StoreCause (told.hooks.pairs before.keeper) (told.hooks.faults before.keeper) (told.hooks.faults after.keeper) x in
    elim leaves [
      | inl stops ↦ subst C is stops.cause
      | inr taken ↦ elim taken [
        | inl lacks ↦ let clash : status.Config hook_rule ≡ status.Usage = sym lacks.is ∙ is in absurd cc
        | inr drains ↦ elim drains.runs.runs [
          | inl none ↦ subst R is none.cause
          | inr drained ↦ hook-not-usage drained.answer (sym drained.is ∙ is)
        ]
      ]
    ]

-- ---- a configuration that was taken

pub drained-with : {S K P : Type 0} (told : TellingOutbox S K P) (config : Config) (o : Option Hook)
    (before after : OutboxParts S K P) (s : Status) → config.hook ≡ o → IsSpelled told before.config config
    → MatchOption o ((s ≡ status.Config hook_rule) × (hook_parts after ≡ hook_parts before))
    (λ hook. RunsHooks told.hooks config hook (hook_parts before) (hook_parts after) s)
    → LeavesOutbox told before after s
drained-with told config None before after s is spelled by =
    inr (inl (record { config = config; spelled = spelled; none = is; is = by.0; others = by.1 }))
drained-with told config (Some hook) before after s is spelled by =
    inr (inr (record { config = config; spelled = spelled; hook = hook; has = is; runs = by }))

-- ---- where all is quiet

pub draining-completes : {S K P : Type 0} (told : TellingOutbox S K P) (before after : OutboxParts S K P) (s : Status)
    → HooksAreComplete told.hooks → LeavesOutbox told before after s → IsQuiet told before after → IsDrainsEnd s
draining-completes told before after s complete leaves quiet = elim leaves [
  | inl stops ↦ config-drains (told.left before.config) quiet.document (told.read_faults before.config)
      (told.read_faults after.config) s (quiet.tells, quiet.short, quiet.unbroken) quiet.source stops.cause
  | inr taken ↦ elim taken [
    | inl lacks ↦ absurd (no-program (told.left before.config) quiet.document lacks.config quiet.tells
        lacks.spelled.configured.told lacks.none quiet.hook)
    | inr drains ↦ complete drains.config drains.hook (hook_parts before) (hook_parts after) s drains.runs quiet.drains
  ]
]

-- ---- the world

-- the parts that were out are given back
pub gave-back : {S T K E D C L P : Type 0} (told : TellingOutbox S K P) (names : ServeNames)
    (before after : OutboxParts S K P) (w3 w4 w5 w6 : Seen S T K E D C L P) (status : Status)
    → LeavesOutbox told before after status → GivesSpawner w3 w4 after.spawner
    → GivesKeeper w4 w5 names.store after.keeper → GivesSource w5 w6 names.config after.config
    → ReturnsOutbox told names before w3 w6 status
gave-back told names before after w3 w4 w5 w6 status leaves spawner keeper config =
    let tells4 : w4.tells ≡ w3.tells = ap (λ (s : Seen _ _ _ _ _ _ _ _). s.tells) spawner.others in
    let tells5 : w5.tells ≡ w3.tells = ap (λ (s : Seen _ _ _ _ _ _ _ _). s.tells) keeper.others ∙ tells4 in
    record {
      after = after;
      leaves = leaves;
      gave_config = λ tells knows. config.holds (tells5 ∙ tells)
          (ap (λ (s : Seen _ _ _ _ _ _ _ _). s.knows names.config) keeper.others
          ∙ ap (λ (s : Seen _ _ _ _ _ _ _ _). s.knows names.config) spawner.others ∙ knows);
      gave_keeper = λ tells stores. ap (λ (s : Seen _ _ _ _ _ _ _ _). s.keeper names.store) config.others
          ∙ keeper.holds (tells4 ∙ tells)
          (ap (λ (s : Seen _ _ _ _ _ _ _ _). s.stores names.store) spawner.others ∙ stores);
      gave_spawner = λ tells. ap (λ (s : Seen _ _ _ _ _ _ _ _). s.spawner) config.others
          ∙ ap (λ (s : Seen _ _ _ _ _ _ _ _). s.spawner) keeper.others ∙ spawner.holds tells;
      sources = λ other differ. config.sources other differ
          ∙ ap (λ (s : Seen _ _ _ _ _ _ _ _). s.source other) keeper.others
          ∙ ap (λ (s : Seen _ _ _ _ _ _ _ _). s.source other) spawner.others;
      keepers = λ other differ. ap (λ (s : Seen _ _ _ _ _ _ _ _). s.keeper other) config.others
          ∙ keeper.keepers other differ ∙ ap (λ (s : Seen _ _ _ _ _ _ _ _). s.keeper other) spawner.others;
      sink = ap (λ (s : Seen _ _ _ _ _ _ _ _). s.sink) config.others
          ∙ ap (λ (s : Seen _ _ _ _ _ _ _ _). s.sink) keeper.others
          ∙ ap (λ (s : Seen _ _ _ _ _ _ _ _). s.sink) spawner.others;
      entrance = ap (λ (s : Seen _ _ _ _ _ _ _ _). s.entrance) config.others
          ∙ ap (λ (s : Seen _ _ _ _ _ _ _ _). s.entrance) keeper.others
          ∙ ap (λ (s : Seen _ _ _ _ _ _ _ _). s.entrance) spawner.others;
      caller = ap (λ (s : Seen _ _ _ _ _ _ _ _). s.caller) config.others
          ∙ ap (λ (s : Seen _ _ _ _ _ _ _ _). s.caller) keeper.others
          ∙ ap (λ (s : Seen _ _ _ _ _ _ _ _). s.caller) spawner.others;
      periods = ap (λ (s : Seen _ _ _ _ _ _ _ _). s.periods) config.others
          ∙ ap (λ (s : Seen _ _ _ _ _ _ _ _). s.periods) keeper.others
          ∙ ap (λ (s : Seen _ _ _ _ _ _ _ _). s.periods) spawner.others;
      asked = ap (λ (s : Seen _ _ _ _ _ _ _ _). s.asked) config.others
          ∙ ap (λ (s : Seen _ _ _ _ _ _ _ _). s.asked) keeper.others
          ∙ ap (λ (s : Seen _ _ _ _ _ _ _ _). s.asked) spawner.others;
    }

-- all parts were handed out, and are given back
pub has-hooked : {S T K E D C L P : Type 0} (told : TellingOutbox S K P) (names : ServeNames)
    (w0 w1 w2 w3 w6 : Seen S T K E D C L P) (config : S) (keeper : K) (spawner : P) (status : Status)
    → TakesSource w0 w1 names.config (Ok config) → TakesKeeper told.hooks.pairs w1 w2 names.store (Ok keeper)
    → TakesSpawner w2 w3 (Ok spawner) → HooksAreComplete told.hooks
    → ReturnsOutbox told names (record { config = config; keeper = keeper; spawner = spawner }) w3 w6 status
    → HasHooked told names w0 w6 status
has-hooked told names w0 w1 w2 w3 w6 config keeper spawner status source store runner complete back =
    let tells1 : w1.tells ≡ w0.tells = ap (λ (s : Seen _ _ _ _ _ _ _ _). s.tells) source.others in
    let tells2 : w2.tells ≡ w0.tells = ap (λ (s : Seen _ _ _ _ _ _ _ _). s.tells) store.others ∙ tells1 in
    let tells3 : w3.tells ≡ w0.tells = ap (λ (s : Seen _ _ _ _ _ _ _ _). s.tells) runner.others ∙ tells2 in
    record {
      before = record { config = config; keeper = keeper; spawner = spawner };
      after = back.after;
      leaves = back.leaves;
      complete = λ quiet. draining-completes told
          (record { config = config; keeper = keeper; spawner = spawner }) back.after status complete back.leaves
          quiet;
      took_config = λ tells. (source.part tells).0;
      took_keeper = λ tells. sym (ap (λ (s : Seen _ _ _ _ _ _ _ _). s.keeper names.store) source.others)
          ∙ (store.part (tells1 ∙ tells)).0;
      took_spawner = λ tells. sym (ap (λ (s : Seen _ _ _ _ _ _ _ _). s.spawner) store.others
          ∙ ap (λ (s : Seen _ _ _ _ _ _ _ _). s.spawner) source.others) ∙ runner.part (tells2 ∙ tells);
      no_pair = λ silent unnamed. store.empty (tells1 ∙ silent) unnamed;
      gave_config = λ tells. back.gave_config (tells3 ∙ tells)
          (ap (λ (s : Seen _ _ _ _ _ _ _ _). s.knows names.config) runner.others
          ∙ ap (λ (s : Seen _ _ _ _ _ _ _ _). s.knows names.config) store.others
          ∙ ap (λ (s : Seen _ _ _ _ _ _ _ _). s.knows names.config) source.others ∙ (source.part tells).1);
      gave_keeper = λ tells. back.gave_keeper (tells3 ∙ tells)
          (ap (λ (s : Seen _ _ _ _ _ _ _ _). s.stores names.store) runner.others
          ∙ ap (λ (s : Seen _ _ _ _ _ _ _ _). s.stores names.store) store.others ∙ (store.part (tells1 ∙ tells)).1);
      gave_spawner = λ tells. back.gave_spawner (tells3 ∙ tells);
      sources = λ other differ. back.sources other differ
          ∙ ap (λ (s : Seen _ _ _ _ _ _ _ _). s.source other) runner.others
          ∙ ap (λ (s : Seen _ _ _ _ _ _ _ _). s.source other) store.others ∙ source.sources other differ;
      keepers = λ other differ. back.keepers other differ
          ∙ ap (λ (s : Seen _ _ _ _ _ _ _ _). s.keeper other) runner.others
          ∙ store.keepers other differ ∙ ap (λ (s : Seen _ _ _ _ _ _ _ _). s.keeper other) source.others;
      sink = back.sink ∙ ap (λ (s : Seen _ _ _ _ _ _ _ _). s.sink) runner.others
          ∙ ap (λ (s : Seen _ _ _ _ _ _ _ _). s.sink) store.others
          ∙ ap (λ (s : Seen _ _ _ _ _ _ _ _). s.sink) source.others;
      entrance = back.entrance ∙ ap (λ (s : Seen _ _ _ _ _ _ _ _). s.entrance) runner.others
          ∙ ap (λ (s : Seen _ _ _ _ _ _ _ _). s.entrance) store.others
          ∙ ap (λ (s : Seen _ _ _ _ _ _ _ _). s.entrance) source.others;
      caller = back.caller ∙ ap (λ (s : Seen _ _ _ _ _ _ _ _). s.caller) runner.others
          ∙ ap (λ (s : Seen _ _ _ _ _ _ _ _). s.caller) store.others
          ∙ ap (λ (s : Seen _ _ _ _ _ _ _ _). s.caller) source.others;
      periods = back.periods ∙ ap (λ (s : Seen _ _ _ _ _ _ _ _). s.periods) runner.others
          ∙ ap (λ (s : Seen _ _ _ _ _ _ _ _). s.periods) store.others
          ∙ ap (λ (s : Seen _ _ _ _ _ _ _ _). s.periods) source.others;
      asked = λ tells.
          let first = asked-ok (part.Source names.config) w0.asked w1.asked config (Ok config) refl (source.asked tells)
          in
          let second = asked-ok (part.Keeper names.store) w1.asked w2.asked keeper (Ok keeper) refl
          (store.asked (tells1 ∙ tells)) in
          let third = asked-ok part.Spawner w2.asked w3.asked spawner (Ok spawner) refl
          (runner.asked (tells2 ∙ tells)) in
          back.asked
          ∙ asked-more w0.asked w2.asked w3.asked (part.Source names.config ∷ part.Keeper names.store ∷ [])
          part.Spawner
          (asked-more w0.asked w1.asked w2.asked (part.Source names.config ∷ []) (part.Keeper names.store) first second)
          third;
    }
