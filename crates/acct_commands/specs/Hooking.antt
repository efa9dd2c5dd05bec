-- What the command `hooks CONFIG STORE` does to a world.
use Rattle.std.specs.Prelude.{◌≡◌, ◌≢◌, ℕ, ◌≤◌, true, false, List, ◌∷◌, [], ◌++◌, ◌⊎◌, length, Option, Some, None}
use Rattle.std.specs.Prelude.{IsSome, IfSome, MatchOption}
use Rattle.acct_config.specs.Rules.{first_broken}
use Rattle.acct_config.specs.declared.config.Config.{Config}
use Rattle.acct_config.specs.declared.config.Hook.{Hook}
use Rattle.acct_keeper.specs.Faults.{NotRisen, most_bytes}
use Rattle.acct_server.specs.Leaves.{IsConfigured, spelled, ConfigCause}
use Rattle.acct_server.specs.Hooked.{TellingHooks, HookParts, RunsHooks, DrainsQuietly, IsDrainsEnd}
use Rattle.acct_server.specs.declared.status.Status.{Status}
use Rattle.acct_server.specs.declared.status.Status.TheVariants.{Config as ConfigBroken}
use Rattle.acct_world.specs.declared.part.Part.{Part}
use Rattle.acct_world.specs.declared.part.Part.TheVariants.{Source, Keeper, Spawner}
use Rattle.acct_world.specs.World.{Seen}
use Rattle.acct_commands.specs.Words.{ServeNames}
use Rattle.acct_commands.specs.Commanded.{NotHandedOut}

-- the parts that the command asks for, in order
abbrev pub wanted_for_hooks : ServeNames → List Part
wanted_for_hooks names = Source names.config ∷ Keeper names.store ∷ Spawner ∷ []

-- the rule of this command alone: the configuration has a program
abbrev pub hook_rule : ℕ
hook_rule = 12

-- What the parts of the command tell: of a source the bytes that it has left and its count of faults, and what a keeper
-- and a spawner tell.
pub record TellingOutbox (S K P : Type 0) : Type 0 where
  pub left : S → Option (List ℕ)
  pub read_faults : S → ℕ
  pub hooks : TellingHooks K P

-- the source of the configuration, the keeper and the spawner at one time
pub record OutboxParts (S K P : Type 0) : Type 0 where
  pub config : S
  pub keeper : K
  pub spawner : P

-- Where a configuration has a program the outbox of the store is drained with it. Where it has none, that is the status,
-- and the keeper and the spawner are untouched.
abbrev pub DrainsBy : {K P : Type 0} → TellingHooks K P → Config → HookParts K P → HookParts K P → Status → Type 0
DrainsBy told config before after status =
    MatchOption config.hook ((status ≡ ConfigBroken hook_rule) × (after ≡ before))
    (λ hook. RunsHooks told config hook before after status)

abbrev pub hook_parts : {S K P : Type 0} → OutboxParts S K P → HookParts K P
hook_parts parts = record { keeper = parts.keeper; spawner = parts.spawner }

module _ {S K P : Type 0} (told : TellingOutbox S K P) where
  -- a right configuration, the one that the document spells, if the source tells it
  pub record IsSpelled (source : S) (config : Config) : Type 0 where
    pub configured : IsConfigured (told.left source) config
    pub short : IfSome (told.left source) (λ document. length document ≤ most_bytes)

  -- The configuration wasn't taken: the keeper and the spawner are untouched.
  pub record HooksStopAtConfig (before after : OutboxParts S K P) (status : Status) : Type 0 where
    pub cause : ConfigCause (told.left before.config) (told.read_faults before.config)
        (told.read_faults after.config) status
    pub others : hook_parts after ≡ hook_parts before

  -- It was, and it has no program: the keeper and the spawner are untouched.
  pub record HasNoHook (before after : OutboxParts S K P) (status : Status) : Type 0 where
    pub config : Config
    pub spelled : IsSpelled before.config config
    pub none : config.hook ≡ None
    pub is : status ≡ ConfigBroken hook_rule
    pub others : hook_parts after ≡ hook_parts before

  -- It has one, and the outbox of the store was drained with it.
  pub record DrainsOutbox (before after : OutboxParts S K P) (status : Status) : Type 0 where
    pub config : Config
    pub spelled : IsSpelled before.config config
    pub hook : Hook
    pub has : config.hook ≡ Some hook
    pub runs : RunsHooks told.hooks config hook (hook_parts before) (hook_parts after) status

  abbrev pub LeavesOutbox : OutboxParts S K P → OutboxParts S K P → Status → Type 0
  LeavesOutbox before after status =
      HooksStopAtConfig before after status ⊎ (HasNoHook before after status ⊎ DrainsOutbox before after status)

  -- Nothing failed outside: the source told a short document that breaks no rule and has a program, its count didn't
  -- rise, and neither the keeper nor a run failed.
  pub record IsQuiet (before after : OutboxParts S K P) : Type 0 where
    pub document : List ℕ
    pub tells : told.left before.config ≡ Some document
    pub short : length document ≤ most_bytes
    pub unbroken : first_broken document ≡ None
    pub hook : IsSome (spelled document).hook
    pub source : NotRisen (told.read_faults before.config) (told.read_faults after.config)
    pub drains : DrainsQuietly told.hooks (hook_parts before) (hook_parts after)

-- All parts were handed out: what was done over them is told by the parts before and after it, and the world has them
-- again.
pub record HasHooked {S T K E D C L P : Type 0} (told : TellingOutbox S K P) (names : ServeNames)
    (old new : Seen S T K E D C L P) (status : Status) : Type 0 where
  pub before : OutboxParts S K P
  pub after : OutboxParts S K P
  pub leaves : LeavesOutbox told before after status
  -- where nothing failed outside, and each run ended with 0, it is done, or memory ran out
  pub complete : IsQuiet told before after → IsDrainsEnd status
  pub took_config : old.tells ≡ true → old.source names.config ≡ Some before.config
  pub took_keeper : old.tells ≡ true → old.keeper names.store ≡ Some before.keeper
  pub took_spawner : old.tells ≡ true → old.spawner ≡ Some before.spawner
  -- where the world doesn't tell its keeper, the one without a name holds no pair
  pub no_pair : old.tells ≡ false → names.store ≡ [] → told.hooks.pairs before.keeper ≡ Some []
  pub gave_config : old.tells ≡ true → new.source names.config ≡ Some after.config
  pub gave_keeper : old.tells ≡ true → new.keeper names.store ≡ Some after.keeper
  pub gave_spawner : old.tells ≡ true → new.spawner ≡ Some after.spawner
  -- and no other source or keeper has changed
  pub sources : (other : List ℕ) → other ≢ names.config → new.source other ≡ old.source other
  pub keepers : (other : List ℕ) → other ≢ names.store → new.keeper other ≡ old.keeper other
  pub sink : new.sink ≡ old.sink
  pub entrance : new.entrance ≡ old.entrance
  pub caller : new.caller ≡ old.caller
  pub periods : new.periods ≡ old.periods
  pub asked : old.tells ≡ true → new.asked ≡ old.asked ++ wanted_for_hooks names

abbrev pub Hooks : {S T K E D C L P : Type 0} → TellingOutbox S K P → ServeNames → Seen S T K E D C L P
    → Seen S T K E D C L P → Status → Type 0
Hooks told names old new status =
    NotHandedOut (wanted_for_hooks names) old new status ⊎ HasHooked told names old new status

-- The parts were used, and the world has them again: what the part after they were taken leaves.
pub record ReturnsOutbox {S T K E D C L P : Type 0} (told : TellingOutbox S K P) (names : ServeNames)
    (before : OutboxParts S K P) (old new : Seen S T K E D C L P) (status : Status) : Type 0 where
  pub after : OutboxParts S K P
  pub leaves : LeavesOutbox told before after status
  pub gave_config : old.tells ≡ true → old.knows names.config ≡ true → new.source names.config ≡ Some after.config
  pub gave_keeper : old.tells ≡ true → old.stores names.store ≡ true → new.keeper names.store ≡ Some after.keeper
  pub gave_spawner : old.tells ≡ true → new.spawner ≡ Some after.spawner
  pub sources : (other : List ℕ) → other ≢ names.config → new.source other ≡ old.source other
  pub keepers : (other : List ℕ) → other ≢ names.store → new.keeper other ≡ old.keeper other
  pub sink : new.sink ≡ old.sink
  pub entrance : new.entrance ≡ old.entrance
  pub caller : new.caller ≡ old.caller
  pub periods : new.periods ≡ old.periods
  pub asked : new.asked ≡ old.asked
