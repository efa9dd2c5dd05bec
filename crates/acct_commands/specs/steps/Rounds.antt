-- What the steps of the command `serve` do: one period, one round, all rounds, and the parts that are out and given
-- back.
use Rattle.std.specs.Prelude.{◌≡◌, ◌≢◌, ℕ, true, List, ◌∷◌, [], ◌++◌, Option, Some, MatchOption}
use Rattle.std.specs.List.{flat_map}
use Rattle.acct_config.specs.declared.config.Config.{Config}
use Rattle.acct_server.specs.Beside.{TellingBeside}
use Rattle.acct_server.specs.declared.serving.Served.{Served}
use Rattle.acct_server.specs.declared.status.Status.{Status}
use Rattle.acct_commands.specs.Words.{ServeNames}
use Rattle.acct_world.specs.World.{Seen}
use Rattle.acct_commands.specs.Serving.{TellingServe, ServeParts, Spawning, Round, ServesAlone, ServesBeside, IsRound}
use Rattle.acct_commands.specs.Serving.{AreRounds, KeepsRounds, LeavesParts, HandsSpawner, IsSpelled, IsHandedBy}
use Rattle.acct_commands.specs.Serving.{ending, kept_in}

module _ {D F K P : Type 0} (telling : TellingBeside D F K P) (config : Config) where
  -- one period of serving, with the hook of the configuration or without one, whether it will be kept or not
  abbrev pub ServesPeriod : List D → List D → K → Option P → Served K → Option P → Type 0
  ServesPeriod doors doors_now keeper spawner left spawner_now =
      let round : Round D K P = record { doors = doors_now; left = left; spawner = spawner_now; kept = true } in
      MatchOption config.hook (ServesAlone telling config doors keeper spawner round)
      (λ hook. ServesBeside telling config hook doors keeper spawner round)

module _ {S T K E D F C L P : Type 0} (telling : TellingBeside D F K P) (config : Config) where
  -- One round was run, from the doors, the keeper and what runs programs before it to those after it.
  pub record RunsRound (doors doors_now : List D) (keeper keeper_now : K) (spawner spawner_now : Option P)
      (old new : Seen S T K E D C L P) (status : Status) : Type 0 where
    pub round : Round D K P
    pub is : IsRound telling config doors keeper spawner round
    pub left_doors : doors_now ≡ round.doors
    pub left_keeper : keeper_now ≡ round.left.keeper
    pub left_spawner : spawner_now ≡ round.spawner
    pub ends : status ≡ ending round
    pub keeps : KeepsRounds old new (round ∷ [])

  -- All rounds were run.
  pub record RunsRounds (doors doors_now : List D) (keeper keeper_now : K) (spawner spawner_now : Option P)
      (old new : Seen S T K E D C L P) (status : Status) : Type 0 where
    pub earlier : List (Round D K P)
    pub last : Round D K P
    pub are : AreRounds telling config doors keeper spawner (earlier ++ last ∷ [])
    pub left_doors : doors_now ≡ last.doors
    pub left_keeper : keeper_now ≡ last.left.keeper
    pub left_spawner : spawner_now ≡ last.spawner
    pub ends : status ≡ ending last
    pub keeps : KeepsRounds old new (earlier ++ last ∷ [])

-- The entrance was asked for its doors, and they were served, under a configuration that its source spells; what runs
-- programs was handed out before, where the configuration has a hook.
pub record RunsOpened {S T K E D F C L P : Type 0} (told : TellingServe S K E D F P) (config : Config)
    (before after : ServeParts S K E D) (handed back : Option P) (old new : Seen S T K E D C L P) (status : Status)
    : Type 0 where
  pub rounds : List (Round D K P)
  pub leaves : (spawning : Spawning P) → spawning.handed ≡ handed → spawning.back ≡ back → IsHandedBy config spawning
      → IsSpelled told before.config config → LeavesParts told before after spawning rounds status
  pub keeps : KeepsRounds old new rounds

-- What was done over parts that are out, and the periods that the world keeps of it. What runs programs was handed out
-- meanwhile, where the configuration has a hook, and given back.
pub record RunsParts {S T K E D F C L P : Type 0} (told : TellingServe S K E D F P) (before after : ServeParts S K E D)
    (old new : Seen S T K E D C L P) (status : Status) : Type 0 where
  pub spawning : Spawning P
  pub rounds : List (Round D K P)
  pub leaves : LeavesParts told before after spawning rounds status
  pub spawner : HandsSpawner old new spawning
  pub asked : old.tells ≡ true → new.asked ≡ old.asked ++ spawning.parts
  pub periods : old.tells ≡ true → new.periods ≡ old.periods ++ flat_map kept_in rounds
  pub others : new ≡ record old {
    periods = new.periods;
    spawner = new.spawner;
    asked = new.asked;
    spawner_faults = new.spawner_faults;
  }

-- The same, and the world has the parts again, with the doors.
pub record ReturnsParts {S T K E D F C L P : Type 0} (told : TellingServe S K E D F P) (names : ServeNames)
    (before : ServeParts S K E D) (old new : Seen S T K E D C L P) (status : Status) : Type 0 where
  pub after : ServeParts S K E D
  pub spawning : Spawning P
  pub rounds : List (Round D K P)
  pub leaves : LeavesParts told before after spawning rounds status
  pub gave_config : old.tells ≡ true → old.knows names.config ≡ true → new.source names.config ≡ Some after.config
  pub gave_keeper : old.tells ≡ true → old.stores names.store ≡ true → new.keeper names.store ≡ Some after.keeper
  pub gave_entrance : old.tells ≡ true → new.entrance ≡ Some after.entrance
  pub gave_doors : old.tells ≡ true → new.doors ≡ after.doors
  pub spawner : HandsSpawner old new spawning
  pub sources : (other : List ℕ) → other ≢ names.config → new.source other ≡ old.source other
  pub keepers : (other : List ℕ) → other ≢ names.store → new.keeper other ≡ old.keeper other
  pub sink : new.sink ≡ old.sink
  pub caller : new.caller ≡ old.caller
  pub asked : old.tells ≡ true → new.asked ≡ old.asked ++ spawning.parts
  pub periods : old.tells ≡ true → new.periods ≡ old.periods ++ flat_map kept_in rounds
