-- What the command `serve CONFIG STORE` does to a world.
use Rattle.std.specs.Prelude.{◌≡◌, ◌≢◌, ℕ, ◌-◌, ◌<◌, ◌≤◌, Bool, true, false, List, ◌∷◌, [], ◌++◌, ◌⊎◌, length}
use Rattle.std.specs.Prelude.{Option, Some, None, IsSome, IfSome, MatchOption, option_to_list, is_some}
use Rattle.std.specs.Prelude.{if◌then◌else◌, ⊤}
use Rattle.std.specs.List.{flat_map}
use Rattle.acct_config.specs.Rules.{first_broken}
use Rattle.acct_config.specs.declared.config.Config.{Config}
use Rattle.acct_config.specs.declared.config.Hook.{Hook}
use Rattle.acct_keeper.specs.declared.keeper.KeepError.{KeepError}
use Rattle.acct_keeper.specs.declared.keeper.KeepError.TheVariants as keep
use Rattle.acct_links.specs.declared.asking.Asking.{Asking}
use Rattle.acct_keeper.specs.Faults.{Rose, NotRisen, most_bytes}
use Rattle.door_workers.specs.Doors.{OpensDoors, StopsAsking}
use Rattle.acct_server.specs.Beside.{TellingBeside, IsServeBeside}
use Rattle.acct_server.specs.Serving.{ServesQuietly, IsServingsEnd, IsServe}
use Rattle.acct_server.specs.Leaves.{IsConfigured, ConfigCause, spelled}
use Rattle.acct_server.specs.Replaying.{lists_in}
use Rattle.acct_server.specs.declared.serving.Served.{Served}
use Rattle.acct_server.specs.declared.status.Status.{Status}
use Rattle.acct_server.specs.declared.status.Status.TheVariants.{DoorFault, HistoryFull, NoMemory, SpawnFault}
use Rattle.acct_world.specs.declared.part.Part.{Part}
use Rattle.acct_world.specs.declared.part.Part.TheVariants.{Source, Keeper, Entrance, Spawner}
use Rattle.acct_world.specs.declared.period.Period.{Period}
use Rattle.acct_commands.specs.Words.{ServeNames}
use Rattle.acct_world.specs.World.{Seen}
use Rattle.acct_commands.specs.Commanded.{NotHandedOut, period_between}

-- the parts that serving asks for, in order, before it uses any
abbrev pub wanted_to_serve : ServeNames → List Part
wanted_to_serve names = Source names.config ∷ Keeper names.store ∷ Entrance ∷ []

-- the part that it asks for once the configuration is read: where that has a hook, what runs programs
abbrev pub wanted_by : Config → List Part
wanted_by config = if is_some config.hook then Spawner ∷ [] else []

-- What the parts of serving tell: of a source the bytes that it has left and its count of faults, of an entrance what
-- it was asked and its count, and what doors, their links and a keeper tell.
pub record TellingServe (S K E D F P : Type 0) : Type 1 where
  pub left : S → Option (List ℕ)
  pub read_faults : S → ℕ
  pub asked : E → Option (List Asking)
  pub entrance_faults : E → ℕ
  pub served : TellingBeside D F K P

-- the source of the configuration, the keeper and the entrance at one time, and the doors that the entrance gave
pub record ServeParts (S K E D : Type 0) : Type 0 where
  pub config : S
  pub keeper : K
  pub entrance : E
  pub doors : List D

-- What runs programs, over a call: the parts that were asked for, it or none; the world's count of those that it failed
-- to hand out, before and after the call; and how it was handed out and is given back, if it was handed out.
pub record Spawning (P : Type 0) : Type 0 where
  pub parts : List Part
  pub faults_before : ℕ
  pub faults_after : ℕ
  pub handed : Option P
  pub back : Option P

-- ---- periods

-- One round of serving: the doors after it, what it left, what runs programs, if that was handed out, and whether
-- there was memory to keep what it left.
pub record Round (D K P : Type 0) : Type 0 where
  pub doors : List D
  pub left : Served K
  pub spawner : Option P
  pub kept : Bool

module _ {D K P : Type 0} where
  -- the period that it leaves, if its machine was made
  abbrev pub period_in : Round D K P → Option Period
  period_in round = period_between round.left.opening round.left.history round.left.rows round.left.ends

  -- the period that the world keeps of it, if one is there and there was memory
  abbrev pub kept_in : Round D K P → List Period
  kept_in round = if round.kept then option_to_list (period_in round) else []

  -- how it ends: as serving did, or out of memory to keep what that left
  abbrev pub ending : Round D K P → Status
  ending round = if round.kept then round.left.status else NoMemory

abbrev pub is_full : Status → Bool
is_full (HistoryFull count) = true
is_full _ = false

module _ {D F K P : Type 0} (telling : TellingBeside D F K P) (config : Config) where
  -- Where the configuration has no hook, the doors were served over the keeper.
  pub record ServesAlone (doors : List D) (keeper : K) (spawner : Option P) (round : Round D K P) : Type 0 where
    pub serves : IsServe telling.serving config doors round.doors keeper round.left
    pub spawner_same : round.spawner ≡ spawner

  -- Where it has one, they were, and beside that its program was run for the changes in the outbox.
  pub record ServesBeside (hook : Hook) (doors : List D) (keeper : K) (spawner : Option P) (round : Round D K P)
      : Type 0 where
    pub before : P
    pub after : P
    pub was : spawner ≡ Some before
    pub is : round.spawner ≡ Some after
    pub serves : IsServeBeside telling config hook doors round.doors keeper before round.left after

  -- All doors were served over the keeper. Memory runs out only as a period that is there is kept.
  pub record IsRound (doors : List D) (keeper : K) (spawner : Option P) (round : Round D K P) : Type 0 where
    pub serves : MatchOption config.hook (ServesAlone doors keeper spawner round)
        (λ hook. ServesBeside hook doors keeper spawner round)
    pub kept : round.kept ≡ false → IsSome (period_in round)

  -- over a keeper that tells its pairs, a round that makes a machine opens from the rows that the one before it left
  abbrev pub GoesOn : Round D K P → Round D K P → Type 0
  GoesOn last next = IfSome (telling.serving.pairs last.left.keeper)
      (λ pairs. IsSome next.left.opening → lists_in next.left.opening ≡ lists_in last.left.rows)

  -- The rounds after one, at most so many: a further one comes exactly where the history was full and there may be
  -- more, and serves the same doors over the same keeper, as the one before it left them.
  abbrev pub Follow : ℕ → Round D K P → List (Round D K P) → Type 0
  Follow more last [] = is_full (ending last) ≡ true → more ≡ 0
  Follow more last (round ∷ rounds) =
      (is_full (ending last) ≡ true) × ((0 < more) × (IsRound last.doors last.left.keeper last.spawner round
      × (GoesOn last round × Follow (more - 1) round rounds)))

  -- the rounds from these doors and this keeper, one at least and at most as many as the configuration says
  abbrev pub AreRounds : List D → K → Option P → List (Round D K P) → Type 0
  AreRounds doors keeper spawner [] = ⊥
  AreRounds doors keeper spawner (first ∷ rounds) =
      IsRound doors keeper spawner first × Follow (config.limits.max_periods - 1) first rounds

module _ {D F K P : Type 0} (telling : TellingBeside D F K P) where
  -- the count of the runs that failed didn't rise, where programs were run
  abbrev pub RunsQuietly : Option P → Option P → Type 0
  RunsQuietly (Some before) (Some after) = NotRisen (telling.spawner.failed before) (telling.spawner.failed after)
  RunsQuietly _ _ = ⊤

  -- Nothing failed in the rounds from these doors and this keeper on: the pairs that each found break no rule, and
  -- neither its keeper's count rose nor that of a door nor that of the runs that failed.
  abbrev pub AreQuiet : List D → K → Option P → List (Round D K P) → Type 0
  AreQuiet doors keeper spawner [] = ⊤
  AreQuiet doors keeper spawner (round ∷ rounds) =
      ServesQuietly telling.serving doors round.doors keeper round.left × RunsQuietly spawner round.spawner
      × AreQuiet round.doors round.left.keeper round.spawner rounds

-- ---- what is left

-- the status of an asking that wasn't answered with doors
abbrev pub entrance_status : KeepError → Status
entrance_status keep.Failed = DoorFault
entrance_status keep.NoMemory = NoMemory

-- why what runs programs wasn't handed out
abbrev pub SpawnCause : {P : Type 0} → Spawning P → Status → Type 0
SpawnCause spawning SpawnFault = Rose spawning.faults_before spawning.faults_after × (spawning.parts ≡ Spawner ∷ [])
SpawnCause spawning NoMemory = (spawning.parts ≡ Spawner ∷ []) ⊎ (spawning.parts ≡ [])
SpawnCause spawning _ = ⊥

-- it was handed out exactly where the configuration has a hook, and then it was asked for
pub record IsHandedBy {P : Type 0} (config : Config) (spawning : Spawning P) : Type 0 where
  pub handed : is_some spawning.handed ≡ is_some config.hook
  pub asked : spawning.parts ≡ wanted_by config

module _ {S K E D F P : Type 0} (told : TellingServe S K E D F P) where
  -- a right configuration, the one that the document spells, if the source tells it
  pub record IsSpelled (source : S) (config : Config) : Type 0 where
    pub configured : IsConfigured (told.left source) config
    pub short : IfSome (told.left source) (λ document. length document ≤ most_bytes)

  -- The entrance wasn't asked for doors, the keeper is untouched, and nothing runs programs. Nothing was served.
  pub record IsUntouched (before after : ServeParts S K E D) (spawning : Spawning P) (rounds : List (Round D K P))
      : Type 0 where
    pub entrance : after.entrance ≡ before.entrance
    pub doors : after.doors ≡ []
    pub keeper : after.keeper ≡ before.keeper
    pub handed : spawning.handed ≡ None
    pub back : spawning.back ≡ None
    pub none : rounds ≡ []

  -- The configuration wasn't taken.
  pub record ServesStopsAtConfig (before after : ServeParts S K E D) (spawning : Spawning P)
      (rounds : List (Round D K P))
      (status : Status) : Type 0 where
    pub cause : ConfigCause (told.left before.config) (told.read_faults before.config)
        (told.read_faults after.config) status
    pub untouched : IsUntouched before after spawning rounds
    pub unasked : spawning.parts ≡ []

  -- It was, it has a hook, and what runs programs wasn't handed out.
  pub record StopsAtSpawner (before after : ServeParts S K E D) (spawning : Spawning P) (rounds : List (Round D K P))
      (status : Status) : Type 0 where
    pub config : Config
    pub spelled : IsSpelled before.config config
    pub hook : IsSome config.hook
    pub cause : SpawnCause spawning status
    pub untouched : IsUntouched before after spawning rounds

  -- It was, and an asking wasn't answered with doors: the doors got so far weren't served, and the keeper is untouched.
  pub record StopsAtEntrance (before after : ServeParts S K E D) (spawning : Spawning P) (rounds : List (Round D K P))
      (status : Status) : Type 0 where
    pub config : Config
    pub spelled : IsSpelled before.config config
    pub by : IsHandedBy config spawning
    pub error : KeepError
    pub stops : StopsAsking told.served.serving.door config (told.asked before.entrance) (told.asked after.entrance)
        (told.entrance_faults before.entrance) (told.entrance_faults after.entrance) after.doors error
    pub is : status ≡ entrance_status error
    pub keeper : after.keeper ≡ before.keeper
    pub unused : spawning.back ≡ spawning.handed
    pub none : rounds ≡ []

  -- All askings were answered: the doors that the entrance gave were served in their order, round after round.
  pub record ServesRounds (before after : ServeParts S K E D) (spawning : Spawning P) (rounds : List (Round D K P))
      (status : Status) : Type 0 where
    pub config : Config
    pub spelled : IsSpelled before.config config
    pub by : IsHandedBy config spawning
    pub doors : List D
    pub opens : OpensDoors told.served.serving.door config (length config.listeners) (told.asked before.entrance)
        (told.asked after.entrance) doors
    pub are : AreRounds told.served config doors before.keeper spawning.handed rounds
    pub earlier : List (Round D K P)
    pub last : Round D K P
    pub splits : rounds ≡ earlier ++ last ∷ []
    pub is : status ≡ ending last
    pub left_doors : after.doors ≡ last.doors
    pub left_keeper : after.keeper ≡ last.left.keeper
    pub left_spawner : spawning.back ≡ last.spawner

  -- Nothing failed outside: the source told a short document that breaks no rule, and no count rose, neither the
  -- source's nor the entrance's nor one in a round, nor, where the document has a hook, that of what runs programs.
  pub record IsQuiet (before after : ServeParts S K E D) (spawning : Spawning P) (rounds : List (Round D K P))
      (status : Status) : Type 0 where
    pub document : List ℕ
    pub tells : told.left before.config ≡ Some document
    pub short : length document ≤ most_bytes
    pub unbroken : first_broken document ≡ None
    pub source : NotRisen (told.read_faults before.config) (told.read_faults after.config)
    pub spawner : IsSome (spelled document).hook → NotRisen spawning.faults_before spawning.faults_after
    pub entrance : NotRisen (told.entrance_faults before.entrance) (told.entrance_faults after.entrance)
    pub each : (serves : ServesRounds before after spawning rounds status)
        → AreQuiet told.served serves.doors before.keeper spawning.handed rounds

  abbrev pub LeavesParts : ServeParts S K E D → ServeParts S K E D → Spawning P → List (Round D K P) → Status → Type 0
  LeavesParts before after spawning rounds status =
      ServesStopsAtConfig before after spawning rounds status
      ⊎ (StopsAtSpawner before after spawning rounds status
      ⊎ (StopsAtEntrance before after spawning rounds status ⊎ ServesRounds before after spawning rounds status))

-- ---- the world

-- the world keeps the periods of the rounds, in order, and nothing else of it has changed
pub record KeepsRounds {S T K E D C L P : Type 0} (old new : Seen S T K E D C L P) (rounds : List (Round D K P))
    : Type 0 where
  pub periods : old.tells ≡ true → new.periods ≡ old.periods ++ flat_map kept_in rounds
  pub others : new ≡ record old { periods = new.periods }

-- What runs programs is the world's, and is given back; where it wasn't handed out, the world has what it had.
pub record HandsSpawner {S T K E D C L P : Type 0} (old new : Seen S T K E D C L P) (spawning : Spawning P) : Type 0
  where
    pub took : old.tells ≡ true → IfSome spawning.handed (λ part. old.spawner ≡ Some part)
    pub gave : MatchOption spawning.back (new.spawner ≡ old.spawner)
        (λ part. old.tells ≡ true → new.spawner ≡ Some part)
    pub faults_before : spawning.faults_before ≡ old.spawner_faults
    pub faults_after : spawning.faults_after ≡ new.spawner_faults

-- All parts were handed out: what was done over them is told by the parts before and after it, and by its rounds. The
-- world keeps their periods, and has the parts again, with the doors.
pub record HasServed {S T K E D F C L P : Type 0} (told : TellingServe S K E D F P) (names : ServeNames)
    (old new : Seen S T K E D C L P) (status : Status) : Type 0 where
  pub before : ServeParts S K E D
  pub after : ServeParts S K E D
  pub spawning : Spawning P
  pub rounds : List (Round D K P)
  pub leaves : LeavesParts told before after spawning rounds status
  -- where nothing failed outside, serving was done, or the history was full, or memory ran out
  pub complete : IsQuiet told before after spawning rounds status → IsServingsEnd status
  pub took_config : old.tells ≡ true → old.source names.config ≡ Some before.config
  pub took_keeper : old.tells ≡ true → old.keeper names.store ≡ Some before.keeper
  pub took_entrance : old.tells ≡ true → old.entrance ≡ Some before.entrance
  -- where the world doesn't tell its keeper, the one without a name holds no pair
  pub no_pair : old.tells ≡ false → names.store ≡ [] → told.served.serving.pairs before.keeper ≡ Some []
  pub gave_config : old.tells ≡ true → new.source names.config ≡ Some after.config
  pub gave_keeper : old.tells ≡ true → new.keeper names.store ≡ Some after.keeper
  pub gave_entrance : old.tells ≡ true → new.entrance ≡ Some after.entrance
  pub gave_doors : old.tells ≡ true → new.doors ≡ after.doors
  pub spawner : HandsSpawner old new spawning
  -- and no other source or keeper has changed
  pub sources : (other : List ℕ) → other ≢ names.config → new.source other ≡ old.source other
  pub keepers : (other : List ℕ) → other ≢ names.store → new.keeper other ≡ old.keeper other
  pub sink : new.sink ≡ old.sink
  pub caller : new.caller ≡ old.caller
  pub asked : old.tells ≡ true → new.asked ≡ (old.asked ++ wanted_to_serve names) ++ spawning.parts
  pub periods : old.tells ≡ true → new.periods ≡ old.periods ++ flat_map kept_in rounds

abbrev pub Serves : {S T K E D F C L P : Type 0} → TellingServe S K E D F P → ServeNames → Seen S T K E D C L P
    → Seen S T K E D C L P → Status → Type 0
Serves told names old new status =
    NotHandedOut (wanted_to_serve names) old new status ⊎ HasServed told names old new status
