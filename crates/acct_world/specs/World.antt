-- What a world shows, and what its calls do to that.
use Rattle.std.specs.Prelude.{◌≡◌, ◌≢◌, ℕ, ◌≤◌, Bool, true, false, List, [], ◌∷◌, ◌++◌, ◌⊎◌, Some, Err, IfOk, OnOk}
use Rattle.std.specs.Prelude.{OnErr}
use Rattle.std.specs.declared.option.Option.{Option}
use Rattle.std.specs.declared.result.Result.{Result}
use Rattle.acct_keeper.specs.declared.pairs.Pair.{Pair}
use Rattle.acct_keeper.specs.Faults.{Rose}
use Rattle.acct_world.specs.declared.period.Period.{Period}
use Rattle.acct_links.specs.declared.callers.TakeError.{TakeError}
use Rattle.acct_links.specs.declared.callers.TakeError.TheVariants.{Failed, NoMemory}
use Rattle.acct_world.specs.declared.part.Part.{Part}
use Rattle.acct_world.specs.declared.part.Part.TheVariants.{Source, Sink, Keeper, Entrance, Caller, Spawner}

-- Whether it tells what it holds; the names under which it has a place for a source, and the source under each name;
-- the sink; the names under which it has a place for a keeper, and the keeper under each name; the entrance, and the
-- doors that were given back with it; the caller, and the link that was given back with it; the spawner; the periods
-- that it was given; the parts that it was asked for, in order; and how often handing out a source, the sink, a keeper,
-- the entrance, the caller or the spawner has failed.
pub record Seen (S T K E D C L P : Type 0) : Type 0 where
  pub tells : Bool
  pub knows : List ℕ → Bool
  pub source : List ℕ → Option S
  pub sink : Option T
  pub stores : List ℕ → Bool
  pub keeper : List ℕ → Option K
  pub entrance : Option E
  pub doors : List D
  pub caller : Option C
  pub talked : Option L
  pub spawner : Option P
  pub periods : List Period
  pub asked : List Part
  pub source_faults : ℕ
  pub sink_faults : ℕ
  pub keeper_faults : ℕ
  pub entrance_faults : ℕ
  pub caller_faults : ℕ
  pub spawner_faults : ℕ

-- The part is the last that was asked for; where memory ran out, it may be left out.
abbrev pub Asks : {P : Type 0} → Part → List Part → List Part → Result P TakeError → Type 0
Asks part old new answer = (new ≡ old ++ part ∷ []) ⊎ ((answer ≡ Err NoMemory) × (new ≡ old))

-- ---- sources

-- A source is handed out, or those that it holds stay. Of all else only the count of failed handings out changes.
pub record TakesSource {S T K E D C L P : Type 0} (old new : Seen S T K E D C L P) (name : List ℕ)
    (answer : Result S TakeError) : Type 0
  where
    pub part : IfOk answer (λ part. old.tells ≡ true → (old.source name ≡ Some part) × (old.knows name ≡ true))
    pub kept : OnErr answer (new.source ≡ old.source)
    pub sources : (other : List ℕ) → other ≢ name → new.source other ≡ old.source other
    pub others : new ≡ record old { source = new.source; asked = new.asked; source_faults = new.source_faults }
    pub asked : old.tells ≡ true → Asks (Source name) old.asked new.asked answer
    pub cause : answer ≡ Err Failed → Rose old.source_faults new.source_faults
    pub later : old.source_faults ≤ new.source_faults

-- The source that is given back is from then on the one under its name, if there is a place for it.
pub record GivesSource {S T K E D C L P : Type 0} (old new : Seen S T K E D C L P) (name : List ℕ) (part : S)
    : Type 0 where
  pub holds : old.tells ≡ true → old.knows name ≡ true → new.source name ≡ Some part
  pub sources : (other : List ℕ) → other ≢ name → new.source other ≡ old.source other
  pub others : new ≡ record old { source = new.source }

-- ---- the sink

pub record TakesSink {S T K E D C L P : Type 0} (old new : Seen S T K E D C L P) (answer : Result T TakeError)
    : Type 0 where
  pub part : IfOk answer (λ part. old.tells ≡ true → old.sink ≡ Some part)
  pub kept : OnErr answer (new.sink ≡ old.sink)
  pub others : new ≡ record old { sink = new.sink; asked = new.asked; sink_faults = new.sink_faults }
  pub asked : old.tells ≡ true → Asks Sink old.asked new.asked answer
  pub cause : answer ≡ Err Failed → Rose old.sink_faults new.sink_faults
  pub later : old.sink_faults ≤ new.sink_faults

pub record GivesSink {S T K E D C L P : Type 0} (old new : Seen S T K E D C L P) (part : T) : Type 0 where
  pub holds : old.tells ≡ true → new.sink ≡ Some part
  pub others : new ≡ record old { sink = new.sink }

-- ---- keepers

-- As a source is. The keeper with the empty name holds no pair, where the world doesn't tell which one it has there.
pub record TakesKeeper {S T K E D C L P : Type 0} (pairs : K → Option (List Pair)) (old new : Seen S T K E D C L P)
    (name : List ℕ) (answer : Result K TakeError) : Type 0 where
  pub part : IfOk answer (λ part. old.tells ≡ true → (old.keeper name ≡ Some part) × (old.stores name ≡ true))
  pub empty : IfOk answer (λ part. old.tells ≡ false → name ≡ [] → pairs part ≡ Some [])
  pub kept : OnErr answer (new.keeper ≡ old.keeper)
  pub keepers : (other : List ℕ) → other ≢ name → new.keeper other ≡ old.keeper other
  pub others : new ≡ record old { keeper = new.keeper; asked = new.asked; keeper_faults = new.keeper_faults }
  pub asked : old.tells ≡ true → Asks (Keeper name) old.asked new.asked answer
  pub cause : answer ≡ Err Failed → Rose old.keeper_faults new.keeper_faults
  pub later : old.keeper_faults ≤ new.keeper_faults

pub record GivesKeeper {S T K E D C L P : Type 0} (old new : Seen S T K E D C L P) (name : List ℕ) (part : K)
    : Type 0 where
  pub holds : old.tells ≡ true → old.stores name ≡ true → new.keeper name ≡ Some part
  pub keepers : (other : List ℕ) → other ≢ name → new.keeper other ≡ old.keeper other
  pub others : new ≡ record old { keeper = new.keeper }

-- ---- the entrance

pub record TakesEntrance {S T K E D C L P : Type 0} (old new : Seen S T K E D C L P) (answer : Result E TakeError)
    : Type 0 where
  pub part : IfOk answer (λ part. old.tells ≡ true → old.entrance ≡ Some part)
  pub kept : OnErr answer (new.entrance ≡ old.entrance)
  pub others : new ≡ record old {
    entrance = new.entrance;
    asked = new.asked;
    entrance_faults = new.entrance_faults;
  }
  pub asked : old.tells ≡ true → Asks Entrance old.asked new.asked answer
  pub cause : answer ≡ Err Failed → Rose old.entrance_faults new.entrance_faults
  pub later : old.entrance_faults ≤ new.entrance_faults

-- The entrance is given back with the doors that it gave.
pub record GivesEntrance {S T K E D C L P : Type 0} (old new : Seen S T K E D C L P) (part : E) (doors : List D)
    : Type 0 where
  pub holds : old.tells ≡ true → new.entrance ≡ Some part
  pub back : old.tells ≡ true → new.doors ≡ doors
  pub others : new ≡ record old { entrance = new.entrance; doors = new.doors }

-- ---- the caller

pub record TakesCaller {S T K E D C L P : Type 0} (old new : Seen S T K E D C L P) (answer : Result C TakeError)
    : Type 0 where
  pub part : IfOk answer (λ part. old.tells ≡ true → old.caller ≡ Some part)
  pub kept : OnErr answer (new.caller ≡ old.caller)
  pub others : new ≡ record old { caller = new.caller; asked = new.asked; caller_faults = new.caller_faults }
  pub asked : old.tells ≡ true → Asks Caller old.asked new.asked answer
  pub cause : answer ≡ Err Failed → Rose old.caller_faults new.caller_faults
  pub later : old.caller_faults ≤ new.caller_faults

-- The caller is given back with its link, if it gave one.
pub record GivesCaller {S T K E D C L P : Type 0} (old new : Seen S T K E D C L P) (part : C) (link : Option L)
    : Type 0 where
  pub holds : old.tells ≡ true → new.caller ≡ Some part
  pub talked : old.tells ≡ true → new.talked ≡ link
  pub others : new ≡ record old { caller = new.caller; talked = new.talked }

-- ---- the spawner

pub record TakesSpawner {S T K E D C L P : Type 0} (old new : Seen S T K E D C L P) (answer : Result P TakeError)
    : Type 0 where
  pub part : IfOk answer (λ part. old.tells ≡ true → old.spawner ≡ Some part)
  pub kept : OnErr answer (new.spawner ≡ old.spawner)
  pub others : new ≡ record old { spawner = new.spawner; asked = new.asked; spawner_faults = new.spawner_faults }
  pub asked : old.tells ≡ true → Asks Spawner old.asked new.asked answer
  pub cause : answer ≡ Err Failed → Rose old.spawner_faults new.spawner_faults
  pub later : old.spawner_faults ≤ new.spawner_faults

pub record GivesSpawner {S T K E D C L P : Type 0} (old new : Seen S T K E D C L P) (part : P) : Type 0 where
  pub holds : old.tells ≡ true → new.spawner ≡ Some part
  pub others : new ≡ record old { spawner = new.spawner }

-- ---- periods

-- the period is the last of those that were given, or none was added
pub record KeepsPeriod {S T K E D C L P X : Type 0} (old new : Seen S T K E D C L P) (period : Period)
    (answer : Result (Unit {0}) X)
    : Type 0 where
  pub kept : OnOk answer (old.tells ≡ true → new.periods ≡ old.periods ++ period ∷ [])
  pub none : OnErr answer (new.periods ≡ old.periods)
  pub others : new ≡ record old { periods = new.periods }
