-- What a world in memory shows: the events under the name of the standard input, the configuration under its own, the
-- keeper under the empty name.
use Rattle.std.specs.Prelude.{◌≡◌, ◌≢◌, ℕ, ◌≤◌, List, [], ◌∷◌, ◌++◌, Bool, true, ◌||◌, codes, Option, Some, None}
use Rattle.std.specs.Prelude.{Result, Err, IfOk, OnOk, OnErr, is_err, is_none, if◌then◌else◌}
use Rattle.std.specs.Str.{bytes_eq}
use Rattle.acct_keeper.specs.Faults.{one_more}
use Rattle.acct_keeper.specs.Memory.{is_among}
use Rattle.acct_world.specs.declared.part.Part.{Part}
use Rattle.acct_world.specs.declared.period.Period.{Period}
use Rattle.acct_links.specs.declared.callers.TakeError.{TakeError}
use Rattle.acct_links.specs.declared.callers.TakeError.TheVariants.{Failed, NoMemory}
use Rattle.acct_world.specs.World.{Seen}

abbrev pub known_name : List ℕ → List ℕ → Bool
known_name config_name name = bytes_eq name (codes "-") || bytes_eq name config_name

abbrev pub source_under : {S : Type 0} → List ℕ → Option S → Option S → List ℕ → Option S
source_under config_name config events name =
    if bytes_eq name (codes "-") then events else (if bytes_eq name config_name then config else None)

abbrev pub is_empty_name : List ℕ → Bool
is_empty_name name = bytes_eq name []

abbrev pub keeper_under : {K : Type 0} → Option K → List ℕ → Option K
keeper_under keeper name = if is_empty_name name then keeper else None

-- The name of the configuration, the parts that it has, the doors that were given back with the entrance and the link
-- that was given back with the caller, the periods that it was given, the parts that it was asked for, how often
-- handing out a source, the sink, a keeper, the entrance, the caller or the spawner has failed, how many handings out
-- were asked for, and the numbers of those that fail.
pub record WorldInMemory (S T K E D C L P : Type 0) : Type 0 where
  pub name : List ℕ
  pub config : Option S
  pub events : Option S
  pub sink : Option T
  pub keeper : Option K
  pub entrance : Option E
  pub doors : List D
  pub caller : Option C
  pub talked : Option L
  pub spawner : Option P
  pub periods : List Period
  pub asked : List Part
  pub source_faults : ℕ
  pub sink_faults : ℕ
  pub keeper_faults : ℕ
  pub entrance_faults : ℕ
  pub caller_faults : ℕ
  pub spawner_faults : ℕ
  pub takes : ℕ
  pub failing : List ℕ

abbrev pub shown : {S T K E D C L P : Type 0} → WorldInMemory S T K E D C L P → Seen S T K E D C L P
shown world = record {
  tells = true;
  knows = known_name world.name;
  source = source_under world.name world.config world.events;
  sink = world.sink;
  stores = is_empty_name;
  keeper = keeper_under world.keeper;
  entrance = world.entrance;
  doors = world.doors;
  caller = world.caller;
  talked = world.talked;
  spawner = world.spawner;
  periods = world.periods;
  asked = world.asked;
  source_faults = world.source_faults;
  sink_faults = world.sink_faults;
  keeper_faults = world.keeper_faults;
  entrance_faults = world.entrance_faults;
  caller_faults = world.caller_faults;
  spawner_faults = world.spawner_faults;
}

-- The part is noted after those that were asked for, and the number of handings out is one higher. It answers whether
-- that is one of those that fail.
pub record Notes {E : Type 0} (failing : List ℕ) (part : Part) (old new : List Part) (takes counted : ℕ)
    (answer : Result Bool E) : Type 0 where
  pub fails : IfOk answer (λ fails. fails ≡ is_among failing (one_more takes))
  pub noted : OnOk answer (new ≡ old ++ part ∷ [])
  pub number : OnOk answer (counted ≡ one_more takes)
  pub kept : OnErr answer ((new ≡ old) × (counted ≡ takes))

-- A part is handed out of its place, unless it is to fail or there is none. Then the count of faults rises.
pub record Hands {P : Type 0} (to_fail : Bool) (old new : Option P) (faults counted : ℕ) (answer : Result P TakeError)
    : Type 0 where
  pub part : IfOk answer (λ part. old ≡ Some part)
  pub out : OnOk answer (new ≡ None)
  pub kept : OnErr answer (new ≡ old)
  pub failed : OnErr answer (answer ≡ Err Failed)
  pub fails : is_err answer ≡ (to_fail || is_none old)
  pub count : counted ≡ (if is_err answer then one_more faults else faults)
  pub later : faults ≤ counted

-- A handing out from a place has the next number. It fails exactly where that is one of those that fail or nothing is
-- there, unless memory runs out.
pub record TakesInMemory {S T K E D C L P X : Type 0} (old new : WorldInMemory S T K E D C L P) (place : Option X)
    (answer : Result X TakeError) : Type 0 where
  pub fails : answer ≢ Err NoMemory → is_err answer ≡ (is_among old.failing (one_more old.takes) || is_none place)
  pub number : answer ≢ Err NoMemory → new.takes ≡ one_more old.takes
  pub failing : new.failing ≡ old.failing
