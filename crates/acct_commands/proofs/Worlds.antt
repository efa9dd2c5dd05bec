-- What a world shows over the calls of a command.
use Rattle.std.proofs.Common.{◌≡◌, ◌≢◌, ℕ, ◌≤◌, inl, inr, Bool, true, false, List, ◌∷◌, [], ◌++◌, Result, Ok, Err}
use Rattle.std.proofs.Common.{Option, Some, None}
use Rattle.std.proofs.Common.{refl, sym, ◌∙◌, ap, subst, arith, append_assoc, MatchResult}
use Rattle.std.specs.Str.{bytes_eq}
use Rattle.std.proofs.lemmas.List.{append-nil}
use Rattle.std.proofs.lemmas.Slice.Eq.{bytes_eq-Decides}
use Rattle.acct_keeper.specs.declared.pairs.Pair.{Pair}
use Rattle.acct_keeper.specs.Faults.{Rose}
use Rattle.acct_server.specs.Replaying.{Parts}
use Rattle.acct_world.specs.declared.period.Period.{Period}
use Rattle.acct_server.specs.declared.status.Status.{Status}
use Rattle.acct_server.specs.declared.status.Status.TheVariants.{ReadFault, WriteFault, StoreFault, DoorFault}
use Rattle.acct_server.specs.declared.status.Status.TheVariants.{PeerFault, SpawnFault, NoMemory}
use Rattle.acct_links.specs.declared.callers.TakeError.{TakeError}
use Rattle.acct_links.specs.declared.callers.TakeError.TheVariants as take
use Rattle.acct_world.specs.declared.part.Part.{Part}
use Rattle.acct_world.specs.declared.part.Part.TheVariants as part
use Rattle.acct_world.specs.World.{Seen, Asks, TakesSource, GivesSource, TakesSink, GivesSink, TakesKeeper, GivesKeeper}
use Rattle.acct_world.specs.World.{TakesEntrance, TakesCaller, GivesCaller, TakesSpawner, KeepsPeriod}
use Rattle.acct_commands.specs.Commanded.{standard_input, no_name, AsksFront, TakeCause, NotHandedOut, Returned}
use Rattle.acct_commands.specs.Commanded.{HasRun, read_status, write_status, store_status, link_status, door_status}
use Rattle.acct_commands.specs.Commanded.{spawn_status, OverParts, TakesParts, Keeps}
use Rattle.acct_commands.specs.Commanded.{KeepsAny}

-- what holds of a name and of each other name holds of all
by_name : (P : List ℕ → Type 0) (name other : List ℕ) → P name → (other ≢ name → P other) → P other
by_name P name other one others =
    let decides = bytes_eq-Decides other name in
    let Q : Bool → Type 0 = λ b. bytes_eq other name ≡ b → P other in
    let split : (b : Bool) → Q b = λ b. elim b as Q [
      | true ↦ λ is. subst P (sym (decides.0 is)) one
      | false ↦ λ is. others (λ same. let clash : true ≡ false = sym (decides.1 same) ∙ is in absurd cc)
    ] in
    split (bytes_eq other name) refl

-- ---- what was asked for

pub asked-ok : {P : Type 0} (p : Part) (old new : List Part) (x : P) (answer : Result P TakeError) → answer ≡ Ok x
    → Asks p old new answer → new ≡ old ++ p ∷ []
asked-ok p old new x answer is (inl asks) = asks
asked-ok p old new x answer is (inr none) = absurd cc

-- the first part at most
asked-one : {P : Type 0} (p : Part) (others old new : List Part) (answer : Result P TakeError)
    → Asks p old new answer → AsksFront (p ∷ others) old new
asked-one p others old new answer (inl asks) =
    record { done = p ∷ []; others = others; splits = refl; asked = asks }
asked-one p others old new answer (inr none) =
    record { done = []; others = p ∷ others; splits = refl; asked = none.1 ∙ sym (append-nil old) }

-- one part, and then some of the others
asked-then : (p : Part) (others w0 w1 w2 w3 : List Part) → w1 ≡ w0 ++ p ∷ [] → AsksFront others w1 w2 → w3 ≡ w2
    → AsksFront (p ∷ others) w0 w3
asked-then p others w0 w1 w2 w3 first front same = record {
  done = p ∷ front.done;
  others = front.others;
  splits = ap (λ (ps : List Part). p ∷ ps) front.splits;
  asked = same ∙ front.asked ∙ ap (λ (ps : List Part). ps ++ front.done) first
      ∙ append_assoc w0 (p ∷ []) front.done;
}

-- one part more was asked for
pub asked-more : (start old new : List Part) (front : List Part) (p : Part) → old ≡ start ++ front → new ≡ old ++ p ∷ []
    → new ≡ start ++ (front ++ p ∷ [])
asked-more start old new front p so_far asks = asks ∙ ap (λ (ps : List Part). ps ++ p ∷ []) so_far
    ∙ append_assoc start front (p ∷ [])

-- ---- the counts

-- no count of failed handings out has fallen
record CountsLater {S T K E D C L P : Type 0} (old new : Seen S T K E D C L P) : Type 0 where
  source : old.source_faults ≤ new.source_faults
  sink : old.sink_faults ≤ new.sink_faults
  keeper : old.keeper_faults ≤ new.keeper_faults
  entrance : old.entrance_faults ≤ new.entrance_faults
  caller : old.caller_faults ≤ new.caller_faults
  spawner : old.spawner_faults ≤ new.spawner_faults

equal-later : (a b : ℕ) → b ≡ a → a ≤ b
equal-later a b is = omega (arith, is)

rose-within : (a b c d : ℕ) → a ≤ b → Rose b c → c ≤ d → Rose a d
rose-within a b c d before rose after = omega (arith, before, rose, after)

cause-within : {S T K E D C L P : Type 0} (w0 w1 w2 w3 : Seen S T K E D C L P) (status : Status) → CountsLater w0 w1
    → CountsLater w2 w3
    → TakeCause w1 w2 status → TakeCause w0 w3 status
cause-within w0 w1 w2 w3 ReadFault before after rose =
    rose-within w0.source_faults w1.source_faults w2.source_faults w3.source_faults before.source rose after.source
cause-within w0 w1 w2 w3 WriteFault before after rose =
    rose-within w0.sink_faults w1.sink_faults w2.sink_faults w3.sink_faults before.sink rose after.sink
cause-within w0 w1 w2 w3 StoreFault before after rose =
    rose-within w0.keeper_faults w1.keeper_faults w2.keeper_faults w3.keeper_faults before.keeper rose after.keeper
cause-within w0 w1 w2 w3 DoorFault before after rose =
    rose-within w0.entrance_faults w1.entrance_faults w2.entrance_faults w3.entrance_faults before.entrance rose
    after.entrance
cause-within w0 w1 w2 w3 PeerFault before after rose =
    rose-within w0.caller_faults w1.caller_faults w2.caller_faults w3.caller_faults before.caller rose after.caller
cause-within w0 w1 w2 w3 SpawnFault before after rose =
    rose-within w0.spawner_faults w1.spawner_faults w2.spawner_faults w3.spawner_faults before.spawner rose
    after.spawner
cause-within w0 w1 w2 w3 NoMemory before after rose = tt
cause-within w0 w1 w2 w3 _ before after rose = absurd rose

takes-source-later : {S T K E D C L P : Type 0} (w0 w1 : Seen S T K E D C L P) (name : List ℕ)
    (answer : Result S TakeError)
    → TakesSource w0 w1 name answer → CountsLater w0 w1
takes-source-later w0 w1 name answer takes = record {
  source = takes.later;
  sink = equal-later w0.sink_faults w1.sink_faults (ap (λ (s : Seen _ _ _ _ _ _ _ _). s.sink_faults) takes.others);
  keeper = equal-later w0.keeper_faults w1.keeper_faults
      (ap (λ (s : Seen _ _ _ _ _ _ _ _). s.keeper_faults) takes.others);
  entrance = equal-later w0.entrance_faults w1.entrance_faults
      (ap (λ (s : Seen _ _ _ _ _ _ _ _). s.entrance_faults) takes.others);
  caller = equal-later w0.caller_faults w1.caller_faults
      (ap (λ (s : Seen _ _ _ _ _ _ _ _). s.caller_faults) takes.others);
  spawner = equal-later w0.spawner_faults w1.spawner_faults
      (ap (λ (s : Seen _ _ _ _ _ _ _ _). s.spawner_faults) takes.others);
}

gives-source-later : {S T K E D C L P : Type 0} (w0 w1 : Seen S T K E D C L P) (name : List ℕ) (p : S)
    → GivesSource w0 w1 name p
    → CountsLater w0 w1
gives-source-later w0 w1 name p gives = record {
  source = equal-later w0.source_faults w1.source_faults
      (ap (λ (s : Seen _ _ _ _ _ _ _ _). s.source_faults) gives.others);
  sink = equal-later w0.sink_faults w1.sink_faults (ap (λ (s : Seen _ _ _ _ _ _ _ _). s.sink_faults) gives.others);
  keeper = equal-later w0.keeper_faults w1.keeper_faults
      (ap (λ (s : Seen _ _ _ _ _ _ _ _). s.keeper_faults) gives.others);
  entrance = equal-later w0.entrance_faults w1.entrance_faults
      (ap (λ (s : Seen _ _ _ _ _ _ _ _). s.entrance_faults) gives.others);
  caller = equal-later w0.caller_faults w1.caller_faults
      (ap (λ (s : Seen _ _ _ _ _ _ _ _). s.caller_faults) gives.others);
  spawner = equal-later w0.spawner_faults w1.spawner_faults
      (ap (λ (s : Seen _ _ _ _ _ _ _ _). s.spawner_faults) gives.others);
}

takes-sink-later : {S T K E D C L P : Type 0} (w0 w1 : Seen S T K E D C L P) (answer : Result T TakeError)
    → TakesSink w0 w1 answer
    → CountsLater w0 w1
takes-sink-later w0 w1 answer takes = record {
  source = equal-later w0.source_faults w1.source_faults
      (ap (λ (s : Seen _ _ _ _ _ _ _ _). s.source_faults) takes.others);
  sink = takes.later;
  keeper = equal-later w0.keeper_faults w1.keeper_faults
      (ap (λ (s : Seen _ _ _ _ _ _ _ _). s.keeper_faults) takes.others);
  entrance = equal-later w0.entrance_faults w1.entrance_faults
      (ap (λ (s : Seen _ _ _ _ _ _ _ _). s.entrance_faults) takes.others);
  caller = equal-later w0.caller_faults w1.caller_faults
      (ap (λ (s : Seen _ _ _ _ _ _ _ _). s.caller_faults) takes.others);
  spawner = equal-later w0.spawner_faults w1.spawner_faults
      (ap (λ (s : Seen _ _ _ _ _ _ _ _). s.spawner_faults) takes.others);
}

gives-sink-later : {S T K E D C L P : Type 0} (w0 w1 : Seen S T K E D C L P) (p : T) → GivesSink w0 w1 p
    → CountsLater w0 w1
gives-sink-later w0 w1 p gives = record {
  source = equal-later w0.source_faults w1.source_faults
      (ap (λ (s : Seen _ _ _ _ _ _ _ _). s.source_faults) gives.others);
  sink = equal-later w0.sink_faults w1.sink_faults (ap (λ (s : Seen _ _ _ _ _ _ _ _). s.sink_faults) gives.others);
  keeper = equal-later w0.keeper_faults w1.keeper_faults
      (ap (λ (s : Seen _ _ _ _ _ _ _ _). s.keeper_faults) gives.others);
  entrance = equal-later w0.entrance_faults w1.entrance_faults
      (ap (λ (s : Seen _ _ _ _ _ _ _ _). s.entrance_faults) gives.others);
  caller = equal-later w0.caller_faults w1.caller_faults
      (ap (λ (s : Seen _ _ _ _ _ _ _ _). s.caller_faults) gives.others);
  spawner = equal-later w0.spawner_faults w1.spawner_faults
      (ap (λ (s : Seen _ _ _ _ _ _ _ _). s.spawner_faults) gives.others);
}

takes-keeper-later : {S T K E D C L P : Type 0} (pairs : K → Option (List Pair)) (w0 w1 : Seen S T K E D C L P)
    (name : List ℕ)
    (answer : Result K TakeError)
    → TakesKeeper pairs w0 w1 name answer → CountsLater w0 w1
takes-keeper-later pairs w0 w1 name answer takes = record {
  source = equal-later w0.source_faults w1.source_faults
      (ap (λ (s : Seen _ _ _ _ _ _ _ _). s.source_faults) takes.others);
  sink = equal-later w0.sink_faults w1.sink_faults
      (ap (λ (s : Seen _ _ _ _ _ _ _ _). s.sink_faults) takes.others);
  keeper = takes.later;
  entrance = equal-later w0.entrance_faults w1.entrance_faults
      (ap (λ (s : Seen _ _ _ _ _ _ _ _). s.entrance_faults) takes.others);
  caller = equal-later w0.caller_faults w1.caller_faults
      (ap (λ (s : Seen _ _ _ _ _ _ _ _). s.caller_faults) takes.others);
  spawner = equal-later w0.spawner_faults w1.spawner_faults
      (ap (λ (s : Seen _ _ _ _ _ _ _ _). s.spawner_faults) takes.others);
}

gives-keeper-later : {S T K E D C L P : Type 0} (w0 w1 : Seen S T K E D C L P) (name : List ℕ) (p : K)
    → GivesKeeper w0 w1 name p → CountsLater w0 w1
gives-keeper-later w0 w1 name p gives = record {
  source = equal-later w0.source_faults w1.source_faults
      (ap (λ (s : Seen _ _ _ _ _ _ _ _). s.source_faults) gives.others);
  sink = equal-later w0.sink_faults w1.sink_faults
      (ap (λ (s : Seen _ _ _ _ _ _ _ _). s.sink_faults) gives.others);
  keeper = equal-later w0.keeper_faults w1.keeper_faults
      (ap (λ (s : Seen _ _ _ _ _ _ _ _). s.keeper_faults) gives.others);
  entrance = equal-later w0.entrance_faults w1.entrance_faults
      (ap (λ (s : Seen _ _ _ _ _ _ _ _). s.entrance_faults) gives.others);
  caller = equal-later w0.caller_faults w1.caller_faults
      (ap (λ (s : Seen _ _ _ _ _ _ _ _). s.caller_faults) gives.others);
  spawner = equal-later w0.spawner_faults w1.spawner_faults
      (ap (λ (s : Seen _ _ _ _ _ _ _ _). s.spawner_faults) gives.others);
}

takes-caller-later : {S T K E D C L P : Type 0} (w0 w1 : Seen S T K E D C L P) (answer : Result C TakeError)
    → TakesCaller w0 w1 answer → CountsLater w0 w1
takes-caller-later w0 w1 answer takes = record {
  source = equal-later w0.source_faults w1.source_faults
      (ap (λ (s : Seen _ _ _ _ _ _ _ _). s.source_faults) takes.others);
  sink = equal-later w0.sink_faults w1.sink_faults (ap (λ (s : Seen _ _ _ _ _ _ _ _). s.sink_faults) takes.others);
  keeper = equal-later w0.keeper_faults w1.keeper_faults
      (ap (λ (s : Seen _ _ _ _ _ _ _ _). s.keeper_faults) takes.others);
  entrance = equal-later w0.entrance_faults w1.entrance_faults
      (ap (λ (s : Seen _ _ _ _ _ _ _ _). s.entrance_faults) takes.others);
  caller = takes.later;
  spawner = equal-later w0.spawner_faults w1.spawner_faults
      (ap (λ (s : Seen _ _ _ _ _ _ _ _). s.spawner_faults) takes.others);
}

gives-caller-later : {S T K E D C L P : Type 0} (w0 w1 : Seen S T K E D C L P) (p : C) (link : Option L)
    → GivesCaller w0 w1 p link → CountsLater w0 w1
gives-caller-later w0 w1 p link gives = record {
  source = equal-later w0.source_faults w1.source_faults
      (ap (λ (s : Seen _ _ _ _ _ _ _ _). s.source_faults) gives.others);
  sink = equal-later w0.sink_faults w1.sink_faults (ap (λ (s : Seen _ _ _ _ _ _ _ _). s.sink_faults) gives.others);
  keeper = equal-later w0.keeper_faults w1.keeper_faults
      (ap (λ (s : Seen _ _ _ _ _ _ _ _). s.keeper_faults) gives.others);
  entrance = equal-later w0.entrance_faults w1.entrance_faults
      (ap (λ (s : Seen _ _ _ _ _ _ _ _). s.entrance_faults) gives.others);
  caller = equal-later w0.caller_faults w1.caller_faults
      (ap (λ (s : Seen _ _ _ _ _ _ _ _). s.caller_faults) gives.others);
  spawner = equal-later w0.spawner_faults w1.spawner_faults
      (ap (λ (s : Seen _ _ _ _ _ _ _ _). s.spawner_faults) gives.others);
}

-- ---- a part that isn't handed out

read-cause : {S T K E D C L P : Type 0} (old new : Seen S T K E D C L P) (e : TakeError)
    → (e ≡ take.Failed → Rose old.source_faults new.source_faults) → TakeCause old new (read_status e)
read-cause old new take.Failed rose = rose refl
read-cause old new take.NoMemory rose = tt

write-cause : {S T K E D C L P : Type 0} (old new : Seen S T K E D C L P) (e : TakeError)
    → (e ≡ take.Failed → Rose old.sink_faults new.sink_faults) → TakeCause old new (write_status e)
write-cause old new take.Failed rose = rose refl
write-cause old new take.NoMemory rose = tt

store-cause : {S T K E D C L P : Type 0} (old new : Seen S T K E D C L P) (e : TakeError)
    → (e ≡ take.Failed → Rose old.keeper_faults new.keeper_faults) → TakeCause old new (store_status e)
store-cause old new take.Failed rose = rose refl
store-cause old new take.NoMemory rose = tt

pub source-refused : {S T K E D C L P : Type 0} (name : List ℕ) (others : List Part)
    (w0 w1 : Seen S T K E D C L P) (e : TakeError)
    (status : Status) → TakesSource w0 w1 name (Err e) → status ≡ read_status e
    → NotHandedOut (part.Source name ∷ others) w0 w1 status
source-refused name others w0 w1 e status fails is = record {
  cause = subst (λ (s : Status). TakeCause w0 w1 s) (sym is)
      (read-cause w0 w1 e (λ failed. fails.cause (ap (λ (x : TakeError). Err x) failed)));
  sources = λ tells name. ap (λ (f : List ℕ → Option _). f name) fails.kept;
  sink = λ tells. ap (λ (s : Seen _ _ _ _ _ _ _ _). s.sink) fails.others;
  keepers = λ tells name. ap (λ (s : Seen _ _ _ _ _ _ _ _). s.keeper name) fails.others;
  entrance = λ tells. ap (λ (s : Seen _ _ _ _ _ _ _ _). s.entrance) fails.others;
  caller = λ tells. ap (λ (s : Seen _ _ _ _ _ _ _ _). s.caller) fails.others;
  spawner = λ tells. ap (λ (s : Seen _ _ _ _ _ _ _ _). s.spawner) fails.others;
  periods = ap (λ (s : Seen _ _ _ _ _ _ _ _). s.periods) fails.others;
  tells = ap (λ (s : Seen _ _ _ _ _ _ _ _). s.tells) fails.others;
  knows = ap (λ (s : Seen _ _ _ _ _ _ _ _). s.knows) fails.others;
  stores = ap (λ (s : Seen _ _ _ _ _ _ _ _). s.stores) fails.others;
  asked = λ tells. asked-one (part.Source name) others w0.asked w1.asked (Err e) (fails.asked tells);
}

pub sink-refused : {S T K E D C L P : Type 0} (others : List Part)
    (w0 w1 : Seen S T K E D C L P) (e : TakeError) (status : Status)
    → TakesSink w0 w1 (Err e) → status ≡ write_status e → NotHandedOut (part.Sink ∷ others) w0 w1 status
sink-refused others w0 w1 e status fails is = record {
  cause = subst (λ (s : Status). TakeCause w0 w1 s) (sym is)
      (write-cause w0 w1 e (λ failed. fails.cause (ap (λ (x : TakeError). Err x) failed)));
  sources = λ tells name. ap (λ (s : Seen _ _ _ _ _ _ _ _). s.source name) fails.others;
  sink = λ tells. fails.kept;
  keepers = λ tells name. ap (λ (s : Seen _ _ _ _ _ _ _ _). s.keeper name) fails.others;
  entrance = λ tells. ap (λ (s : Seen _ _ _ _ _ _ _ _). s.entrance) fails.others;
  caller = λ tells. ap (λ (s : Seen _ _ _ _ _ _ _ _). s.caller) fails.others;
  spawner = λ tells. ap (λ (s : Seen _ _ _ _ _ _ _ _). s.spawner) fails.others;
  periods = ap (λ (s : Seen _ _ _ _ _ _ _ _). s.periods) fails.others;
  tells = ap (λ (s : Seen _ _ _ _ _ _ _ _). s.tells) fails.others;
  knows = ap (λ (s : Seen _ _ _ _ _ _ _ _). s.knows) fails.others;
  stores = ap (λ (s : Seen _ _ _ _ _ _ _ _). s.stores) fails.others;
  asked = λ tells. asked-one part.Sink others w0.asked w1.asked (Err e) (fails.asked tells);
}

pub keeper-refused : {S T K E D C L P : Type 0} (pairs : K → Option (List Pair)) (name : List ℕ) (others : List Part)
    (w0 w1 : Seen S T K E D C L P) (e : TakeError) (status : Status) → TakesKeeper pairs w0 w1 name (Err e)
    → status ≡ store_status e → NotHandedOut (part.Keeper name ∷ others) w0 w1 status
keeper-refused pairs name others w0 w1 e status fails is = record {
  cause = subst (λ (s : Status). TakeCause w0 w1 s) (sym is)
      (store-cause w0 w1 e (λ failed. fails.cause (ap (λ (x : TakeError). Err x) failed)));
  sources = λ tells name. ap (λ (s : Seen _ _ _ _ _ _ _ _). s.source name) fails.others;
  sink = λ tells. ap (λ (s : Seen _ _ _ _ _ _ _ _). s.sink) fails.others;
  keepers = λ tells name. ap (λ (f : List ℕ → Option _). f name) fails.kept;
  entrance = λ tells. ap (λ (s : Seen _ _ _ _ _ _ _ _). s.entrance) fails.others;
  caller = λ tells. ap (λ (s : Seen _ _ _ _ _ _ _ _). s.caller) fails.others;
  spawner = λ tells. ap (λ (s : Seen _ _ _ _ _ _ _ _). s.spawner) fails.others;
  periods = ap (λ (s : Seen _ _ _ _ _ _ _ _). s.periods) fails.others;
  tells = ap (λ (s : Seen _ _ _ _ _ _ _ _). s.tells) fails.others;
  knows = ap (λ (s : Seen _ _ _ _ _ _ _ _). s.knows) fails.others;
  stores = ap (λ (s : Seen _ _ _ _ _ _ _ _). s.stores) fails.others;
  asked = λ tells. asked-one (part.Keeper name) others w0.asked w1.asked (Err e) (fails.asked tells);
}

link-cause : {S T K E D C L P : Type 0} (old new : Seen S T K E D C L P) (e : TakeError)
    → (e ≡ take.Failed → Rose old.caller_faults new.caller_faults) → TakeCause old new (link_status e)
link-cause old new take.Failed rose = rose refl
link-cause old new take.NoMemory rose = tt

pub caller-refused : {S T K E D C L P : Type 0} (others : List Part) (w0 w1 : Seen S T K E D C L P) (e : TakeError)
    (status : Status) → TakesCaller w0 w1 (Err e) → status ≡ link_status e
    → NotHandedOut (part.Caller ∷ others) w0 w1 status
caller-refused others w0 w1 e status fails is = record {
  cause = subst (λ (s : Status). TakeCause w0 w1 s) (sym is)
      (link-cause w0 w1 e (λ failed. fails.cause (ap (λ (x : TakeError). Err x) failed)));
  sources = λ tells name. ap (λ (s : Seen _ _ _ _ _ _ _ _). s.source name) fails.others;
  sink = λ tells. ap (λ (s : Seen _ _ _ _ _ _ _ _). s.sink) fails.others;
  keepers = λ tells name. ap (λ (s : Seen _ _ _ _ _ _ _ _). s.keeper name) fails.others;
  entrance = λ tells. ap (λ (s : Seen _ _ _ _ _ _ _ _). s.entrance) fails.others;
  caller = λ tells. fails.kept;
  spawner = λ tells. ap (λ (s : Seen _ _ _ _ _ _ _ _). s.spawner) fails.others;
  periods = ap (λ (s : Seen _ _ _ _ _ _ _ _). s.periods) fails.others;
  tells = ap (λ (s : Seen _ _ _ _ _ _ _ _). s.tells) fails.others;
  knows = ap (λ (s : Seen _ _ _ _ _ _ _ _). s.knows) fails.others;
  stores = ap (λ (s : Seen _ _ _ _ _ _ _ _). s.stores) fails.others;
  asked = λ tells. asked-one part.Caller others w0.asked w1.asked (Err e) (fails.asked tells);
}

door-cause : {S T K E D C L P : Type 0} (old new : Seen S T K E D C L P) (e : TakeError)
    → (e ≡ take.Failed → Rose old.entrance_faults new.entrance_faults) → TakeCause old new (door_status e)
door-cause old new take.Failed rose = rose refl
door-cause old new take.NoMemory rose = tt

pub entrance-refused : {S T K E D C L P : Type 0} (others : List Part) (w0 w1 : Seen S T K E D C L P) (e : TakeError)
    (status : Status) → TakesEntrance w0 w1 (Err e) → status ≡ door_status e
    → NotHandedOut (part.Entrance ∷ others) w0 w1 status
entrance-refused others w0 w1 e status fails is = record {
  cause = subst (λ (s : Status). TakeCause w0 w1 s) (sym is)
      (door-cause w0 w1 e (λ failed. fails.cause (ap (λ (x : TakeError). Err x) failed)));
  sources = λ tells name. ap (λ (s : Seen _ _ _ _ _ _ _ _). s.source name) fails.others;
  sink = λ tells. ap (λ (s : Seen _ _ _ _ _ _ _ _). s.sink) fails.others;
  keepers = λ tells name. ap (λ (s : Seen _ _ _ _ _ _ _ _). s.keeper name) fails.others;
  entrance = λ tells. fails.kept;
  caller = λ tells. ap (λ (s : Seen _ _ _ _ _ _ _ _). s.caller) fails.others;
  spawner = λ tells. ap (λ (s : Seen _ _ _ _ _ _ _ _). s.spawner) fails.others;
  periods = ap (λ (s : Seen _ _ _ _ _ _ _ _). s.periods) fails.others;
  tells = ap (λ (s : Seen _ _ _ _ _ _ _ _). s.tells) fails.others;
  knows = ap (λ (s : Seen _ _ _ _ _ _ _ _). s.knows) fails.others;
  stores = ap (λ (s : Seen _ _ _ _ _ _ _ _). s.stores) fails.others;
  asked = λ tells. asked-one part.Entrance others w0.asked w1.asked (Err e) (fails.asked tells);
}

spawner-cause : {S T K E D C L P : Type 0} (old new : Seen S T K E D C L P) (e : TakeError)
    → (e ≡ take.Failed → Rose old.spawner_faults new.spawner_faults) → TakeCause old new (spawn_status e)
spawner-cause old new take.Failed rose = rose refl
spawner-cause old new take.NoMemory rose = tt

pub spawner-refused : {S T K E D C L P : Type 0} (others : List Part) (w0 w1 : Seen S T K E D C L P) (e : TakeError)
    (status : Status) → TakesSpawner w0 w1 (Err e) → status ≡ spawn_status e
    → NotHandedOut (part.Spawner ∷ others) w0 w1 status
spawner-refused others w0 w1 e status fails is = record {
  cause = subst (λ (s : Status). TakeCause w0 w1 s) (sym is)
      (spawner-cause w0 w1 e (λ failed. fails.cause (ap (λ (x : TakeError). Err x) failed)));
  sources = λ tells name. ap (λ (s : Seen _ _ _ _ _ _ _ _). s.source name) fails.others;
  sink = λ tells. ap (λ (s : Seen _ _ _ _ _ _ _ _). s.sink) fails.others;
  keepers = λ tells name. ap (λ (s : Seen _ _ _ _ _ _ _ _). s.keeper name) fails.others;
  entrance = λ tells. ap (λ (s : Seen _ _ _ _ _ _ _ _). s.entrance) fails.others;
  caller = λ tells. ap (λ (s : Seen _ _ _ _ _ _ _ _). s.caller) fails.others;
  spawner = λ tells. fails.kept;
  periods = ap (λ (s : Seen _ _ _ _ _ _ _ _). s.periods) fails.others;
  tells = ap (λ (s : Seen _ _ _ _ _ _ _ _). s.tells) fails.others;
  knows = ap (λ (s : Seen _ _ _ _ _ _ _ _). s.knows) fails.others;
  stores = ap (λ (s : Seen _ _ _ _ _ _ _ _). s.stores) fails.others;
  asked = λ tells. asked-one part.Spawner others w0.asked w1.asked (Err e) (fails.asked tells);
}

-- ---- a part that is given back, since a later one wasn't handed out

pub source-back : {S T K E D C L P : Type 0} (name : List ℕ) (others : List Part)
    (w0 w1 w2 w3 : Seen S T K E D C L P) (p : S)
    (status : Status) → TakesSource w0 w1 name (Ok p) → NotHandedOut others w1 w2 status → GivesSource w2 w3 name p
    → NotHandedOut (part.Source name ∷ others) w0 w3 status
source-back name others w0 w1 w2 w3 p status takes fails gives =
    let tells1 : w1.tells ≡ w0.tells = ap (λ (s : Seen _ _ _ _ _ _ _ _). s.tells) takes.others in
    let knows2 : w2.knows ≡ w0.knows = fails.knows ∙ ap (λ (s : Seen _ _ _ _ _ _ _ _). s.knows) takes.others in
    record {
      cause = cause-within w0 w1 w2 w3 status (takes-source-later w0 w1 name (Ok p) takes)
          (gives-source-later w2 w3 name p gives) fails.cause;
      sources = λ tells other.
          by_name (λ n. w3.source n ≡ w0.source n) name other
          (gives.holds (fails.tells ∙ tells1 ∙ tells)
          (ap (λ (f : List ℕ → Bool). f name) knows2 ∙ (takes.part tells).1) ∙ sym (takes.part tells).0)
          (λ differ. gives.sources other differ ∙ fails.sources (tells1 ∙ tells) other ∙ takes.sources other differ);
      sink = λ tells. ap (λ (s : Seen _ _ _ _ _ _ _ _). s.sink) gives.others ∙ fails.sink (tells1 ∙ tells)
          ∙ ap (λ (s : Seen _ _ _ _ _ _ _ _). s.sink) takes.others;
      keepers = λ tells other. ap (λ (s : Seen _ _ _ _ _ _ _ _). s.keeper other) gives.others
          ∙ fails.keepers (tells1 ∙ tells) other ∙ ap (λ (s : Seen _ _ _ _ _ _ _ _). s.keeper other) takes.others;
      entrance = λ tells. ap (λ (s : Seen _ _ _ _ _ _ _ _). s.entrance) gives.others ∙ fails.entrance (tells1 ∙ tells)
          ∙ ap (λ (s : Seen _ _ _ _ _ _ _ _). s.entrance) takes.others;
      caller = λ tells. ap (λ (s : Seen _ _ _ _ _ _ _ _). s.caller) gives.others ∙ fails.caller (tells1 ∙ tells)
          ∙ ap (λ (s : Seen _ _ _ _ _ _ _ _). s.caller) takes.others;
      spawner = λ tells. ap (λ (s : Seen _ _ _ _ _ _ _ _). s.spawner) gives.others ∙ fails.spawner (tells1 ∙ tells)
          ∙ ap (λ (s : Seen _ _ _ _ _ _ _ _). s.spawner) takes.others;
      periods = ap (λ (s : Seen _ _ _ _ _ _ _ _). s.periods) gives.others ∙ fails.periods
          ∙ ap (λ (s : Seen _ _ _ _ _ _ _ _). s.periods) takes.others;
      tells = ap (λ (s : Seen _ _ _ _ _ _ _ _). s.tells) gives.others ∙ fails.tells ∙ tells1;
      knows = ap (λ (s : Seen _ _ _ _ _ _ _ _). s.knows) gives.others ∙ knows2;
      stores = ap (λ (s : Seen _ _ _ _ _ _ _ _). s.stores) gives.others ∙ fails.stores
          ∙ ap (λ (s : Seen _ _ _ _ _ _ _ _). s.stores) takes.others;
      asked = λ tells. asked-then (part.Source name) others w0.asked w1.asked w2.asked w3.asked
          (asked-ok (part.Source name) w0.asked w1.asked p (Ok p) refl (takes.asked tells))
          (fails.asked (tells1 ∙ tells)) (ap (λ (s : Seen _ _ _ _ _ _ _ _). s.asked) gives.others);
    }

pub keeper-back : {S T K E D C L P : Type 0} (pairs : K → Option (List Pair)) (name : List ℕ) (others : List Part)
    (w0 w1 w2 w3 : Seen S T K E D C L P) (p : K) (status : Status) → TakesKeeper pairs w0 w1 name (Ok p)
    → NotHandedOut others w1 w2 status
    → GivesKeeper w2 w3 name p
    → NotHandedOut (part.Keeper name ∷ others) w0 w3 status
keeper-back pairs name others w0 w1 w2 w3 p status takes fails gives =
    let tells1 : w1.tells ≡ w0.tells = ap (λ (s : Seen _ _ _ _ _ _ _ _). s.tells) takes.others in
    let stores2 : w2.stores ≡ w0.stores = fails.stores ∙ ap (λ (s : Seen _ _ _ _ _ _ _ _). s.stores) takes.others in
    record {
      cause = cause-within w0 w1 w2 w3 status (takes-keeper-later pairs w0 w1 name (Ok p) takes)
          (gives-keeper-later w2 w3 name p gives) fails.cause;
      sources = λ tells other. ap (λ (s : Seen _ _ _ _ _ _ _ _). s.source other) gives.others
          ∙ fails.sources (tells1 ∙ tells) other ∙ ap (λ (s : Seen _ _ _ _ _ _ _ _). s.source other) takes.others;
      sink = λ tells. ap (λ (s : Seen _ _ _ _ _ _ _ _). s.sink) gives.others ∙ fails.sink (tells1 ∙ tells)
          ∙ ap (λ (s : Seen _ _ _ _ _ _ _ _). s.sink) takes.others;
      keepers = λ tells other.
          by_name (λ n. w3.keeper n ≡ w0.keeper n) name other
          (gives.holds (fails.tells ∙ tells1 ∙ tells)
          (ap (λ (f : List ℕ → Bool). f name) stores2 ∙ (takes.part tells).1) ∙ sym (takes.part tells).0)
          (λ differ. gives.keepers other differ ∙ fails.keepers (tells1 ∙ tells) other ∙ takes.keepers other differ);
      entrance = λ tells. ap (λ (s : Seen _ _ _ _ _ _ _ _). s.entrance) gives.others ∙ fails.entrance (tells1 ∙ tells)
          ∙ ap (λ (s : Seen _ _ _ _ _ _ _ _). s.entrance) takes.others;
      caller = λ tells. ap (λ (s : Seen _ _ _ _ _ _ _ _). s.caller) gives.others ∙ fails.caller (tells1 ∙ tells)
          ∙ ap (λ (s : Seen _ _ _ _ _ _ _ _). s.caller) takes.others;
      spawner = λ tells. ap (λ (s : Seen _ _ _ _ _ _ _ _). s.spawner) gives.others ∙ fails.spawner (tells1 ∙ tells)
          ∙ ap (λ (s : Seen _ _ _ _ _ _ _ _). s.spawner) takes.others;
      periods = ap (λ (s : Seen _ _ _ _ _ _ _ _). s.periods) gives.others ∙ fails.periods
          ∙ ap (λ (s : Seen _ _ _ _ _ _ _ _). s.periods) takes.others;
      tells = ap (λ (s : Seen _ _ _ _ _ _ _ _). s.tells) gives.others ∙ fails.tells ∙ tells1;
      knows = ap (λ (s : Seen _ _ _ _ _ _ _ _). s.knows) gives.others ∙ fails.knows
          ∙ ap (λ (s : Seen _ _ _ _ _ _ _ _). s.knows) takes.others;
      stores = ap (λ (s : Seen _ _ _ _ _ _ _ _). s.stores) gives.others ∙ stores2;
      asked = λ tells. asked-then (part.Keeper name) others w0.asked w1.asked w2.asked w3.asked
          (asked-ok (part.Keeper name) w0.asked w1.asked p (Ok p) refl (takes.asked tells))
          (fails.asked (tells1 ∙ tells)) (ap (λ (s : Seen _ _ _ _ _ _ _ _). s.asked) gives.others);
    }

pub sink-back : {S T K E D C L P : Type 0} (others : List Part)
    (w0 w1 w2 w3 : Seen S T K E D C L P) (p : T) (status : Status)
    → TakesSink w0 w1 (Ok p) → NotHandedOut others w1 w2 status → GivesSink w2 w3 p
    → NotHandedOut (part.Sink ∷ others) w0 w3 status
sink-back others w0 w1 w2 w3 p status takes fails gives =
    let tells1 : w1.tells ≡ w0.tells = ap (λ (s : Seen _ _ _ _ _ _ _ _). s.tells) takes.others in
    record {
      cause = cause-within w0 w1 w2 w3 status (takes-sink-later w0 w1 (Ok p) takes) (gives-sink-later w2 w3 p gives)
          fails.cause;
      sources = λ tells other. ap (λ (s : Seen _ _ _ _ _ _ _ _). s.source other) gives.others
          ∙ fails.sources (tells1 ∙ tells) other ∙ ap (λ (s : Seen _ _ _ _ _ _ _ _). s.source other) takes.others;
      sink = λ tells. gives.holds (fails.tells ∙ tells1 ∙ tells) ∙ sym (takes.part tells);
      keepers = λ tells other. ap (λ (s : Seen _ _ _ _ _ _ _ _). s.keeper other) gives.others
          ∙ fails.keepers (tells1 ∙ tells) other ∙ ap (λ (s : Seen _ _ _ _ _ _ _ _). s.keeper other) takes.others;
      entrance = λ tells. ap (λ (s : Seen _ _ _ _ _ _ _ _). s.entrance) gives.others ∙ fails.entrance (tells1 ∙ tells)
          ∙ ap (λ (s : Seen _ _ _ _ _ _ _ _). s.entrance) takes.others;
      caller = λ tells. ap (λ (s : Seen _ _ _ _ _ _ _ _). s.caller) gives.others ∙ fails.caller (tells1 ∙ tells)
          ∙ ap (λ (s : Seen _ _ _ _ _ _ _ _). s.caller) takes.others;
      spawner = λ tells. ap (λ (s : Seen _ _ _ _ _ _ _ _). s.spawner) gives.others ∙ fails.spawner (tells1 ∙ tells)
          ∙ ap (λ (s : Seen _ _ _ _ _ _ _ _). s.spawner) takes.others;
      periods = ap (λ (s : Seen _ _ _ _ _ _ _ _). s.periods) gives.others ∙ fails.periods
          ∙ ap (λ (s : Seen _ _ _ _ _ _ _ _). s.periods) takes.others;
      tells = ap (λ (s : Seen _ _ _ _ _ _ _ _). s.tells) gives.others ∙ fails.tells ∙ tells1;
      knows = ap (λ (s : Seen _ _ _ _ _ _ _ _). s.knows) gives.others ∙ fails.knows
          ∙ ap (λ (s : Seen _ _ _ _ _ _ _ _). s.knows) takes.others;
      stores = ap (λ (s : Seen _ _ _ _ _ _ _ _). s.stores) gives.others ∙ fails.stores
          ∙ ap (λ (s : Seen _ _ _ _ _ _ _ _). s.stores) takes.others;
      asked = λ tells. asked-then part.Sink others w0.asked w1.asked w2.asked w3.asked
          (asked-ok part.Sink w0.asked w1.asked p (Ok p) refl (takes.asked tells)) (fails.asked (tells1 ∙ tells))
          (ap (λ (s : Seen _ _ _ _ _ _ _ _). s.asked) gives.others);
    }

pub caller-back : {S T K E D C L P : Type 0} (others : List Part)
    (w0 w1 w2 w3 : Seen S T K E D C L P) (p : C) (link : Option L)
    (status : Status) → TakesCaller w0 w1 (Ok p) → NotHandedOut others w1 w2 status → GivesCaller w2 w3 p link
    → NotHandedOut (part.Caller ∷ others) w0 w3 status
caller-back others w0 w1 w2 w3 p link status takes fails gives =
    let tells1 : w1.tells ≡ w0.tells = ap (λ (s : Seen _ _ _ _ _ _ _ _). s.tells) takes.others in
    record {
      cause = cause-within w0 w1 w2 w3 status (takes-caller-later w0 w1 (Ok p) takes)
          (gives-caller-later w2 w3 p link gives) fails.cause;
      sources = λ tells other. ap (λ (s : Seen _ _ _ _ _ _ _ _). s.source other) gives.others
          ∙ fails.sources (tells1 ∙ tells) other ∙ ap (λ (s : Seen _ _ _ _ _ _ _ _). s.source other) takes.others;
      sink = λ tells. ap (λ (s : Seen _ _ _ _ _ _ _ _). s.sink) gives.others ∙ fails.sink (tells1 ∙ tells)
          ∙ ap (λ (s : Seen _ _ _ _ _ _ _ _). s.sink) takes.others;
      keepers = λ tells other. ap (λ (s : Seen _ _ _ _ _ _ _ _). s.keeper other) gives.others
          ∙ fails.keepers (tells1 ∙ tells) other ∙ ap (λ (s : Seen _ _ _ _ _ _ _ _). s.keeper other) takes.others;
      entrance = λ tells. ap (λ (s : Seen _ _ _ _ _ _ _ _). s.entrance) gives.others
          ∙ fails.entrance (tells1 ∙ tells) ∙ ap (λ (s : Seen _ _ _ _ _ _ _ _). s.entrance) takes.others;
      caller = λ tells. gives.holds (fails.tells ∙ tells1 ∙ tells) ∙ sym (takes.part tells);
      spawner = λ tells. ap (λ (s : Seen _ _ _ _ _ _ _ _). s.spawner) gives.others
          ∙ fails.spawner (tells1 ∙ tells) ∙ ap (λ (s : Seen _ _ _ _ _ _ _ _). s.spawner) takes.others;
      periods = ap (λ (s : Seen _ _ _ _ _ _ _ _). s.periods) gives.others ∙ fails.periods
          ∙ ap (λ (s : Seen _ _ _ _ _ _ _ _). s.periods) takes.others;
      tells = ap (λ (s : Seen _ _ _ _ _ _ _ _). s.tells) gives.others ∙ fails.tells ∙ tells1;
      knows = ap (λ (s : Seen _ _ _ _ _ _ _ _). s.knows) gives.others ∙ fails.knows
          ∙ ap (λ (s : Seen _ _ _ _ _ _ _ _). s.knows) takes.others;
      stores = ap (λ (s : Seen _ _ _ _ _ _ _ _). s.stores) gives.others ∙ fails.stores
          ∙ ap (λ (s : Seen _ _ _ _ _ _ _ _). s.stores) takes.others;
      asked = λ tells. asked-then part.Caller others w0.asked w1.asked w2.asked w3.asked
          (asked-ok part.Caller w0.asked w1.asked p (Ok p) refl (takes.asked tells)) (fails.asked (tells1 ∙ tells))
          (ap (λ (s : Seen _ _ _ _ _ _ _ _). s.asked) gives.others);
    }

-- ---- the period

keeps-one : {S T K E D C L P X : Type 0} (old new : Seen S T K E D C L P) (period : Period) (ended status : Status)
    (answer : Result (Unit {0}) X) → KeepsPeriod old new period answer
    → MatchResult answer (λ u. status ≡ ended) (λ e. status ≡ NoMemory) → Keeps old new (Some period) ended status
keeps-one old new period ended status (Ok u) keeps is = inl (is, keeps.kept)
keeps-one old new period ended status (Err e) keeps is = inr (is, keeps.none)

-- the world was asked to keep the period
pub kept-one : {S T K E D C L P X : Type 0} (old new : Seen S T K E D C L P) (period : Period) (ended status : Status)
    (answer : Result (Unit {0}) X) → KeepsPeriod old new period answer
    → MatchResult answer (λ u. status ≡ ended) (λ e. status ≡ NoMemory) → KeepsAny old new (Some period) ended status
kept-one old new period ended status answer keeps is =
    record { periods = keeps-one old new period ended status answer keeps is; others = keeps.others }

-- what is kept is told by the periods alone
pub keeps-later : {S T K E D C L P : Type 0} (old mid new : Seen S T K E D C L P) (period : Option Period)
    (ended status : Status)
    → new.periods ≡ mid.periods → Keeps old mid period ended status → Keeps old new period ended status
keeps-later old mid new None ended status same keeps = (keeps.0, same ∙ keeps.1)
keeps-later old mid new (Some period) ended status same (inl is) = inl (is.0, λ tells. same ∙ is.1 tells)
keeps-later old mid new (Some period) ended status same (inr is) = inr (is.0, same ∙ is.1)

pub keeps-earlier : {S T K E D C L P : Type 0} (old mid new : Seen S T K E D C L P) (period : Option Period)
    (ended status : Status)
    → mid.periods ≡ old.periods → mid.tells ≡ old.tells → Keeps mid new period ended status
    → Keeps old new period ended status
keeps-earlier old mid new None ended status same telling keeps = (keeps.0, keeps.1 ∙ same)
keeps-earlier old mid new (Some period) ended status same telling (inl is) =
    inl (is.0, λ tells. is.1 (telling ∙ tells) ∙ ap (λ (ps : List Period). ps ++ period ∷ []) same)
keeps-earlier old mid new (Some period) ended status same telling (inr is) = inr (is.0, is.1 ∙ same)

-- ---- the command

pub returned : {S T K E D C L P X : Type 0} (over : OverParts S T K X) (name : List ℕ) (before after : Parts S T K)
    (w4 w5 w6 w7 w8 w9 : Seen S T K E D C L P) (left : X) (status : Status) → name ≢ standard_input
    → over.leaves before after left → KeepsAny w4 w5 (over.period left) (over.ended left) status
    → GivesKeeper w5 w6 no_name after.keeper → GivesSink w6 w7 after.out → GivesSource w7 w8 standard_input after.events
    → GivesSource w8 w9 name after.config → Returned over name before w4 w9 status
returned over name before after w4 w5 w6 w7 w8 w9 left status differs ran keeps keeper sink events config =
    let tells5 : w5.tells ≡ w4.tells = ap (λ (s : Seen _ _ _ _ _ _ _ _). s.tells) keeps.others in
    let tells6 : w6.tells ≡ w4.tells = ap (λ (s : Seen _ _ _ _ _ _ _ _). s.tells) keeper.others ∙ tells5 in
    let tells7 : w7.tells ≡ w4.tells = ap (λ (s : Seen _ _ _ _ _ _ _ _). s.tells) sink.others ∙ tells6 in
    let tells8 : w8.tells ≡ w4.tells = ap (λ (s : Seen _ _ _ _ _ _ _ _). s.tells) events.others ∙ tells7 in
    let knows7 : (n : List ℕ) → w7.knows n ≡ w4.knows n = λ n. ap (λ (s : Seen _ _ _ _ _ _ _ _). s.knows n) sink.others
    ∙ ap (λ (s : Seen _ _ _ _ _ _ _ _). s.knows n) keeper.others
    ∙ ap (λ (s : Seen _ _ _ _ _ _ _ _). s.knows n) keeps.others in
    let keeper9 : (n : List ℕ)
    → w9.keeper n ≡ w6.keeper n = λ n. ap (λ (s : Seen _ _ _ _ _ _ _ _). s.keeper n) config.others
    ∙ ap (λ (s : Seen _ _ _ _ _ _ _ _). s.keeper n) events.others
    ∙ ap (λ (s : Seen _ _ _ _ _ _ _ _). s.keeper n) sink.others in
    record {
      after = after;
      left = left;
      ran = ran;
      gave_config = λ tells knows.
          config.holds (tells8 ∙ tells)
          (ap (λ (s : Seen _ _ _ _ _ _ _ _). s.knows name) events.others ∙ knows7 name ∙ knows);
      gave_events = λ tells knows. config.sources standard_input (λ same. differs (sym same))
          ∙ events.holds (tells7 ∙ tells) (knows7 standard_input ∙ knows);
      gave_sink = λ tells. ap (λ (s : Seen _ _ _ _ _ _ _ _). s.sink) config.others ∙ ap
          (λ (s : Seen _ _ _ _ _ _ _ _). s.sink) events.others
          ∙ sink.holds (tells6 ∙ tells);
      gave_keeper = λ tells stores. keeper9 no_name
          ∙ keeper.holds (tells5 ∙ tells) (ap (λ (s : Seen _ _ _ _ _ _ _ _). s.stores no_name) keeps.others ∙ stores);
      sources = λ other not_config not_events. config.sources other not_config ∙ events.sources other not_events
          ∙ ap (λ (s : Seen _ _ _ _ _ _ _ _). s.source other) sink.others
          ∙ ap (λ (s : Seen _ _ _ _ _ _ _ _). s.source other) keeper.others
          ∙ ap (λ (s : Seen _ _ _ _ _ _ _ _). s.source other) keeps.others;
      keepers = λ other differ. keeper9 other ∙ keeper.keepers other differ
          ∙ ap (λ (s : Seen _ _ _ _ _ _ _ _). s.keeper other) keeps.others;
      entrance = ap (λ (s : Seen _ _ _ _ _ _ _ _). s.entrance) config.others
          ∙ ap (λ (s : Seen _ _ _ _ _ _ _ _). s.entrance) events.others
          ∙ ap (λ (s : Seen _ _ _ _ _ _ _ _). s.entrance) sink.others
          ∙ ap (λ (s : Seen _ _ _ _ _ _ _ _). s.entrance) keeper.others
          ∙ ap (λ (s : Seen _ _ _ _ _ _ _ _). s.entrance) keeps.others;
      caller = ap (λ (s : Seen _ _ _ _ _ _ _ _). s.caller) config.others
          ∙ ap (λ (s : Seen _ _ _ _ _ _ _ _). s.caller) events.others
          ∙ ap (λ (s : Seen _ _ _ _ _ _ _ _). s.caller) sink.others
          ∙ ap (λ (s : Seen _ _ _ _ _ _ _ _). s.caller) keeper.others
          ∙ ap (λ (s : Seen _ _ _ _ _ _ _ _). s.caller) keeps.others;
      spawner = ap (λ (s : Seen _ _ _ _ _ _ _ _). s.spawner) config.others
          ∙ ap (λ (s : Seen _ _ _ _ _ _ _ _). s.spawner) events.others
          ∙ ap (λ (s : Seen _ _ _ _ _ _ _ _). s.spawner) sink.others
          ∙ ap (λ (s : Seen _ _ _ _ _ _ _ _). s.spawner) keeper.others
          ∙ ap (λ (s : Seen _ _ _ _ _ _ _ _). s.spawner) keeps.others;
      asked = ap (λ (s : Seen _ _ _ _ _ _ _ _). s.asked) config.others
          ∙ ap (λ (s : Seen _ _ _ _ _ _ _ _). s.asked) events.others
          ∙ ap (λ (s : Seen _ _ _ _ _ _ _ _). s.asked) sink.others
          ∙ ap (λ (s : Seen _ _ _ _ _ _ _ _). s.asked) keeper.others
          ∙ ap (λ (s : Seen _ _ _ _ _ _ _ _). s.asked) keeps.others;
      keeps = keeps-later w4 w5 w9 (over.period left) (over.ended left) status
          (ap (λ (s : Seen _ _ _ _ _ _ _ _). s.periods) config.others
          ∙ ap (λ (s : Seen _ _ _ _ _ _ _ _). s.periods) events.others
          ∙ ap (λ (s : Seen _ _ _ _ _ _ _ _). s.periods) sink.others
          ∙ ap (λ (s : Seen _ _ _ _ _ _ _ _). s.periods) keeper.others)
          keeps.periods;
    }

-- all parts were taken, and then the command ran over them
pub has-run : {S T K E D C L P X : Type 0} (over : OverParts S T K X) (name : List ℕ) (w0 w4 w9 : Seen S T K E D C L P)
    (parts : Parts S T K) (status : Status) → name ≢ standard_input → TakesParts over.pairs name w0 w4 parts
    → Returned over name parts w4 w9 status → HasRun over name w0 w9 status
has-run over name w0 w4 w9 parts status differs took back =
    let w1 = took.one in
    let w2 = took.two in
    let w3 = took.three in
    let takes = took.config in
    let taken = took.events in
    let sink = took.sink in
    let store = took.keeper in
    let input : standard_input ≢ name = λ same. differs (sym same) in
    let tells1 : w1.tells ≡ w0.tells = ap (λ (s : Seen _ _ _ _ _ _ _ _). s.tells) takes.others in
    let tells2 : w2.tells ≡ w0.tells = ap (λ (s : Seen _ _ _ _ _ _ _ _). s.tells) taken.others ∙ tells1 in
    let tells3 : w3.tells ≡ w0.tells = ap (λ (s : Seen _ _ _ _ _ _ _ _). s.tells) sink.others ∙ tells2 in
    let tells4 : w4.tells ≡ w0.tells = ap (λ (s : Seen _ _ _ _ _ _ _ _). s.tells) store.others ∙ tells3 in
    let knows4 : (n : List ℕ) → w4.knows n ≡ w1.knows n = λ n. ap (λ (s : Seen _ _ _ _ _ _ _ _). s.knows n) store.others
    ∙ ap (λ (s : Seen _ _ _ _ _ _ _ _). s.knows n) sink.others
    ∙ ap (λ (s : Seen _ _ _ _ _ _ _ _). s.knows n) taken.others in
    let source4 : (n : List ℕ)
    → w4.source n ≡ w2.source n = λ n. ap (λ (s : Seen _ _ _ _ _ _ _ _). s.source n) store.others
    ∙ ap (λ (s : Seen _ _ _ _ _ _ _ _). s.source n) sink.others in
    let keeper3 : (n : List ℕ)
    → w3.keeper n ≡ w0.keeper n = λ n. ap (λ (s : Seen _ _ _ _ _ _ _ _). s.keeper n) sink.others
    ∙ ap (λ (s : Seen _ _ _ _ _ _ _ _). s.keeper n) taken.others
    ∙ ap (λ (s : Seen _ _ _ _ _ _ _ _). s.keeper n) takes.others in
    record {
      before = parts;
      after = back.after;
      left = back.left;
      ran = back.ran;
      took_config = λ tells. (takes.part tells).0;
      took_events = λ tells. sym (takes.sources standard_input input) ∙ (taken.part (tells1 ∙ tells)).0;
      took_sink = λ tells. sym (ap (λ (s : Seen _ _ _ _ _ _ _ _). s.sink) taken.others
          ∙ ap (λ (s : Seen _ _ _ _ _ _ _ _). s.sink) takes.others) ∙ sink.part (tells2 ∙ tells);
      took_keeper = λ tells. sym (keeper3 no_name) ∙ (store.part (tells3 ∙ tells)).0;
      no_pair = λ silent. store.empty (tells3 ∙ silent) refl;
      gave_config = λ tells. back.gave_config (tells4 ∙ tells)
          (knows4 name ∙ ap (λ (s : Seen _ _ _ _ _ _ _ _). s.knows name) takes.others ∙ (takes.part tells).1);
      gave_events = λ tells. back.gave_events (tells4 ∙ tells)
          (knows4 standard_input ∙ (taken.part (tells1 ∙ tells)).1);
      gave_sink = λ tells. back.gave_sink (tells4 ∙ tells);
      gave_keeper = λ tells. back.gave_keeper (tells4 ∙ tells)
          (ap (λ (s : Seen _ _ _ _ _ _ _ _). s.stores no_name) store.others ∙ (store.part (tells3 ∙ tells)).1);
      sources = λ other not_config not_events. back.sources other not_config not_events ∙ source4 other
          ∙ taken.sources other not_events ∙ takes.sources other not_config;
      keepers = λ other differ. back.keepers other differ ∙ store.keepers other differ ∙ keeper3 other;
      entrance = back.entrance ∙ ap (λ (s : Seen _ _ _ _ _ _ _ _). s.entrance) store.others
          ∙ ap (λ (s : Seen _ _ _ _ _ _ _ _). s.entrance) sink.others
          ∙ ap (λ (s : Seen _ _ _ _ _ _ _ _). s.entrance) taken.others
          ∙ ap (λ (s : Seen _ _ _ _ _ _ _ _). s.entrance) takes.others;
      caller = back.caller ∙ ap (λ (s : Seen _ _ _ _ _ _ _ _). s.caller) store.others
          ∙ ap (λ (s : Seen _ _ _ _ _ _ _ _). s.caller) sink.others
          ∙ ap (λ (s : Seen _ _ _ _ _ _ _ _). s.caller) taken.others
          ∙ ap (λ (s : Seen _ _ _ _ _ _ _ _). s.caller) takes.others;
      spawner = back.spawner ∙ ap (λ (s : Seen _ _ _ _ _ _ _ _). s.spawner) store.others
          ∙ ap (λ (s : Seen _ _ _ _ _ _ _ _). s.spawner) sink.others
          ∙ ap (λ (s : Seen _ _ _ _ _ _ _ _). s.spawner) taken.others
          ∙ ap (λ (s : Seen _ _ _ _ _ _ _ _). s.spawner) takes.others;
      asked = λ tells.
          let first = asked-ok (part.Source name) w0.asked w1.asked parts.config (Ok parts.config) refl
          (takes.asked tells) in
          let second = asked-ok (part.Source standard_input) w1.asked w2.asked parts.events (Ok parts.events) refl
          (taken.asked (tells1 ∙ tells)) in
          let third = asked-ok part.Sink w2.asked w3.asked parts.out (Ok parts.out) refl
          (sink.asked (tells2 ∙ tells)) in
          let fourth = asked-ok (part.Keeper no_name) w3.asked w4.asked parts.keeper (Ok parts.keeper) refl
          (store.asked (tells3 ∙ tells)) in
          back.asked
          ∙ asked-more w0.asked w3.asked w4.asked
          (part.Source name ∷ part.Source standard_input ∷ part.Sink ∷ []) (part.Keeper no_name)
          (asked-more w0.asked w2.asked w3.asked (part.Source name ∷ part.Source standard_input ∷ []) part.Sink
          (asked-more w0.asked w1.asked w2.asked (part.Source name ∷ []) (part.Source standard_input) first second)
          third) fourth;
      keeps = keeps-earlier w0 w4 w9 (over.period back.left) (over.ended back.left) status
          (ap (λ (s : Seen _ _ _ _ _ _ _ _). s.periods) store.others
          ∙ ap (λ (s : Seen _ _ _ _ _ _ _ _). s.periods) sink.others
          ∙ ap (λ (s : Seen _ _ _ _ _ _ _ _). s.periods) taken.others
          ∙ ap (λ (s : Seen _ _ _ _ _ _ _ _). s.periods) takes.others)
          tells4 back.keeps;
    }
