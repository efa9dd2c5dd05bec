-- What a world in memory shows once it was asked for a part.
use Rattle.std.proofs.Common.{◌≡◌, ◌≢◌, ℕ, ◌||◌, Bool, true, false, not, List, ◌∷◌, [], ◌++◌, codes, inl, Option}
use Rattle.std.proofs.Common.{Result, Ok, Err, refl, sym, ◌∙◌, ap, subst, arith}
use Rattle.std.specs.Str.{bytes_eq}
use Rattle.std.proofs.lemmas.Slice.Eq.{bytes_eq-Decides}
use Rattle.acct_keeper.specs.declared.pairs.Pair.{Pair}
use Rattle.acct_keeper.specs.Faults.{Rose, one_more}
use Rattle.acct_world.specs.declared.part.Part.{Part}
use Rattle.acct_world.specs.declared.part.Part.TheVariants as part
use Rattle.acct_links.specs.declared.callers.TakeError.{TakeError}
use Rattle.acct_world.specs.World.{Seen, TakesSource, TakesSink, TakesKeeper, TakesEntrance, TakesCaller}
use Rattle.acct_world.specs.World.{TakesSpawner}
use Rattle.acct_world.specs.Memory.{WorldInMemory, shown, Hands, is_empty_name}

rose : (faults counted : ℕ) → counted ≡ one_more faults → Rose faults counted
rose faults counted counts = omega (arith, counts)

pub sink-taken : {S T K E D C L P : Type 0} (w : WorldInMemory S T K E D C L P) (left : Option T) (noted : List Part)
    (counted takes : ℕ)
    (to_fail : Bool) (answer : Result T TakeError) → noted ≡ w.asked ++ part.Sink ∷ []
    → Hands to_fail w.sink left w.sink_faults counted answer
    → TakesSink (shown w)
    (shown (record w { sink = left; asked = noted; sink_faults = counted; takes = takes })) answer
sink-taken w left noted counted takes to_fail (Ok p) notes hands = record {
  part = λ tells. hands.part;
  kept = tt;
  others = refl;
  asked = λ tells. inl notes;
  cause = λ is. absurd cc;
  later = hands.later;
}
sink-taken w left noted counted takes to_fail (Err e) notes hands = record {
  part = tt;
  kept = hands.kept;
  others = refl;
  asked = λ tells. inl notes;
  cause = λ is. rose w.sink_faults counted hands.count;
  later = hands.later;
}

pub spawner-taken : {S T K E D C L P : Type 0} (w : WorldInMemory S T K E D C L P) (left : Option P) (noted : List Part)
    (counted takes : ℕ)
    (to_fail : Bool) (answer : Result P TakeError) → noted ≡ w.asked ++ part.Spawner ∷ []
    → Hands to_fail w.spawner left w.spawner_faults counted answer
    → TakesSpawner (shown w)
    (shown (record w { spawner = left; asked = noted; spawner_faults = counted; takes = takes })) answer
spawner-taken w left noted counted takes to_fail (Ok p) notes hands = record {
  part = λ tells. hands.part;
  kept = tt;
  others = refl;
  asked = λ tells. inl notes;
  cause = λ is. absurd cc;
  later = hands.later;
}
spawner-taken w left noted counted takes to_fail (Err e) notes hands = record {
  part = tt;
  kept = hands.kept;
  others = refl;
  asked = λ tells. inl notes;
  cause = λ is. rose w.spawner_faults counted hands.count;
  later = hands.later;
}

other-name : (other name target : List ℕ) → bytes_eq name target ≡ true → other ≢ name → bytes_eq other target ≡ false
other-name other name target is differ =
    let P : Bool → Type 0 = λ b. bytes_eq other target ≡ b → bytes_eq other target ≡ false in
    let split : (b : Bool) → P b = λ b. elim b as P [
      | true ↦ λ same. absurd (differ
          ((bytes_eq-Decides other target).0 same ∙ sym ((bytes_eq-Decides name target).0 is)))
      | false ↦ λ same. same
    ] in
    split (bytes_eq other target) refl

pub events-taken : {S T K E D C L P : Type 0} (w : WorldInMemory S T K E D C L P) (name : List ℕ) (left : Option S)
    (noted : List Part)
    (counted takes : ℕ) (to_fail : Bool) (answer : Result S TakeError) → bytes_eq name (codes "-") ≡ true
    → noted ≡ w.asked ++ part.Source name ∷ [] → Hands to_fail w.events left w.source_faults counted answer
    → TakesSource (shown w)
    (shown (record w { events = left; asked = noted; source_faults = counted; takes = takes })) name answer
events-taken w name left noted counted takes to_fail (Ok p) here notes hands = record {
  part = λ tells. (rw here hands.part, rw here refl);
  kept = tt;
  sources = λ other differ. rw (other-name other name (codes "-") here differ) refl;
  others = refl;
  asked = λ tells. inl notes;
  cause = λ is. absurd cc;
  later = hands.later;
}
events-taken w name left noted counted takes to_fail (Err e) here notes hands = record {
  part = tt;
  kept = ap (λ (s : Option _). (shown (record w { events = s })).source) hands.kept;
  sources = λ other differ. rw (other-name other name (codes "-") here differ) refl;
  others = refl;
  asked = λ tells. inl notes;
  cause = λ is. rose w.source_faults counted hands.count;
  later = hands.later;
}

pub config-taken : {S T K E D C L P : Type 0} (w : WorldInMemory S T K E D C L P) (name : List ℕ) (left : Option S)
    (noted : List Part) (counted takes : ℕ) (fails known : Bool) (answer : Result S TakeError)
    → bytes_eq name (codes "-") ≡ false → bytes_eq name w.name ≡ known → noted ≡ w.asked ++ part.Source name ∷ []
    → Hands (fails || not known) w.config left w.source_faults counted answer
    → TakesSource (shown w)
    (shown (record w { config = left; asked = noted; source_faults = counted; takes = takes })) name answer
config-taken w name left noted counted takes true known (Ok p) not_events is notes hands =
    let clash : false ≡ true = hands.fails in absurd cc
config-taken w name left noted counted takes false false (Ok p) not_events is notes hands =
    let clash : false ≡ true = hands.fails in absurd cc
config-taken w name left noted counted takes false true (Ok p) not_events is notes hands = record {
  part = λ tells. (rw (not_events, is) hands.part, rw (not_events, is) refl);
  kept = tt;
  sources = λ other differ. rw (other-name other name w.name is differ) refl;
  others = refl;
  asked = λ tells. inl notes;
  cause = λ is. absurd cc;
  later = hands.later;
}
config-taken w name left noted counted takes fails known (Err e) not_events is notes hands =
    let none : left ≡ w.config = hands.kept in record {
      part = tt;
      kept = ap (λ (s : Option _). (shown (record w { config = s })).source) none;
      sources = λ other differ. ap (λ (s : Option _). (shown (record w { config = s })).source other) none;
      others = refl;
      asked = λ tells. inl notes;
      cause = λ is. rose w.source_faults counted hands.count;
      later = hands.later;
    }

pub keeper-taken : {S T K E D C L P : Type 0} (pairs : K
    → Option (List Pair)) (w : WorldInMemory S T K E D C L P) (name : List ℕ)
    (left : Option K) (noted : List Part) (counted takes : ℕ) (fails known : Bool) (answer : Result K TakeError)
    → is_empty_name name ≡ known → noted ≡ w.asked ++ part.Keeper name ∷ []
    → Hands (fails || not known) w.keeper left w.keeper_faults counted answer
    → TakesKeeper pairs (shown w)
    (shown (record w { keeper = left; asked = noted; keeper_faults = counted; takes = takes })) name answer
keeper-taken pairs w name left noted counted takes true known (Ok p) is notes hands =
    let clash : false ≡ true = hands.fails in absurd cc
keeper-taken pairs w name left noted counted takes false false (Ok p) is notes hands =
    let clash : false ≡ true = hands.fails in absurd cc
keeper-taken pairs w name left noted counted takes false true (Ok p) is notes hands = record {
  part = λ tells. (rw is hands.part, is);
  empty = λ tells. absurd cc;
  kept = tt;
  keepers = λ other differ. rw (other-name other name [] is differ) refl;
  others = refl;
  asked = λ tells. inl notes;
  cause = λ is. absurd cc;
  later = hands.later;
}
keeper-taken pairs w name left noted counted takes fails known (Err e) is notes hands = record {
  part = tt;
  empty = tt;
  kept = ap (λ (k : Option _). (shown (record w { keeper = k })).keeper) hands.kept;
  keepers = λ other differ. ap (λ (k : Option _). (shown (record w { keeper = k })).keeper other) hands.kept;
  others = refl;
  asked = λ tells. inl notes;
  cause = λ is. rose w.keeper_faults counted hands.count;
  later = hands.later;
}

pub entrance-taken : {S T K E D C L P : Type 0} (w : WorldInMemory S T K E D C L P) (left : Option E)
    (noted : List Part)
    (counted takes : ℕ) (to_fail : Bool) (answer : Result E TakeError) → noted ≡ w.asked ++ part.Entrance ∷ []
    → Hands to_fail w.entrance left w.entrance_faults counted answer
    → TakesEntrance (shown w)
    (shown (record w { entrance = left; asked = noted; entrance_faults = counted; takes = takes })) answer
entrance-taken w left noted counted takes to_fail (Ok p) notes hands = record {
  part = λ tells. hands.part;
  kept = tt;
  others = refl;
  asked = λ tells. inl notes;
  cause = λ is. absurd cc;
  later = hands.later;
}
entrance-taken w left noted counted takes to_fail (Err e) notes hands = record {
  part = tt;
  kept = hands.kept;
  others = refl;
  asked = λ tells. inl notes;
  cause = λ is. rose w.entrance_faults counted hands.count;
  later = hands.later;
}

pub caller-taken : {S T K E D C L P : Type 0} (w : WorldInMemory S T K E D C L P) (left : Option C) (noted : List Part)
    (counted takes : ℕ) (to_fail : Bool) (answer : Result C TakeError) → noted ≡ w.asked ++ part.Caller ∷ []
    → Hands to_fail w.caller left w.caller_faults counted answer
    → TakesCaller (shown w)
    (shown (record w { caller = left; asked = noted; caller_faults = counted; takes = takes })) answer
caller-taken w left noted counted takes to_fail (Ok p) notes hands = record {
  part = λ tells. hands.part;
  kept = tt;
  others = refl;
  asked = λ tells. inl notes;
  cause = λ is. absurd cc;
  later = hands.later;
}
caller-taken w left noted counted takes to_fail (Err e) notes hands = record {
  part = tt;
  kept = hands.kept;
  others = refl;
  asked = λ tells. inl notes;
  cause = λ is. rose w.caller_faults counted hands.count;
  later = hands.later;
}

-- ---- the world is what its parts show

pub seen-entrance : {S T K E D C L P : Type 0} (w now : WorldInMemory S T K E D C L P) (new : Seen S T K E D C L P)
    (answer : Result E TakeError) → w ≡ now → TakesEntrance (shown w) new answer → TakesEntrance (shown now) new answer
seen-entrance w now new answer is takes =
    subst (λ (x : WorldInMemory _ _ _ _ _ _ _ _). TakesEntrance (shown x) new answer) is takes

pub seen-caller : {S T K E D C L P : Type 0} (w now : WorldInMemory S T K E D C L P) (new : Seen S T K E D C L P)
    (answer : Result C TakeError) → w ≡ now → TakesCaller (shown w) new answer → TakesCaller (shown now) new answer
seen-caller w now new answer is takes =
    subst (λ (x : WorldInMemory _ _ _ _ _ _ _ _). TakesCaller (shown x) new answer) is takes

pub seen-sink : {S T K E D C L P : Type 0} (w now : WorldInMemory S T K E D C L P) (new : Seen S T K E D C L P)
    (answer : Result T TakeError) → w ≡ now → TakesSink (shown w) new answer → TakesSink (shown now) new answer
seen-sink w now new answer is takes =
    subst (λ (x : WorldInMemory _ _ _ _ _ _ _ _). TakesSink (shown x) new answer) is takes

pub seen-spawner : {S T K E D C L P : Type 0} (w now : WorldInMemory S T K E D C L P) (new : Seen S T K E D C L P)
    (answer : Result P TakeError) → w ≡ now → TakesSpawner (shown w) new answer → TakesSpawner (shown now) new answer
seen-spawner w now new answer is takes =
    subst (λ (x : WorldInMemory _ _ _ _ _ _ _ _). TakesSpawner (shown x) new answer) is takes

pub seen-source : {S T K E D C L P : Type 0} (w now : WorldInMemory S T K E D C L P) (new : Seen S T K E D C L P)
    (name : List ℕ) (answer : Result S TakeError) → w ≡ now → TakesSource (shown w) new name answer
    → TakesSource (shown now) new name answer
seen-source w now new name answer is takes =
    subst (λ (x : WorldInMemory _ _ _ _ _ _ _ _). TakesSource (shown x) new name answer) is takes

pub seen-keeper : {S T K E D C L P : Type 0} (pairs : K → Option (List Pair)) (w now : WorldInMemory S T K E D C L P)
    (new : Seen S T K E D C L P) (name : List ℕ) (answer : Result K TakeError) → w ≡ now
    → TakesKeeper pairs (shown w) new name answer → TakesKeeper pairs (shown now) new name answer
seen-keeper pairs w now new name answer is takes =
    subst (λ (x : WorldInMemory _ _ _ _ _ _ _ _). TakesKeeper pairs (shown x) new name answer) is takes
