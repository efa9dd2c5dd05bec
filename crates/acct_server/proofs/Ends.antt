-- Where nothing failed outside, serving comes to its end.
use Rattle.std.proofs.Common.{◌≡◌, ◌≢◌, ℕ, zero, suc, ◌<◌, ◌≤◌, inl, inr, true, false, List, []}
use Rattle.std.proofs.Common.{◌∷◌, ◌++◌, length, Option, Some, IfSome, slice_index_or, refl, sym, ◌∙◌, ap, subst}
use Rattle.std.proofs.Common.{All, arith}
use Rattle.std.proofs.lemmas.List.Elements.{All-head, All-tail}
use Rattle.acct_calls.specs.declared.calls.Call.{Call}
use Rattle.acct_config.specs.declared.config.Config.{Config}
use Rattle.acct_keeper.specs.declared.pairs.Pair.{Pair}
use Rattle.acct_machine.specs.Legal.{May, LegalAfter, Legal, Rises, faults_of, counts_of}
use Rattle.acct_machine.specs.State.{Start}
use Rattle.acct_machine.specs.Outbox.{AreCounted}
use Rattle.acct_machine.specs.declared.entry.Entry.{Entry}
use Rattle.acct_machine.specs.declared.entry.Entry.TheVariants.{Opened, Called, Gone, Hooked}
use Rattle.acct_machine.specs.declared.entry.Verdict.{Verdict}
use Rattle.acct_machine.specs.declared.entry.Verdict.TheVariants.{Ran, StoreFault, NoMemory as NoMemoryFor}
use Rattle.acct_rows.specs.PairRules.{AreUnbroken, IsSmallestBroken}
use Rattle.acct_keeper.specs.Faults.{Rose, NotRisen}
use Rattle.door_workers.specs.Doors.{DoorRun, ServesDoors, stops, ComesTo, behind, behind_all, outcome_of, StopsAt}
use Rattle.door_workers.specs.Services.{Service}
use Rattle.door_workers.specs.declared.ends.DoorEnd.{DoorEnd}
use Rattle.door_workers.specs.declared.ends.DoorEnd.TheVariants as stop
use Rattle.link_sessions.specs.declared.ends.Ended.{Ended}
use Rattle.acct_server.specs.Serving.{ServesQuietly, IsServingsEnd, CommitsAll, IsComplete, TellingDoors, IsServe}
use Rattle.acct_server.specs.Serving.{served_status}
use Rattle.acct_server.specs.Leaves.{StoreCause}
use Rattle.acct_server.specs.declared.serving.Served.{Served}
use Rattle.acct_server.specs.declared.status.Status.{Status}
use Rattle.acct_server.specs.declared.status.Status.TheVariants as status
use Rattle.acct_machine.proofs.Storing.{counted-below}
use Rattle.acct_server.proofs.Denying.{may-after}

not-risen : (before now : ℕ) → NotRisen before now → Rose before now → ⊥
not-risen before now still rose = omega (arith, still.0, still.1, rose)

-- ---- no commit failed

-- the count at a commit that failed is one of those of the history
fault-among : (P : ℕ → Type 0) (before after : List Entry) (conn : ℕ) (call : Call) (n bytes : ℕ)
    → All P (faults_of (before ++ Called conn call (StoreFault n) bytes ∷ after)) → P n
fault-among P [] after conn call n bytes all = All-head P n (faults_of after) all
fault-among P (Opened c l ∷ before) after conn call n bytes all = fault-among P before after conn call n bytes all
fault-among P (Gone c ∷ before) after conn call n bytes all = fault-among P before after conn call n bytes all
fault-among P (Hooked out ∷ before) after conn call n bytes all = fault-among P before after conn call n bytes all
fault-among P (Called c d Ran b ∷ before) after conn call n bytes all =
    fault-among P before after conn call n bytes all
fault-among P (Called c d NoMemoryFor b ∷ before) after conn call n bytes all =
    fault-among P before after conn call n bytes all
fault-among P (Called c d (StoreFault m) b ∷ before) after conn call n bytes all =
    fault-among P before after conn call n bytes
    (All-tail P m (faults_of (before ++ Called conn call (StoreFault n) bytes ∷ after)) all)

rises-of : (start : Start) (before : List Entry) (conn : ℕ) (call : Call) (verdict : Verdict) (bytes : ℕ)
    → May start before (Called conn call verdict bytes) → Rises start before verdict
rises-of start before conn call verdict bytes (live, is, short, have, takes, rises) = rises

commits-all : (start : Start) (history : List Entry) (first now : ℕ) → Legal start history → start.faults ≡ first
    → AreCounted now start history → NotRisen first now → CommitsAll history
commits-all start history first now legal same counts still before after conn call n bytes is =
    let up : All (λ m. m ≤ now) (counts_of start history) = counted-below now start history counts in
    let whole : LegalAfter start [] (before ++ Called conn call (StoreFault n) bytes ∷ after) =
    subst (λ (h : List Entry). LegalAfter start [] h) is legal in
    let may = may-after start [] before after (Called conn call (StoreFault n) bytes) whole in
    let all : All (λ m. m ≤ now) (faults_of (before ++ Called conn call (StoreFault n) bytes ∷ after)) =
    All-tail (λ m. m ≤ now) start.faults (faults_of (before ++ Called conn call (StoreFault n) bytes ∷ after))
    (subst (λ (h : List Entry). All (λ m. m ≤ now) (counts_of start h)) is up) in
    let within : n ≤ now = fault-among (λ m. m ≤ now) before after conn call n bytes all in
    let above : Rose start.faults n = All-head (λ m. Rose m n) start.faults (faults_of before)
    (rises-of start before conn call (StoreFault n) bytes may).1 in
    omega (arith, within, above, same, still.0, still.1)

nothing-in : (before after : List Entry) (e : Entry) → [] ≡ before ++ e ∷ after → ⊥
nothing-in [] after e is = absurd cc
nothing-in (x ∷ before) after e is = absurd cc

-- ---- the store was opened

store-ends : (held : Option (List Pair)) (pairs : List Pair) (before now : ℕ) (s : Status) → held ≡ Some pairs
    → (pairs ≢ [] → AreUnbroken pairs) → NotRisen before now → StoreCause held before now s → IsServingsEnd s
store-ends held pairs before now status.Done told unbroken still cause = tt
store-ends held pairs before now status.NoMemory told unbroken still cause = tt
store-ends held pairs before now status.Usage told unbroken still cause = cause
store-ends held pairs before now (status.Config n) told unbroken still cause = cause
store-ends held pairs before now status.ReadFault told unbroken still cause = cause
store-ends held pairs before now status.WriteFault told unbroken still cause = cause
store-ends held pairs before now status.StoreFault told unbroken still cause =
    absurd (not-risen before now still cause)
store-ends held pairs before now (status.StoredPair key) told unbroken still cause =
    let broken : (pairs ≢ []) × IsSmallestBroken pairs key =
    subst (λ (h : Option (List Pair)). IfSome h (λ ps. (ps ≢ []) × IsSmallestBroken ps key)) told cause in
    let clash : true ≡ false = sym broken.1.broken ∙ unbroken broken.0 key in
    absurd cc
store-ends held pairs before now (status.EventLine n) told unbroken still cause = cause
store-ends held pairs before now status.DoorFault told unbroken still cause = cause
store-ends held pairs before now (status.HistoryFull n) told unbroken still cause = tt
store-ends held pairs before now (status.PeerBytes n) told unbroken still cause = cause
store-ends held pairs before now status.PeerFault told unbroken still cause = cause
store-ends held pairs before now status.InputTooLong told unbroken still cause = cause
store-ends held pairs before now (status.Refused n) told unbroken still cause = cause
store-ends held pairs before now (status.HookHeld n) told unbroken still cause = cause
store-ends held pairs before now (status.HookStore n) told unbroken still cause = cause
store-ends held pairs before now status.SpawnFault told unbroken still cause = cause

-- ---- no door failed

-- neither a sum so far nor one more end is a failed door
abbrev NoneFailed : DoorEnd → Type 0
NoneFailed stop.Failed = ⊥
NoneFailed stop.Closed = Unit {0}
NoneFailed stop.NoMemory = Unit {0}
NoneFailed (stop.Full n) = Unit {0}

abbrev HasntFailed : DoorEnd → Type 0
HasntFailed stop.Failed = ⊥
HasntFailed stop.Closed = Unit {0}
HasntFailed stop.NoMemory = Unit {0}
HasntFailed (stop.Full n) = Unit {0}

one-more : (o : DoorEnd) (e : DoorEnd) → NoneFailed o → HasntFailed e → NoneFailed (behind o e)
one-more stop.Failed e none not = absurd none
one-more stop.NoMemory e none not = tt
one-more (stop.Full n) stop.Failed none not = absurd not
one-more (stop.Full n) stop.Closed none not = tt
one-more (stop.Full n) stop.NoMemory none not = tt
one-more (stop.Full n) (stop.Full m) none not = tt
one-more stop.Closed stop.Failed none not = absurd not
one-more stop.Closed stop.Closed none not = tt
one-more stop.Closed stop.NoMemory none not = tt
one-more stop.Closed (stop.Full m) none not = tt

none-failed : {L : Type 0} (o : DoorEnd) (runs : List (DoorRun L)) → NoneFailed o
    → ((i : ℕ) (run : DoorRun L) → i < length runs → HasntFailed (slice_index_or runs i run).stop)
    → NoneFailed (behind_all o (stops runs))
none-failed o [] none each = none
none-failed o (run ∷ runs) none each =
    let first : HasntFailed run.stop = each zero run (let lt : zero < length (run ∷ runs) = omega arith in lt) in
    none-failed (behind o run.stop) runs (one-more o run.stop none first)
    (λ i r lt. each (suc i) r (let up : suc i < length (run ∷ runs) = omega (arith, lt) in up))

outcome-ends : (o : DoorEnd) → NoneFailed o → IsServingsEnd (served_status o)
outcome-ends stop.Failed none = absurd none
outcome-ends stop.Closed none = tt
outcome-ends stop.NoMemory none = tt
outcome-ends (stop.Full n) none = tt

comes-to-an-end : {L : Type 0} (runs : List (DoorRun L)) (o : DoorEnd) (ends : List Ended) → ComesTo runs o ends
    → NoneFailed (outcome_of (stops runs)) → NoneFailed o
comes-to-an-end runs stop.NoMemory ends comes none = tt
comes-to-an-end runs stop.Closed ends comes none = tt
comes-to-an-end runs (stop.Full n) ends comes none = tt
comes-to-an-end runs stop.Failed ends comes none =
    subst (λ (o : DoorEnd). NoneFailed o) (sym comes.0) none

module _ {D L K : Type 0} (telling : TellingDoors D L K) (before now : List D) (keeper : K) (left : Served K) where
  stop-is : (d e : D) (ss : List (Service L)) (why : DoorEnd) → NotRisen (telling.door.faults d) (telling.door.faults e)
      → StopsAt telling.door telling.told (Some why) d e ss → HasntFailed why
  stop-is d e ss stop.Failed still stops' =
      let is = stops'.1 in
      let rose : Rose (telling.door.faults d) (telling.door.faults e) = omega (arith, is) in
      not-risen (telling.door.faults d) (telling.door.faults e) still rose
  stop-is d e ss stop.Closed still stops' = tt
  stop-is d e ss stop.NoMemory still stops' = tt
  stop-is d e ss (stop.Full n) still stops' = tt

  -- there is a door at each place of a run
  hasnt-failed : (runs : List (DoorRun L)) → ServesDoors telling.door telling.told before now runs
      → ((i : ℕ) (d e : D) → i < length now
      → NotRisen (telling.door.faults (slice_index_or before i d)) (telling.door.faults (slice_index_or now i e)))
      → (d : D) (i : ℕ) (run : DoorRun L) → i < length runs → HasntFailed (slice_index_or runs i run).stop
  hasnt-failed runs doors still d i run lt =
      let many = doors.count in
      let within : i < length now = omega (arith, lt, many) in
      let one = doors.each i d d run within in
      stop-is (slice_index_or before i d) (slice_index_or now i d) (slice_index_or runs i run).services
      (slice_index_or runs i run).stop (still i d d within) one.stops

  -- where there is no door there is no run
  by-doors : (ds : List D) → now ≡ ds → (runs : List (DoorRun L))
      → ServesDoors telling.door telling.told before now runs
      → ((i : ℕ) (d e : D) → i < length now
      → NotRisen (telling.door.faults (slice_index_or before i d)) (telling.door.faults (slice_index_or now i e)))
      → (i : ℕ) (run : DoorRun L) → i < length runs → HasntFailed (slice_index_or runs i run).stop
  by-doors [] is runs doors still i run lt =
      let many = doors.count in
      let none : length now ≡ 0 = ap (λ (l : List D). length l) is in
      absurd (omega (arith, lt, many, none))
  by-doors (d ∷ ds) is runs doors still i run lt = hasnt-failed runs doors still d i run lt

  pub serving-ends : (config : Config) → IsServe telling config before now keeper left
      → ServesQuietly telling before now keeper left → IsComplete left.history left.status
  serving-ends config is quiet = elim is.leaves [
    | inl none ↦ record {
      ends = store-ends (telling.pairs keeper) quiet.pairs (telling.faults keeper) (telling.faults left.keeper)
          left.status quiet.told quiet.unbroken quiet.store none.cause;
      commits = λ b a conn call n bytes at.
          nothing-in b a (Called conn call (StoreFault n) bytes) (sym none.nothing ∙ at);
    }
    | inr has ↦ record {
      ends = subst (λ (s : Status). IsServingsEnd s) (sym has.status)
          (outcome-ends has.outcome (comes-to-an-end has.served.runs has.outcome left.ends has.served.comes
          (none-failed stop.Closed has.served.runs tt
          (by-doors now refl has.served.runs has.served.doors quiet.doors))));
      commits = commits-all has.start left.history (telling.faults keeper) (telling.faults left.keeper)
          has.served.links.legal has.begun.count has.counts quiet.store;
    }
  ]
