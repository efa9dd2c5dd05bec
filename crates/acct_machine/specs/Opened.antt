-- What opening a store gives.
use Rattle.std.specs.Prelude.{◌≡◌, ◌≢◌, ℕ, List, [], ◌∷◌, Option, Some, IfSome, Result, Ok, Err, ⊤}
use Rattle.acct_config.specs.declared.config.Config.{Config}
use Rattle.acct_keeper.specs.declared.keeper.KeepError.{KeepError}
use Rattle.acct_keeper.specs.declared.keeper.KeepError.TheVariants as keeps
use Rattle.acct_keeper.specs.declared.pairs.Change.{Change}
use Rattle.acct_keeper.specs.declared.pairs.Pair.{Pair}
use Rattle.acct_rows.specs.declared.pairs.loading.PairsError.{PairsError}
use Rattle.acct_rows.specs.declared.pairs.loading.PairsError.TheVariants as no_rows
use Rattle.acct_rows.specs.Rows.{Lists}
use Rattle.acct_rows.specs.Seed.{seed_lists}
use Rattle.acct_keeper.specs.Faults.{Rose, one_more}
use Rattle.acct_machine.specs.declared.opened.OpenError.{OpenError}
use Rattle.acct_machine.specs.declared.opened.OpenError.TheVariants.{StoreFault, StoredPair, Memory}
use Rattle.acct_rows.specs.PairsOf.{ArePairsOf, migrated}
use Rattle.acct_rows.specs.PairRules.{AreUnbroken, IsSmallestBroken}

-- The rows that a store is opened with: the seed rows of the configured domain where it has no pair, and else those
-- whose pairs it has, which break no rule; pairs of format 1 stand for what they are in format 2.
abbrev pub OpensRows : Config → List Pair → Lists → Type 0
OpensRows config [] rows = rows ≡ seed_lists config.name config.sid
OpensRows config (pair ∷ pairs) rows = AreUnbroken (pair ∷ pairs) × ArePairsOf rows (migrated (pair ∷ pairs))

-- What a store that had pairs has once it is opened: these pairs, in format 2. So pairs of that format are as they
-- were, and of format 1 only the pair that tells the format is another.
abbrev pub IsMigrated : List Pair → Option (List Pair) → Type 0
IsMigrated [] held = ⊤
IsMigrated (pair ∷ pairs) held = held ≡ Some (migrated (pair ∷ pairs))

-- Why a store isn't opened: the keeper failed in loading, in seeding or in migrating, and its count of faults rose, or
-- its pairs break a rule, and this is the smallest key that is broken. Running out of memory is free.
abbrev pub OpenCause : Option (List Pair) → ℕ → ℕ → OpenError → Type 0
OpenCause told before now StoreFault = Rose before now
OpenCause told before now (StoredPair key) = IfSome told (λ pairs. (pairs ≢ []) × IsSmallestBroken pairs key)
OpenCause told before now Memory = ⊤

-- the same for pairs that there are, whether the keeper tells them or not
abbrev pub LoadCause : List Pair → ℕ → ℕ → OpenError → Type 0
LoadCause pairs before now StoreFault = Rose before now
LoadCause pairs before now (StoredPair key) = IsSmallestBroken pairs key
LoadCause pairs before now Memory = ⊤

-- the refusal is of no pair
abbrev pub IsNoPair : OpenError → Type 0
IsNoPair StoreFault = ⊤
IsNoPair (StoredPair key) = ⊥
IsNoPair Memory = ⊤

-- how many calls of the keeper have failed after an opening: one more where it answers a fault, and else as many
abbrev pub count_after : {T : Type 0} → ℕ → Result T OpenError → ℕ
count_after count (Ok x) = count
count_after count (Err StoreFault) = one_more count
count_after count (Err (StoredPair key)) = count
count_after count (Err Memory) = count

-- what a keeper's error makes of the opening
abbrev pub unopened : KeepError → OpenError
unopened keeps.Failed = StoreFault
unopened keeps.NoMemory = Memory

-- what pairs that are no rows make of it
abbrev pub unloaded : PairsError → OpenError
unloaded (no_rows.BadPair key) = StoredPair key
unloaded no_rows.Memory = Memory

-- a pair is put at its key
abbrev pub put_of : Pair → Change
put_of pair = record { key = pair.key; value = Some pair.value }
