-- What streams and keepers in memory show, and which of their calls fail.
use Rattle.std.specs.Prelude.{◌≡◌, ℕ, ◌-◌, ◌==◌, ◌||◌, Bool, true, false, List, length, nat_lt, is_err}
use Rattle.std.specs.Prelude.{if◌then◌else◌, Result, Ok, Err}
use Rattle.std.specs.List.{list_any}
use Rattle.acct_keeper.specs.Faults.{one_more}
use Rattle.acct_keeper.specs.declared.keeper.KeepError.{KeepError}
use Rattle.acct_keeper.specs.declared.keeper.KeepError.TheVariants.{Failed, NoMemory}
use Rattle.acct_keeper.specs.declared.pairs.Pair.{Pair}

-- a number is among those that fail
abbrev pub is_among : List ℕ → ℕ → Bool
is_among numbers number = list_any (λ n. n == number) numbers

-- ---- streams

-- the bytes that are left, whether a read has answered the end, how many reads have failed, how many were made, and the
-- numbers of those that fail
pub record SourceInMemory : Type 0 where
  pub left : List ℕ
  pub ended : Bool
  pub faults : ℕ
  pub reads : ℕ
  pub failing : List ℕ

-- the bytes that are left, and whether a read has answered the end
pub record SteadyInMemory : Type 0 where
  pub left : List ℕ
  pub ended : Bool

-- the bytes that were taken, the room for all of them, how many writes have failed, how many were made, and the numbers
-- of those that fail
pub record SinkInMemory : Type 0 where
  pub held : List ℕ
  pub room : ℕ
  pub faults : ℕ
  pub writes : ℕ
  pub failing : List ℕ

-- A read: it has the next number, and fails exactly where that is one of those that fail.
pub record ReadsInMemory {E : Type 0} (old new : SourceInMemory) (result : Result ℕ E) : Type 0 where
  pub number : new.reads ≡ one_more old.reads
  pub failing : new.failing ≡ old.failing
  pub fails : is_err result ≡ is_among old.failing (one_more old.reads)

-- A write: it has the next number, and fails exactly where that is one of those that fail, or the piece has no room.
pub record WritesInMemory {E : Type 0} (old new : SinkInMemory) (bytes : List ℕ) (result : Result ℕ E) : Type 0 where
  pub number : new.writes ≡ one_more old.writes
  pub failing : new.failing ≡ old.failing
  pub room : new.room ≡ old.room
  pub fails : is_err result ≡ (is_among old.failing (one_more old.writes) || nat_lt (old.room - length old.held)
      (length bytes))

-- ---- keepers

-- the pairs, how many calls have failed, how many were made, and the numbers of those that fail
pub record KeeperInMemory : Type 0 where
  pub pairs : List Pair
  pub faults : ℕ
  pub calls : ℕ
  pub failing : List ℕ

abbrev pub is_fault : {T : Type 0} → Result T KeepError → Bool
is_fault (Ok x) = false
is_fault (Err Failed) = true
is_fault (Err NoMemory) = false

-- A load or a commit: it has the next number, and fails exactly where that is one of those that fail. Then the count of
-- faults rises, and else it stays.
pub record CallsInMemory {T : Type 0} (old new : KeeperInMemory) (result : Result T KeepError) : Type 0 where
  pub number : new.calls ≡ one_more old.calls
  pub failing : new.failing ≡ old.failing
  pub fails : is_fault result ≡ is_among old.failing (one_more old.calls)
  pub count : new.faults ≡ (if is_among old.failing (one_more old.calls) then one_more old.faults else old.faults)
