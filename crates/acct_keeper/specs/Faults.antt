-- Which calls of the outside failed, and when a fault may be answered.
use Rattle.std.specs.Prelude.{ℕ, ◌+◌, ◌-◌, ◌^◌, min, Bool, if◌then◌else◌, Result, Ok, Err, ◌≡◌, ◌<◌, ◌≤◌, OnErr, List}
use Rattle.std.specs.Prelude.{length, IfSome}
use Rattle.std.specs.declared.option.Option.{Option}
use Rattle.acct_keeper.specs.declared.keeper.KeepError.{KeepError}
use Rattle.acct_keeper.specs.declared.keeper.KeepError.TheVariants.{Failed, NoMemory}
use Rattle.acct_keeper.specs.declared.whole.WholeError.{WholeError}
use Rattle.acct_keeper.specs.declared.whole.WholeError.TheVariants.{Fault, TooLong, Memory}

-- ======== how many calls have failed

-- the count after one more, which stands still at the end of its type
abbrev pub one_more : ℕ → ℕ
one_more count = min (count + 1) (2 ^ 64 - 1)

-- the count after a call: one more where it failed, and else as it was
abbrev pub faults_after : Bool → ℕ → ℕ
faults_after has_failed count = if has_failed then one_more count else count

-- the count after a call of a keeper that answers an error: one more where it failed, and the same where memory was
-- wanted
abbrev pub counted : ℕ → KeepError → ℕ
counted count Failed = one_more count
counted count NoMemory = count

-- the count after a call of a keeper, which stays where the call succeeds
abbrev pub after_call : {T : Type 0} → ℕ → Result T KeepError → ℕ
after_call count (Ok x) = count
after_call count (Err e) = counted count e

-- ======== when a fault of the outside may be answered

-- the count stands higher, or stood at its end before
abbrev pub Rose : ℕ → ℕ → Type 0
Rose before now = min (before + 1) (2 ^ 64 - 1) ≤ now

-- the count is where it was, and not at its end
abbrev pub NotRisen : ℕ → ℕ → Type 0
NotRisen before now = (now ≡ before) × (before < 2 ^ 64 - 1)

-- the count never falls, and an error comes only where it rose
pub record HasCause {T E : Type 0} (before now : ℕ) (answer : Result T E) : Type 0 where
  pub later : before ≤ now
  pub failed : OnErr answer (Rose before now)

-- of a keeper: a fault comes only where the count of faults rose; running out of memory is free
abbrev pub KeepCause : ℕ → ℕ → KeepError → Type 0
KeepCause before now Failed = Rose before now
KeepCause before now NoMemory = Unit {0}

-- ======== what reading a source to its end gives

-- how many bytes a configuration or an event file may have
abbrev pub most_bytes : ℕ
most_bytes = 67_108_864

-- why a source wasn't read to its end
abbrev pub WholeCause : Option (List ℕ) → ℕ → ℕ → WholeError → Type 0
WholeCause left before now Fault = Rose before now
WholeCause left before now TooLong = IfSome left (λ bytes. most_bytes < length bytes)
WholeCause left before now Memory = Unit {0}

-- all the bytes that were left, and no more than a source may have
pub record IsWhole (left : Option (List ℕ)) (whole : List ℕ) : Type 0 where
  pub within : length whole ≤ most_bytes
  pub all : IfSome left (λ bytes. whole ≡ bytes)

-- the source's count of faults after it: one more where a read failed, and else as it was
abbrev pub counted_whole : {T : Type 0} → ℕ → Result T WholeError → ℕ
counted_whole count (Ok whole) = count
counted_whole count (Err Fault) = one_more count
counted_whole count (Err TooLong) = count
counted_whole count (Err Memory) = count
