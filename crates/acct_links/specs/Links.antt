-- What a link tells, and which addresses a caller has given links for.
use Rattle.std.specs.Prelude.{ℕ, Bool, true, false, List, [], ◌∷◌, ◌++◌, Option, option_map, Result, Ok, Err, ◌≡◌, ◌≤◌}
use Rattle.std.specs.Prelude.{◌||◌, ◌⊎◌, take, IfSome, is_err}
use Rattle.std.specs.Io.KnownBytes.{Appends, WriteAppends, ReadConsumes}
use Rattle.acct_keeper.specs.Faults.{Rose, HasCause, faults_after}
use Rattle.acct_keeper.specs.Ends.{answers_end}
use Rattle.acct_links.specs.declared.callers.TakeError.{TakeError}
use Rattle.acct_links.specs.declared.callers.TakeError.TheVariants.{Failed, NoMemory}

-- ======== when a part of the outside isn't handed out, and which addresses a caller has given links for

-- a fault comes only where the count of faults rose; running out of memory is free
abbrev pub TakeCause : ℕ → ℕ → TakeError → Type 0
TakeCause before now Failed = Rose before now
TakeCause before now NoMemory = Unit {0}

abbrev pub is_fault : {T : Type 0} → Result T TakeError → Bool
is_fault (Ok x) = false
is_fault (Err Failed) = true
is_fault (Err NoMemory) = false

-- an address more
abbrev pub with_address : List ℕ → Option (List (List ℕ)) → Option (List (List ℕ))
with_address address called = option_map (λ addresses. addresses ++ address ∷ []) called

-- the addresses for which a link was given, after a call
abbrev pub called_after : {L : Type 0} → Option (List (List ℕ)) → List ℕ → Result L TakeError → Option (List (List ℕ))
called_after called address (Ok link) = with_address address called
called_after called address (Err e) = called

-- ======== what a link tells, and what its reads and writes do to it

-- The bytes that were read, those that are left and those that were written, where they are told; whether a read has
-- answered the end; and how many reads and how many writes have failed.
pub record Told : Type 0 where
  pub received : Option (List ℕ)
  pub left : Option (List ℕ)
  pub sent : Option (List ℕ)
  pub ended : Bool
  pub read_faults : ℕ
  pub write_faults : ℕ

-- A read: what it gives goes from what is left to what was received, and nothing where it fails.
pub record Reads {E : Type 0} (old new : Told) (result : Result ℕ E) (buffer : List ℕ) : Type 0 where
  pub received : WriteAppends old.received new.received result buffer
  pub left : ReadConsumes old.left new.left result buffer
  pub ended : new.ended ≡ (old.ended || answers_end result buffer)
  pub cause : HasCause old.read_faults new.read_faults result
  pub count : new.read_faults ≡ faults_after (is_err result) old.read_faults
  pub sent : new.sent ≡ old.sent
  pub write_faults : new.write_faults ≡ old.write_faults

-- A write: what it takes is added to what was sent, and nothing where it fails.
pub record Writes {E : Type 0} (old new : Told) (result : Result ℕ E) (bytes : List ℕ) : Type 0 where
  pub sent : WriteAppends old.sent new.sent result bytes
  pub cause : HasCause old.write_faults new.write_faults result
  pub count : new.write_faults ≡ faults_after (is_err result) old.write_faults
  pub received : new.received ≡ old.received
  pub left : new.left ≡ old.left
  pub ended : new.ended ≡ old.ended
  pub read_faults : new.read_faults ≡ old.read_faults

-- these bytes were written, and nothing was read
pub record Sends (old new : Told) (bytes : List ℕ) : Type 0 where
  pub sent : Appends old.sent new.sent bytes
  pub later : old.write_faults ≤ new.write_faults
  pub received : new.received ≡ old.received
  pub left : new.left ≡ old.left
  pub ended : new.ended ≡ old.ended
  pub read_faults : new.read_faults ≡ old.read_faults

-- a prefix of these bytes was written, and then a write failed
pub record SendsFront (old new : Told) (bytes : List ℕ) : Type 0 where
  pub count : ℕ
  pub sends : Sends old new (take count bytes)
  pub failed : Rose old.write_faults new.write_faults

-- whether a read failed, whether a write did, and that no further one did
pub record FaultsAre (read write : Bool) (old new : Told) : Type 0 where
  pub reads : new.read_faults ≡ faults_after read old.read_faults
  pub writes : new.write_faults ≡ faults_after write old.write_faults

-- nothing was read or written, and no read has answered the end
pub record IsNew (told : Told) : Type 0 where
  pub received : IfSome told.received (λ bytes. bytes ≡ [])
  pub sent : IfSome told.sent (λ bytes. bytes ≡ [])
  pub going : told.ended ≡ false

-- one of the counts of faults rose
abbrev pub LinkRose : Told → Told → Type 0
LinkRose old new = Rose old.read_faults new.read_faults ⊎ Rose old.write_faults new.write_faults
