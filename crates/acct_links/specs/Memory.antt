-- What links and callers in memory show, and which of their calls fail.
use Rattle.std.specs.Prelude.{◌≡◌, ℕ, ◌-◌, ◌==◌, ◌||◌, Bool, false, List, [], ◌∷◌, length, nat_lt, is_err}
use Rattle.std.specs.Prelude.{Some, None, Result, IfOk, OnErr}
use Rattle.acct_keeper.specs.Faults.{one_more, faults_after}
use Rattle.acct_keeper.specs.Memory.{is_among}
use Rattle.acct_links.specs.declared.callers.TakeError.{TakeError}
use Rattle.acct_links.specs.Links.{is_fault, Told}

-- ---- links

-- the bytes that were read, those that are left, and whether a read has answered the end
pub record SteadyLinkInMemory : Type 0 where
  pub received : List ℕ
  pub left : List ℕ
  pub ended : Bool

-- it tells nothing of what was written
abbrev pub told_by_steady : SteadyLinkInMemory → Told
told_by_steady link = record {
  received = Some link.received;
  left = Some link.left;
  sent = None;
  ended = link.ended;
  read_faults = 0;
  write_faults = 0;
}

-- Besides: the bytes that were written, the room for all of them, how many reads and how many writes have failed, how
-- many of both were made, and the numbers of those that fail.
pub record LinkInMemory : Type 0 where
  pub input : SteadyLinkInMemory
  pub sent : List ℕ
  pub room : ℕ
  pub read_faults : ℕ
  pub write_faults : ℕ
  pub calls : ℕ
  pub failing : List ℕ

abbrev pub told_by : LinkInMemory → Told
told_by link = record {
  received = Some link.input.received;
  left = Some link.input.left;
  sent = Some link.sent;
  ended = link.input.ended;
  read_faults = link.read_faults;
  write_faults = link.write_faults;
}

-- the next call is one of those that fail
abbrev pub next_fails : List ℕ → ℕ → Bool
next_fails failing calls = is_among failing (one_more calls)

-- the call has the next number
pub record IsNextCall (old new : LinkInMemory) : Type 0 where
  pub number : new.calls ≡ one_more old.calls
  pub failing : new.failing ≡ old.failing
  pub room : new.room ≡ old.room

-- A read fails exactly where its number is one of those that fail.
pub record ReadsInMemory {E : Type 0} (old new : LinkInMemory) (result : Result ℕ E) : Type 0 where
  pub next : IsNextCall old new
  pub fails : is_err result ≡ next_fails old.failing old.calls
  pub count : new.read_faults ≡ faults_after (is_err result) old.read_faults

-- A write fails exactly where its number is one of those that fail, or the piece has no room.
pub record WritesInMemory {E : Type 0} (old new : LinkInMemory) (bytes : List ℕ) (result : Result ℕ E) : Type 0 where
  pub next : IsNextCall old new
  pub fails : is_err result
      ≡ (next_fails old.failing old.calls || nat_lt (old.room - length old.sent) (length bytes))
  pub count : new.write_faults ≡ faults_after (is_err result) old.write_faults

-- ---- callers

-- the links that it will give, in order, the addresses for which it gave one, how many calls have failed, how many were
-- made, and the numbers of those that fail
pub record CallerInMemory (L : Type 0) : Type 0 where
  pub links : List L
  pub called : List (List ℕ)
  pub faults : ℕ
  pub calls : ℕ
  pub failing : List ℕ

-- A call gives the first link. It has the next number, and fails exactly where that is one of those that fail, or no
-- link is left. Then the count of faults rises, and else it stays.
pub record CallsInMemory {L : Type 0} (old new : CallerInMemory L) (result : Result L TakeError) : Type 0 where
  pub number : new.calls ≡ one_more old.calls
  pub failing : new.failing ≡ old.failing
  pub fails : is_fault result ≡ (next_fails old.failing old.calls || length old.links == 0)
  pub count : new.faults ≡ faults_after (is_fault result) old.faults
  pub link : IfOk result (λ link. old.links ≡ link ∷ new.links)
  pub kept : OnErr result (new.links ≡ old.links)

-- what each of its links gives, and the addresses for which it gave one
pub record SteadyCallerInMemory : Type 0 where
  pub bytes : List ℕ
  pub called : List (List ℕ)

-- a link that gives these bytes, and of which none was read
abbrev pub fresh : List ℕ → SteadyLinkInMemory
fresh bytes = record { received = []; left = bytes; ended = false }
