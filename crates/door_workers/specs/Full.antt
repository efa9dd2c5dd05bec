-- What the count says with which a history was found full.
use Rattle.std.specs.Prelude.{◌≡◌, ℕ, ◌+◌, ◌<◌, ◌⊎◌, List, Some}
use Rattle.acct_machine.specs.State.{Start}
use Rattle.acct_machine.specs.Legal.{opened_count, call_count, stub_bytes, conns_full, call_full, Legal}
use Rattle.acct_machine.specs.declared.entry.Entry.{Entry}
use Rattle.link_sessions.specs.Transcript.{IsFrontOf}

-- The history has as many connections as the configuration lets it have, and this is their number.
pub record HasAllConns (start : Start) (history : List Entry) (n : ℕ) : Type 0 where
  pub most : n ≡ start.config.limits.max_conns
  pub opened : opened_count history ≡ n

-- The history has as many calls as the configuration lets it have, and this is their number.
pub record HasAllCalls (start : Start) (history : List Entry) (n : ℕ) : Type 0 where
  pub most : n ≡ start.config.limits.max_calls
  pub made : call_count history ≡ n

-- The bytes of the stubs of a prefix of the history would be so many with a stub of this size, and more than the
-- configuration lets a history have.
pub record PassesBytes (start : Start) (history : List Entry) (size n : ℕ) : Type 0 where
  pub front : List Entry
  pub begins : IsFrontOf front history
  pub sum : n ≡ stub_bytes front + size
  pub above : start.config.limits.max_bytes < n

-- a legal history of which a prefix took no further connection
abbrev pub FullOfConns : Type 0
FullOfConns =
    (start : Start) (found history : List Entry) (n : ℕ) → Legal start history → IsFrontOf found history
    → conns_full start found ≡ Some n → HasAllConns start history n

-- a legal history of which a prefix took no further call with a stub of this size
abbrev pub FullOfCalls : Type 0
FullOfCalls =
    (start : Start) (found history : List Entry) (size n : ℕ) → Legal start history → IsFrontOf found history
    → call_full start found size ≡ Some n → HasAllCalls start history n ⊎ PassesBytes start history size n
