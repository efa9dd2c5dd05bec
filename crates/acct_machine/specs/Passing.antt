-- What the entries of other connections leave as it was, and which connections entries have.
use Rattle.std.specs.Prelude.{◌≡◌, ◌≢◌, ℕ, ◌≤◌, List, [], ◌∷◌, ◌++◌, length, ⊤, All, Option, Some, None, IfSome}
use Rattle.acct_machine.specs.declared.entry.Entry.{Entry}
use Rattle.acct_machine.specs.declared.entry.Entry.TheVariants.{Opened, Called, Gone, Hooked}
use Rattle.acct_machine.specs.State.{Start, is_live}
use Rattle.acct_machine.specs.Step.{state_at}
use Rattle.acct_machine.specs.Legal.{Legal, calls_of, replies}

-- the connection of an entry; an out row is taken out by none
abbrev pub conn_of : Entry → Option ℕ
conn_of (Opened conn listener) = Some conn
conn_of (Called conn call verdict bytes) = Some conn
conn_of (Gone conn) = Some conn
conn_of (Hooked number) = None

-- no entry is of the connection
abbrev pub AreOfOthers : ℕ → List Entry → Type 0
AreOfOthers k [] = ⊤
AreOfOthers k (e ∷ es) = (conn_of e ≢ Some k) × AreOfOthers k es

-- The history went on, and whatever is said of the connection is as it was.
pub record KeepsConnection (start : Start) (k : ℕ) (before after : List Entry) : Type 0 where
  pub calls : calls_of k after ≡ calls_of k before
  pub replies : replies start k after ≡ replies start k before
  pub live : is_live k (state_at start after).conns ≡ is_live k (state_at start before).conns

-- entries of other connections change nothing that is said of a connection
abbrev pub OthersChangeNothing : Type 0
OthersChangeNothing =
    (start : Start) (k : ℕ) (before rest : List Entry) → AreOfOthers k rest
    → KeepsConnection start k before (before ++ rest)

-- the number is one of so many, from 1 on
abbrev pub IsNumbered : ℕ → ℕ → Type 0
IsNumbered count k = (1 ≤ k) × (k ≤ count)

-- each connection that an entry of a legal history has is one of its connections, which are numbered from 1
abbrev pub EntriesAreNumbered : Type 0
EntriesAreNumbered =
    (start : Start) (history : List Entry) → Legal start history
    → All (λ (e : Entry). IfSome (conn_of e) (IsNumbered (length (state_at start history).conns))) history

-- each connection is opened once: every entry before its opening is of another
abbrev pub OpenedOnce : Type 0
OpenedOnce =
    (start : Start) (k listener : ℕ) (before after : List Entry) → Legal start (before ++ Opened k listener ∷ after)
    → AreOfOthers k before
