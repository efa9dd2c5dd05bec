-- What became of the links that a door gave.
use Rattle.std.specs.Prelude.{◌≡◌, ℕ, List, [], ◌∷◌, ◌++◌, Option, Some, None, ⊤}
use Rattle.acct_machine.specs.State.{Start}
use Rattle.acct_machine.specs.Legal.{conns_full}
use Rattle.acct_machine.specs.declared.entry.Entry.{Entry}
use Rattle.acct_machine.specs.declared.entry.Entry.TheVariants.{Opened, Gone}
use Rattle.acct_links.specs.Links.{Told, IsNew}
use Rattle.link_sessions.specs.Transcript.{IsFrontOf}
use Rattle.link_sessions.specs.Sessions.{Faults, IsConversation}
use Rattle.link_sessions.specs.declared.ends.SessionEnd.{SessionEnd}
use Rattle.link_sessions.specs.declared.ends.SessionEnd.TheVariants as end
use Rattle.link_sessions.specs.declared.ends.Ended.{Ended}

-- ---- links

-- A link that served a connection to the end of its session: the connection's number, the listener where it was opened,
-- the link as the door gave it and as it was finished, and how the session ended.
pub record Served (L : Type 0) : Type 0 where
  pub conn : ℕ
  pub listener : ℕ
  pub given : L
  pub back : L
  pub end : SessionEnd

-- What became of a link: it served a connection, or the history took no further connection, having so many, and it was
-- finished with the number 0, as it was given.
pub data Service (L : Type 0) : Type 0 where
  Serves : Served L → Service L
  Unopened : ℕ → L → Service L

-- the count with which a session found the history full, if it did
abbrev pub end_count : SessionEnd → Option ℕ
end_count (end.Full n) = Some n
end_count _ = None

module _ {L : Type 0} where
  -- the link as the door gave it
  abbrev pub given_of : Service L → L
  given_of (Serves s) = s.given
  given_of (Unopened count link) = link

  -- the link as it was finished, with the number of its connection
  abbrev pub finished_of : Service L → ℕ × L
  finished_of (Serves s) = (s.conn, s.back)
  finished_of (Unopened count link) = (0, link)

  -- it served this connection
  abbrev pub IsOfConn : ℕ → Service L → Type 0
  IsOfConn k (Serves s) = s.conn ≡ k
  IsOfConn k (Unopened count link) = ⊥

  -- the connection was opened at this listener
  abbrev pub IsAtListener : ℕ → Service L → Type 0
  IsAtListener listener (Serves s) = s.listener ≡ listener
  IsAtListener listener (Unopened count link) = ⊤

  -- where the history was found full, the count with which it was
  abbrev pub full_count : Service L → Option ℕ
  full_count (Serves s) = end_count s.end
  full_count (Unopened count link) = Some count

  -- none of the links found the history full
  abbrev pub NoneFull : List (Service L) → Type 0
  NoneFull [] = ⊤
  NoneFull (s ∷ ss) = (full_count s ≡ None) × NoneFull ss

  -- none before the last of the links found the history full
  abbrev pub NoneFullBeforeLast : List (Service L) → Type 0
  NoneFullBeforeLast [] = ⊤
  NoneFullBeforeLast (s ∷ []) = ⊤
  NoneFullBeforeLast (s ∷ t ∷ ss) = (full_count s ≡ None) × NoneFullBeforeLast (t ∷ ss)

  -- the last of the links alone found the history full, with this count
  pub record LastIsFull (ss : List (Service L)) (n : ℕ) : Type 0 where
    pub before : List (Service L)
    pub last : Service L
    pub is : ss ≡ before ++ last ∷ []
    pub none : NoneFull before
    pub full : full_count last ≡ Some n

  -- the ends of the connections that a door's links served, in their order, with the place of the door
  abbrev pub end_of : ℕ → Service L → List Ended
  end_of door (Serves s) = (record { conn = s.conn; door = door; end = s.end }) ∷ []
  end_of door (Unopened count link) = []

-- ---- what stands in the history

-- The connection is gone.
pub record HasGone (k : ℕ) (history : List Entry) : Type 0 where
  pub before : List Entry
  pub after : List Entry
  pub is : history ≡ before ++ Gone k ∷ after

-- The link was new, and served the whole of a connection, from its opening at the listener to its end.
pub record ServesConn (start : Start) (most k listener : ℕ) (answer : SessionEnd) (given back : Told)
    (history : List Entry) : Type 0 where
  pub new : IsNew given
  pub before : List Entry
  pub conversation : IsConversation start k most answer given back (before ++ Opened k listener ∷ []) history
  pub faults : Faults answer given back
  pub gone : HasGone k history

-- A prefix of the history took no further connection, having so many.
pub record TakesNone (start : Start) (count : ℕ) (history : List Entry) : Type 0 where
  pub found : List Entry
  pub front : IsFrontOf found history
  pub full : conns_full start found ≡ Some count

-- what the history has of a link, by what the link tells
abbrev pub IsService : {L : Type 0} → (L → Told) → Start → ℕ → List Entry → Service L → Type 0
IsService told start most history (Serves s) =
    ServesConn start most s.conn s.listener s.end (told s.given) (told s.back) history
IsService told start most history (Unopened count link) = TakesNone start count history
