-- What a session leaves on its link and in the history.
use Rattle.std.specs.Prelude.{◌⊎◌, true, false, ℕ, List, [], ◌∷◌, Option, Some, None, ◌≡◌, ◌≤◌, ◌++◌, length, take, Ok}
use Rattle.std.specs.Io.KnownBytes.{Appends, Consumes, IsAtEnd}
use Rattle.acct_calls.specs.declared.calls.Call.{Call}
use Rattle.rpc_session.specs.Sessions.{acts, listed}
use Rattle.rpc_session.specs.declared.sessions.Act.{Act}
use Rattle.rpc_session.specs.declared.sessions.Act.TheVariants as act
use Rattle.rpc_session.specs.declared.sessions.Request.{Request}
use Rattle.acct_keeper.specs.Faults.{Rose}
use Rattle.acct_machine.specs.Legal.{Legal, replies, calls_of, call_full}
use Rattle.acct_machine.specs.State.{Start}
use Rattle.acct_machine.specs.declared.entry.Entry.{Entry}
use Rattle.acct_machine.specs.declared.entry.Entry.TheVariants.{Gone}
use Rattle.acct_links.specs.Links.{Told, FaultsAre}
use Rattle.link_sessions.specs.Transcript.{call_on, IsTranscribed, transcript, decoded_calls, busy_bytes, IsFrontOf}
use Rattle.link_sessions.specs.declared.ends.SessionEnd.{SessionEnd}
use Rattle.link_sessions.specs.declared.ends.SessionEnd.TheVariants as end

-- ======== which calls of its link failed in a session, by why it ended

-- The one that is why it ended, and no other. Where the history was full, a write of the fault that says so may have
-- failed besides.
abbrev pub Faults : SessionEnd → Told → Told → Type 0
Faults end.ReadFault old new = FaultsAre true false old new
Faults end.WriteFault old new = FaultsAre false true old new
Faults (end.Full n) old new = FaultsAre false false old new ⊎ FaultsAre false true old new
Faults _ old new = FaultsAre false false old new

-- ======== the refusal that acts end in: its place in the stream and its cause

abbrev pub refusal_of : Act → Option (ℕ × ℕ)
refusal_of (act.Answered bytes) = None
refusal_of (act.Call asked) = None
refusal_of (act.Closed place cause bytes) = Some (place, cause)

abbrev pub later_refusal : Act → List Act → Option (ℕ × ℕ) → Option (ℕ × ℕ)
later_refusal a [] later = refusal_of a
later_refusal a (b ∷ acts) later = later

abbrev pub closing_of : List Act → Option (ℕ × ℕ)
closing_of [] = None
closing_of (a ∷ acts) = later_refusal a acts (closing_of acts)

-- ======== what a session leaves on its link and in the history

-- A write failed: the answers to the acts up to one were written whole, and of the answer to that one a prefix. The
-- connection's calls are the decoded calls of these acts, with that one.
pub record IsCutShort (start : Start) (history : List Entry) (k : ℕ) (came sent : List ℕ) : Type 0 where
  pub done : List Act
  pub begun : Act
  pub others : List Act
  pub splits : acts k came ≡ done ++ begun ∷ others
  pub calls : calls_of k history ≡ decoded_calls (done ++ begun ∷ [])
  pub answer : List ℕ
  pub answered : transcript (done ++ begun ∷ []) (replies start k history)
      ≡ transcript done (replies start k history) ++ answer
  pub count : ℕ
  pub written : sent ≡ transcript done (replies start k history) ++ take count answer

-- Memory ran out: the answers to the first of the acts were written whole. The connection's calls are the decoded
-- calls of these acts, and perhaps that of the next one.
pub record IsLeftOff (start : Start) (history : List Entry) (k : ℕ) (came sent : List ℕ) : Type 0 where
  pub done : List Act
  pub begun : Option Act
  pub others : List Act
  pub splits : acts k came ≡ done ++ (listed begun ++ others)
  pub calls : calls_of k history ≡ decoded_calls (done ++ listed begun)
  pub written : sent ≡ transcript done (replies start k history)

-- The history was full for a decoded call, with this count: the answers to the acts before it were written whole, and
-- then that the server is too busy, or a prefix of that. The connection's calls are the decoded calls before it.
pub record IsTurnedAway (start : Start) (history : List Entry) (k n : ℕ) (came sent : List ℕ) : Type 0 where
  pub done : List Act
  pub asked : Request
  pub others : List Act
  pub splits : acts k came ≡ done ++ act.Call asked ∷ others
  pub call : Call
  pub decoded : call_on asked.face asked.opnum asked.stub ≡ Ok call
  pub calls : calls_of k history ≡ decoded_calls done
  -- the history that the call found, which had the connection's calls
  pub found : List Entry
  pub front : IsFrontOf found history
  pub had : calls_of k found ≡ calls_of k history
  pub full : call_full start found (length asked.stub) ≡ Some n
  pub count : ℕ
  pub written : sent ≡ transcript done (replies start k history) ++ take count (busy_bytes asked)

-- How what was sent answers what came, by the session's end. Where the history was full, the whole fault was sent, or
-- the count of failed writes rose.
abbrev pub Transcript : SessionEnd → Start → List Entry → ℕ → List ℕ → List ℕ → Told → Told → Type 0
Transcript end.WriteFault start history k came sent old new = IsCutShort start history k came sent
Transcript end.NoMemory start history k came sent old new = IsLeftOff start history k came sent
Transcript (end.Full n) start history k came sent old new =
    IsTurnedAway start history k n came sent
    × (IsTranscribed start history k true came sent ⊎ Rose old.write_faults new.write_faults)
Transcript _ start history k came sent old new = IsTranscribed start history k false came sent

-- Why a session ended, by what came in all and what the link tells: a read answered the end exactly where that is why.
abbrev pub Cause : SessionEnd → ℕ → ℕ → List ℕ → Told → Told → Type 0
Cause end.End k most came old new =
    (new.ended ≡ true) × (closing_of (acts k came) ≡ None) × IsAtEnd new.left
Cause (end.Closed place cause) k most came old new =
    (new.ended ≡ false) × (closing_of (acts k came) ≡ Some (place, cause))
Cause end.ReadFault k most came old new =
    (new.ended ≡ false) × (closing_of (acts k came) ≡ None) × Rose old.read_faults new.read_faults
Cause end.WriteFault k most came old new = (new.ended ≡ false) × Rose old.write_faults new.write_faults
Cause (end.Full n) k most came old new = new.ended ≡ false
Cause (end.ByteLimit n) k most came old new =
    (new.ended ≡ false) × (closing_of (acts k came) ≡ None) × (n ≡ most) × (length came ≡ most)
Cause end.NoMemory k most came old new = new.ended ≡ false

-- What came and what was sent in all, on a connection that had no call yet in what was known; the history went on from
-- that.
pub record IsConversation (start : Start) (k most : ℕ) (answer : SessionEnd) (old new : Told)
    (known history : List Entry) : Type 0 where
  pub grows : IsFrontOf known history
  pub came : List ℕ
  pub reads : Appends old.received new.received came
  pub takes : Consumes old.left new.left came
  pub within : length came ≤ most
  pub sent : List ℕ
  pub sends : Appends old.sent new.sent sent
  pub transcript : Transcript answer start history k came sent old new
  pub cause : Cause answer k most came old new

-- A whole session: the connection's end is the last entry.
pub record IsSession (start : Start) (k most : ℕ) (answer : SessionEnd) (old new : Told) (known history : List Entry)
    : Type 0 where
  pub conversation : IsConversation start k most answer old new known history
  pub faults : Faults answer old new
  pub before : List Entry
  pub gone : history ≡ before ++ Gone k ∷ []
  pub legal : Legal start history

-- the history has the calls and the replies of the connection that it had, and its end besides
pub record Ended (start : Start) (k : ℕ) (known history : List Entry) : Type 0 where
  pub grows : IsFrontOf known history
  pub calls : calls_of k history ≡ calls_of k known
  pub replied : replies start k history ≡ replies start k known
  pub before : List Entry
  pub gone : history ≡ before ++ Gone k ∷ []
  pub legal : Legal start history
