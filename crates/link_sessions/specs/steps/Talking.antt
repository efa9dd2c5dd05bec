-- A talk on a connection: which acts were answered, by which entries and with which bytes.
use Rattle.std.specs.Prelude.{◌≡◌, ℕ, List, [], ◌∷◌, ◌++◌, ◌⊎◌, length, take, Option, Some, Ok}
use Rattle.acct_calls.specs.declared.calls.Call.{Call}
use Rattle.acct_calls.specs.declared.replies.Reply.{Reply}
use Rattle.acct_machine.specs.State.{Start}
use Rattle.acct_machine.specs.declared.entry.Entry.{Entry}
use Rattle.acct_machine.specs.Legal.{replies, calls_of, call_full}
use Rattle.rpc_session.specs.declared.sessions.Act.{Act}
use Rattle.rpc_session.specs.declared.sessions.Act.TheVariants as act
use Rattle.rpc_session.specs.declared.sessions.Request.{Request}
use Rattle.rpc_session.specs.Sessions.{listed}
use Rattle.acct_keeper.specs.Faults.{Rose}
use Rattle.acct_links.specs.Links.{Told, Sends}
use Rattle.link_sessions.specs.Transcript.{call_on, transcript, decoded_calls, busy_bytes, IsFrontOf}
use Rattle.link_sessions.specs.declared.ends.Stop.{Stop}
use Rattle.link_sessions.specs.declared.ends.Stop.TheVariants as stop

-- The acts were answered with these bytes: the history went on, their calls are entered, and each has its reply.
pub record Answers (start : Start) (k : ℕ) (done : List Act) (before after : List Entry) (bytes : List ℕ) : Type 0
  where
    pub grows : IsFrontOf before after
    pub given : List Reply
    pub calls : calls_of k after ≡ calls_of k before ++ decoded_calls done
    pub replied : replies start k after ≡ replies start k before ++ given
    pub each : length given ≡ length (decoded_calls done)
    pub bytes_are : bytes ≡ transcript done given

-- acts were answered on a link
pub record Talks (start : Start) (k : ℕ) (done : List Act) (before after : List Entry) (old new : Told) : Type 0 where
  pub bytes : List ℕ
  pub sends : Sends old new bytes
  pub answers : Answers start k done before after bytes

-- The first of the acts has an answer, of which a prefix was written; then a write failed.
pub record IsCut (start : Start) (k : ℕ) (rest : List Act) (before after : List Entry) (last : List ℕ)
    (old new : Told) : Type 0 where
  pub begun : Act
  pub others : List Act
  pub first : rest ≡ begun ∷ others
  pub answer : List ℕ
  pub answers : Answers start k (begun ∷ []) before after answer
  pub count : ℕ
  pub written : last ≡ take count answer
  pub failed : Rose old.write_faults new.write_faults

-- Memory ran out: the first of the acts has an answer, or none was come to, and nothing was written.
pub record IsWanting (start : Start) (k : ℕ) (rest : List Act) (before after : List Entry) (last : List ℕ) : Type 0
  where
    pub begun : Option Act
    pub others : List Act
    pub first : rest ≡ listed begun ++ others
    pub answer : List ℕ
    pub answers : Answers start k (listed begun) before after answer
    pub nothing : last ≡ []

-- A request is a call that found the history full, and it isn't entered.
pub record MeetsFull (start : Start) (k n : ℕ) (asked : Request) (before after : List Entry) : Type 0
  where
    pub call : Call
    pub decoded : call_on asked.face asked.opnum asked.stub ≡ Ok call
    pub passes : Answers start k [] before after []
    pub full : call_full start after (length asked.stub) ≡ Some n

-- The first of the acts is a call that found the history full, and the fault that the server is too busy was written,
-- or a prefix of it where a write failed.
pub record IsFull (start : Start) (k n : ℕ) (rest : List Act) (before after : List Entry) (last : List ℕ)
    (old new : Told) : Type 0 where
  pub asked : Request
  pub others : List Act
  pub first : rest ≡ act.Call asked ∷ others
  pub meets : MeetsFull start k n asked before after
  pub count : ℕ
  pub written : last ≡ take count (busy_bytes asked)
  pub all : (last ≡ busy_bytes asked) ⊎ Rose old.write_faults new.write_faults

-- a prefix of these bytes was written, and they all, unless a write failed
pub record SendsSome (old new : Told) (bytes : List ℕ) : Type 0 where
  pub last : List ℕ
  pub sends : Sends old new last
  pub count : ℕ
  pub written : last ≡ take count bytes
  pub all : (last ≡ bytes) ⊎ Rose old.write_faults new.write_faults

-- how the first of the acts wasn't answered
abbrev pub Halts : Stop → Start → ℕ → List Act → List Entry → List Entry → List ℕ → Told → Told → Type 0
Halts stop.WriteFault start k rest before after last old new = IsCut start k rest before after last old new
Halts stop.NoMemory start k rest before after last old new = IsWanting start k rest before after last
Halts (stop.Full n) start k rest before after last old new = IsFull start k n rest before after last old new

-- Acts were answered on a link up to one that wasn't.
pub record StopsTalk (start : Start) (k : ℕ) (acts : List Act) (before after : List Entry) (old new : Told) (why : Stop)
    : Type 0 where
  pub done : List Act
  pub rest : List Act
  pub splits : acts ≡ done ++ rest
  pub bytes : List ℕ
  pub last : List ℕ
  pub sends : Sends old new (bytes ++ last)
  pub middle : List Entry
  pub answers : Answers start k done before middle bytes
  pub halts : Halts why start k rest middle after last old new
