-- What a dialogue over a link comes to, and what a call leaves.
use Rattle.std.specs.Prelude.{ℕ, zero, suc, List, [], ◌++◌, length, Option, Some, None, if◌then◌else◌, ◌≡◌, ◌≤◌, ◌<◌}
use Rattle.std.specs.Prelude.{◌⊎◌, true, take, Result, Ok, OnOk, OnErr}
use Rattle.std.specs.Io.KnownBytes.{Appends, Consumes, IsAtEnd}
use Rattle.client_commands.specs.declared.command.Command.{Command}
use Rattle.acct_keeper.specs.Faults.{NotRisen, Rose, HasCause}
use Rattle.acct_links.specs.Links.{with_address, Told, LinkRose}
use Rattle.acct_client.specs.Answered.{end_by, printed_by, sent_by, HasAnswers, PeerAnswers}
use Rattle.acct_client.specs.Dialogues.{awaits, begun, joined, progress, sent}
use Rattle.acct_client.specs.Hearings.{listening}
use Rattle.acct_client.specs.declared.dialogue.Progress.{Progress}
use Rattle.acct_client.specs.declared.dialogue.State.{State}
use Rattle.acct_client.specs.declared.dialogue.State.TheVariants.{Ended, Failed}
use Rattle.acct_client.specs.declared.dialogue.Talk.{Talk}
use Rattle.acct_client.specs.declared.ends.TalkEnd.{TalkEnd}
use Rattle.acct_client.specs.declared.ends.TalkEnd.TheVariants.{Done, NoMemory, PeerBytes, PeerFault, InputTooLong}
use Rattle.acct_client.specs.declared.ends.TalkEnd.TheVariants.{Refused}
use Rattle.acct_client.specs.declared.errors.AskError.TheVariants as error

-- ======== what a client sends in all: the bind, and then the requests of each call that the answers before it lead to

abbrev pub bytes_of : Option (List ℕ) → List ℕ
bytes_of None = []
bytes_of (Some bytes) = bytes

-- what a state sends
abbrev pub request : State → List ℕ
request state = bytes_of (sent state)

-- what is sent once the awaited answer is whole, nothing before
abbrev pub asks_on : Talk → Progress → (Talk → List ℕ) → List ℕ
asks_on t p later = if p.is_awaiting then [] else later (joined t p)

-- with at most so many answers
unfoldable pub asks_in : ℕ → Talk → List ℕ
asks_in zero t = []
asks_in (suc answers) t = request t.state
    ++ (if awaits t.state then asks_on t (progress t.state t.left []) (λ next. asks_in answers next) else [])

-- what a dialogue sends that has so much left to hear; each answer takes a byte and more
unfoldable pub asks : Talk → List ℕ
asks t = asks_in (suc (length t.left.rest)) t

-- all that the client of a command sends where the peer's whole stream so far is this
abbrev pub requested : Command → List ℕ → List ℕ
requested command stream = asks (record (begun command) { left = listening 0 None stream })

-- ======== a dialogue over the whole stream of the peer: it goes on as far as the bytes go, the next call being made
-- whenever an answer is whole

abbrev pub run_on : Talk → Progress → (Talk → Talk) → Talk
run_on t p later = if p.is_awaiting then joined t p else later (joined t p)

-- with at most so many answers
unfoldable pub run_in : ℕ → Talk → Talk
run_in zero t = t
run_in (suc answers) t =
    if awaits t.state then run_on t (progress t.state t.left []) (λ next. run_in answers next) else t

-- each answer takes a byte and more
unfoldable pub run : Talk → Talk
run t = run_in (suc (length t.left.rest)) t

-- The dialogue of a command after the whole stream so far: its lines are those that are printed of the answers that the
-- stream spells, and an error is that of the first place with no answer, or of the first refusal.
abbrev pub spoken : Command → List ℕ → Talk
spoken command stream = run (record (begun command) { left = listening 0 None stream })

-- ======== the dialogue over a stream is that of the answers that the stream's PDUs bring

-- how a dialogue has ended by an answer, if it has
abbrev pub ended_in : State → Option TalkEnd
ended_in Ended = Some Done
ended_in (Failed (error.Refused status)) = Some (Refused status)
ended_in (Failed (error.PeerFault status)) = Some (Refused status)
ended_in _ = None

pub record IsOfAnswers (command : Command) (stream : List ℕ) (answers : PeerAnswers) : Type 0 where
  pub lines : (spoken command stream).lines ≡ printed_by command answers
  pub requests : requested command stream ≡ sent_by command answers
  pub end : ended_in (spoken command stream).state ≡ end_by command answers
  pub waits : (spoken command stream).is_awaiting ≡ true → end_by command answers ≡ None

-- every stream has answers, and the dialogue is that of any that it has
pub record AreOfAnswers (command : Command) (stream : List ℕ) : Type 0 where
  pub answers : PeerAnswers
  pub has : HasAnswers command stream answers
  pub only : (others : PeerAnswers) → HasAnswers command stream others → IsOfAnswers command stream others

abbrev pub DialoguesAreOfAnswers : Type 0
DialoguesAreOfAnswers = (command : Command) (stream : List ℕ) → AreOfAnswers command stream

-- ======== what a dialogue over a link comes to

-- how many bytes are read of a peer at most
abbrev pub most_read : ℕ
most_read = 67_108_864

-- the client of a command that has said nothing yet
abbrev pub IsBegun : Command → Talk → Type 0
IsBegun command t = t ≡ begun command

-- these bytes were sent, or a prefix of them before a write failed
abbrev pub SentOrCut : Told → Told → List ℕ → Type 0
SentOrCut old new bytes = Appends old.sent new.sent bytes
    ⊎ ((count : ℕ) × Appends old.sent new.sent (take count bytes) × Rose old.write_faults new.write_faults)

-- a prefix of these bytes was sent
abbrev pub SentFront : Told → Told → List ℕ → Type 0
SentFront old new bytes = (count : ℕ) × Appends old.sent new.sent (take count bytes)

-- a read has answered the end, and nothing is left to read
pub record HasEnded (link : Told) : Type 0 where
  pub ended : link.ended ≡ true
  pub none_left : IsAtEnd link.left

-- Each end has its cause in the dialogue of all that was read, unless memory runs out. Where the answer isn't whole it
-- is that so many bytes were read, or that a call of the link failed or its end came.
abbrev pub EndsBy : TalkEnd → Talk → ℕ → Told → Told → Type 0
EndsBy Done t count old new = t.state ≡ Ended
EndsBy NoMemory t count old new = Unit {0}
EndsBy (PeerBytes place) t count old new = t.state ≡ Failed (error.PeerBytes place)
EndsBy PeerFault t count old new = (t.is_awaiting ≡ true) × (count < most_read) × (LinkRose old new ⊎ HasEnded new)
EndsBy InputTooLong t count old new = (t.is_awaiting ≡ true) × (count ≡ most_read)
EndsBy (Refused status) t count old new =
    (t.state ≡ Failed (error.Refused status)) ⊎ (t.state ≡ Failed (error.PeerFault status))

-- what was sent: where memory ran out only a prefix
abbrev pub SendsBy : TalkEnd → Told → Told → List ℕ → Type 0
SendsBy NoMemory old new bytes = SentFront old new bytes
SendsBy end old new bytes = SentOrCut old new bytes

-- the lines: where memory ran out nothing is said of them
abbrev pub LinesBy : TalkEnd → List ℕ → List ℕ → Type 0
LinesBy NoMemory lines all = Unit {0}
LinesBy end lines all = lines ≡ all

-- What was read is the peer's stream; what was sent, the lines and the end are those of the command's dialogue over it.
pub record Talks (command : Command) (end : TalkEnd) (old new : Told) (printed : List ℕ) : Type 0 where
  pub received : List ℕ
  pub appended : Appends old.received new.received received
  pub consumed : Consumes old.left new.left received
  pub within : length received ≤ most_read
  pub reads : old.read_faults ≤ new.read_faults
  pub writes : old.write_faults ≤ new.write_faults
  pub sent : SendsBy end old new (requested command received)
  pub lines : LinesBy end printed (spoken command received).lines
  pub ends : EndsBy end (spoken command received) (length received) old new

-- ---- the same by the answers of the stream

-- how the answers end the command: so, or not at all
abbrev pub EndsByAnswer : TalkEnd → Option TalkEnd → Type 0
EndsByAnswer Done answered = answered ≡ Some Done
EndsByAnswer (Refused status) answered = answered ≡ Some (Refused status)
EndsByAnswer NoMemory answered = Unit {0}
EndsByAnswer _ answered = answered ≡ None

pub record TalksByAnswers (command : Command) (end : TalkEnd) (old new : Told) (printed : List ℕ) : Type 0 where
  pub dialogue : Talks command end old new printed
  pub answers : PeerAnswers
  pub answered : HasAnswers command dialogue.received answers
  pub sent : SendsBy end old new (sent_by command answers)
  pub lines : LinesBy end printed (printed_by command answers)
  pub ends : EndsByAnswer end (end_by command answers)

-- ---- a peer that sends all answers

-- A link tells its peer's bytes, which bring all answers of a command within the limit, and no call of it has failed.
pub record BringsAll (command : Command) (old new : Told) (peer : List ℕ) : Type 0 where
  pub tells : old.left ≡ Some peer
  pub within : length peer ≤ most_read
  pub spells : (spoken command peer).state ≡ Ended
  pub reads : NotRisen old.read_faults new.read_faults
  pub writes : NotRisen old.write_faults new.write_faults

abbrev pub IsDoneOrLost : TalkEnd → Type 0
IsDoneOrLost Done = Unit {0}
IsDoneOrLost NoMemory = Unit {0}
IsDoneOrLost end = ⊥

-- a dialogue over such a link comes to its last answer, unless memory runs out
abbrev pub ComesToItsEnd : Type 0
ComesToItsEnd = (command : Command) (end : TalkEnd) (old new : Told) (printed peer : List ℕ)
    → Talks command end old new printed → BringsAll command old new peer → IsDoneOrLost end

-- ======== what a call leaves: its link, and the lines that were written

-- what a sink holds, and how many of its writes have failed
pub record Sunk : Type 0 where
  pub held : Option (List ℕ)
  pub faults : ℕ

-- the addresses for which a link was given: one more where there is a link
abbrev pub called_with : {L : Type 0} → Option (List (List ℕ)) → List ℕ → Option L → Option (List (List ℕ))
called_with called address None = called
called_with called address (Some link) = with_address address called

-- no link was given: the caller failed, or memory ran out
abbrev pub IsUncalled : TalkEnd → ℕ → ℕ → Type 0
IsUncalled PeerFault before now = Rose before now
IsUncalled NoMemory before now = Unit {0}
IsUncalled end before now = ⊥

-- nothing was written
pub record IsSilent {E : Type 0} (printing : Result Unit E) (old new : Sunk) : Type 0 where
  pub ok : printing ≡ Ok tt
  pub same : new ≡ old

-- the lines were written, or a prefix of them before a write failed
pub record Prints {E : Type 0} (printing : Result Unit E) (lines : List ℕ) (old new : Sunk) : Type 0 where
  pub ok : OnOk printing (Appends old.held new.held lines)
  pub err : OnErr printing ((n : ℕ) × Appends old.held new.held (take n lines))
  pub cause : HasCause old.faults new.faults printing

-- where memory ran out nothing is written
abbrev pub PrintsBy : {E : Type 0} → TalkEnd → Result Unit E → List ℕ → Sunk → Sunk → Type 0
PrintsBy NoMemory printing lines old new = IsSilent printing old new
PrintsBy end printing lines old new = Prints printing lines old new

-- a command's dialogue over a link, from its beginning until now, and its lines
pub record TalksOver {E : Type 0} (command : Command) (end : TalkEnd) (printing : Result Unit E) (before now : Told)
    (old new : Sunk) : Type 0 where
  pub lines : List ℕ
  pub talks : TalksByAnswers command end before now lines
  pub prints : PrintsBy end printing lines old new
