-- How a dialogue over a link stands between two of its steps, and what each step does.
use Rattle.std.specs.Prelude.{◌≡◌, ℕ, ◌+◌, ◌-◌, ◌*◌, ◌≤◌, ◌<◌, ◌⊎◌, Bool, true, false, List, [], ◌++◌, length, take}
use Rattle.std.specs.Prelude.{if◌then◌else◌}
use Rattle.std.specs.Io.KnownBytes.{Appends, Consumes}
use Rattle.acct_keeper.specs.Faults.{Rose}
use Rattle.acct_links.specs.Links.{Told}
use Rattle.client_commands.specs.declared.command.Command.{Command}
use Rattle.acct_client.specs.declared.dialogue.State.TheVariants.{Failed}
use Rattle.acct_client.specs.declared.dialogue.Talk.{Talk}
use Rattle.acct_client.specs.declared.errors.AskError.{AskError}
use Rattle.acct_client.specs.declared.errors.AskError.TheVariants as error
use Rattle.acct_client.specs.Dialogues.{awaits, is_failed, progress}
use Rattle.acct_client.specs.Runs.{more, IsSoFar}
use Rattle.acct_client.specs.Talks.{spoken, asks, asks_on, requested, HasEnded, LinesBy, most_read}
use Rattle.acct_client.specs.declared.ends.TalkEnd.{TalkEnd}
use Rattle.acct_client.specs.declared.ends.TalkEnd.TheVariants.{NoMemory, PeerBytes, PeerFault, InputTooLong, Refused}

-- ---- the link

-- all of these bytes were sent, or where a write has failed a prefix of them
abbrev pub SentSoFar : Bool → Told → Told → List ℕ → Type 0
SentSoFar false old now bytes = Appends old.sent now.sent bytes
SentSoFar true old now bytes = (count : ℕ) × (count ≤ length bytes) × Appends old.sent now.sent (take count bytes)
    × Rose old.write_faults now.write_faults

-- nothing was read
pub record IsUnread (old new : Told) : Type 0 where
  pub received : new.received ≡ old.received
  pub left : new.left ≡ old.left
  pub ended : new.ended ≡ old.ended
  pub reads : new.read_faults ≡ old.read_faults
  pub writes : old.write_faults ≤ new.write_faults

-- a piece was read, and nothing was written
pub record IsPieceRead (old new : Told) (piece : List ℕ) : Type 0 where
  pub received : Appends old.received new.received piece
  pub left : Consumes old.left new.left piece
  pub reads : old.read_faults ≤ new.read_faults
  pub sent : new.sent ≡ old.sent
  pub writes : new.write_faults ≡ old.write_faults

-- why no piece was read: there is no room, a write has failed before, a read failed, or the end came
abbrev pub NoPiece : TalkEnd → ℕ → Bool → Told → Told → Type 0
NoPiece InputTooLong room is_cut old new = room ≡ 0
NoPiece PeerFault room is_cut old new =
    (0 < room) × ((is_cut ≡ true) ⊎ (Rose old.read_faults new.read_faults ⊎ HasEnded new))
NoPiece end room is_cut old new = ⊥

-- what was read and sent so far
pub record LinkSoFar (old now : Told) (left_room : ℕ) (is_cut : Bool) (received bytes : List ℕ) : Type 0 where
  pub appended : Appends old.received now.received received
  pub consumed : Consumes old.left now.left received
  pub room : length received + left_room ≡ most_read
  pub reads : old.read_faults ≤ now.read_faults
  pub writes : old.write_faults ≤ now.write_faults
  pub sent : SentSoFar is_cut old now bytes

-- ---- the dialogue

-- what a dialogue still sends
abbrev pub to_send : Talk → List ℕ
to_send t = if t.is_awaiting then asks_on t (progress t.state t.left []) asks else asks t

-- a dialogue that has these bytes of the peer and has sent these of its own, however the stream goes on
pub record TalkSoFar (command : Command) (t : Talk) (received bytes : List ℕ) : Type 0 where
  pub asks : (later : List ℕ) → requested command (received ++ later) ≡ bytes ++ to_send (more t later)
  pub heard : IsSoFar command received t
  pub going : is_failed t.state ≡ false
  pub awaiting : t.is_awaiting ≡ true → awaits t.state ≡ true

-- it has heard all of them, and the answer isn't whole
pub record Waits (command : Command) (t : Talk) (received bytes : List ℕ) : Type 0 where
  pub spoken : t ≡ spoken command received
  pub awaiting : t.is_awaiting ≡ true
  pub all : requested command received ≡ bytes

-- the end that an error is
abbrev pub end_of_error : AskError → TalkEnd
end_of_error error.Usage = NoMemory
end_of_error (error.PeerBytes place) = PeerBytes place
end_of_error (error.PeerFault status) = Refused status
end_of_error (error.Refused status) = Refused status
end_of_error error.Memory = NoMemory

-- the cause of an end that the peer's bytes bring
abbrev pub HeardEnd : TalkEnd → Talk → Type 0
HeardEnd (PeerBytes place) t = t.state ≡ Failed (error.PeerBytes place)
HeardEnd (Refused status) t = (t.state ≡ Failed (error.Refused status)) ⊎ (t.state ≡ Failed (error.PeerFault status))
HeardEnd NoMemory t = Unit {0}
HeardEnd end t = ⊥

-- what was to be sent: where memory ran out something may be missing
abbrev pub AsksBy : TalkEnd → List ℕ → List ℕ → Type 0
AsksBy NoMemory bytes all = (later : List ℕ) × (all ≡ bytes ++ later)
AsksBy end bytes all = all ≡ bytes

-- a dialogue ended by what the peer sent
pub record TalkEnds (command : Command) (end : TalkEnd) (received bytes printed : List ℕ) : Type 0 where
  pub ends : HeardEnd end (spoken command received)
  pub asks : AsksBy end bytes (requested command received)
  pub lines : LinesBy end printed (spoken command received).lines

-- the place of what is left to hear: it goes on where the answer is whole, and doesn't fall else
pub record Moves (whole : Bool) (old new : Talk) : Type 0 where
  pub kept : old.left.place ≤ new.left.place
  pub goes : whole ≡ true → old.left.place < new.left.place

-- ---- both

-- how a dialogue and its link stand: the answer to the last request is whole, or it has still to come
pub record Stands (command : Command) (old now : Told) (t : Talk) (left_room : ℕ) (is_cut is_whole : Bool) : Type 0
  where
    pub received : List ℕ
    pub bytes : List ℕ
    pub dialogue : TalkSoFar command t received bytes
    pub link : LinkSoFar old now left_room is_cut received bytes
    pub waits : is_whole ≡ false → Waits command t received bytes

-- It falls with each step: a piece takes room, a whole answer takes a place, and else an answer is awaited from then
-- on.
abbrev pub steps_left : ℕ → Talk → Bool → ℕ
steps_left left_room t is_whole =
    2 * left_room + 2 * (most_read + 1 - t.left.place) + (if is_whole then 1 else 0)
