-- What the calls of a client promise of its dialogue.
use Rattle.std.specs.Prelude.{◌≡◌, ◌≢◌, ℕ, ◌+◌, ◌^◌, ◌<◌, Bool, true, false, not, List, ◌++◌, length}
use Rattle.std.specs.Prelude.{Option, None, Result, Ok, Err}
use Rattle.client_commands.specs.declared.command.Command.{Command}
use Rattle.client_commands.specs.declared.words.WordError.{WordError}
use Rattle.client_commands.specs.declared.words.WordError.TheVariants as unread
use Rattle.acct_client.specs.declared.dialogue.Progress.{Progress}
use Rattle.acct_client.specs.declared.dialogue.State.{State}
use Rattle.acct_client.specs.declared.dialogue.State.TheVariants.{Failed}
use Rattle.acct_client.specs.declared.dialogue.Talk.{Talk}
use Rattle.acct_client.specs.declared.errors.AskError.{AskError}
use Rattle.acct_client.specs.declared.errors.AskError.TheVariants.{Usage, Memory}
use Rattle.acct_client.specs.Dialogues.{awaits, is_failed, silence, took, IsFitState}

-- an answer is awaited, or an error came before
abbrev pub MayTake : Talk → Type 0
MayTake t = is_failed t.state ≡ false → t.is_awaiting ≡ true

-- the bytes of the peer that a dialogue has taken, as far as no error came
abbrev pub bytes_taken : Talk → ℕ
bytes_taken t = t.left.place + length t.left.rest

-- places of the peer's stream are below 2 ^ 64
abbrev pub HasRoom : Talk → List ℕ → Type 0
HasRoom t piece = bytes_taken t + length piece < 2 ^ 64

-- what is answered where a dialogue stands so
abbrev pub answer_of : State → Bool → Result Bool AskError
answer_of (Failed e) awaiting = Err e
answer_of _ awaiting = Ok (not awaiting)

-- a dialogue that runs out of memory
abbrev pub lost : List ℕ → Talk
lost lines = record { state = Failed Memory; is_awaiting = false; left = silence; lines = lines }

-- the dialogue after a piece, with these lines before it
abbrev pub with_lines : List ℕ → Progress → Talk
with_lines lines p = record {
  state = p.state;
  is_awaiting = p.is_awaiting;
  left = p.left;
  lines = lines ++ p.printed;
}

-- a piece was taken, with no error: whether the answer is whole
pub record IsTaken (whole : Bool) (old new : Talk) (piece : List ℕ) : Type 0 where
  pub dialogue : new ≡ took old piece
  pub going : is_failed new.state ≡ false
  pub answer : whole ≡ not new.is_awaiting

-- The error that the piece brought, or that came before. Running out of memory may come anywhere, and leaves the lines.
-- From then on the error stands.
pub record IsFailed (e : AskError) (old new : Talk) (piece : List ℕ) : Type 0 where
  pub state : new.state ≡ Failed e
  pub awaiting : new.is_awaiting ≡ false
  pub cause : e ≢ Memory → new ≡ took old piece
  pub lines : e ≡ Memory → new.lines ≡ old.lines

-- nothing was sent, since memory ran out
pub record IsLost (old new : Talk) : Type 0 where
  pub state : new.state ≡ Failed Memory
  pub awaiting : new.is_awaiting ≡ false
  pub lines : new.lines ≡ old.lines

-- An answer is awaited only where one is awaited in the state.
pub record IsFitTalk (t : Talk) : Type 0 where
  pub state : IsFitState t.state
  pub awaiting : t.is_awaiting ≡ true → awaits t.state ≡ true

-- what words that give no command make of the client
abbrev pub unspelled : WordError → AskError
unspelled unread.Refused = Usage
unspelled unread.NoMemory = Memory

-- why there is no client of some words: Usage is answered off the table alone, and Memory anywhere
abbrev pub IsNoClient : AskError → Option Command → Type 0
IsNoClient Usage command = command ≡ None
IsNoClient Memory command = Unit {0}
IsNoClient e command = ⊥
