-- That the stream of a peer may be cut anywhere.
use Rattle.std.specs.Prelude.{◌≡◌, ℕ, Bool, false, List, ◌++◌, Option, Some, None, if◌then◌else◌}
use Rattle.client_commands.specs.declared.command.Command.{Command}
use Rattle.acct_client.specs.declared.dialogue.Talk.{Talk}
use Rattle.acct_client.specs.Dialogues.{is_failed}
use Rattle.acct_client.specs.Talks.{run, spoken}

-- the dialogue with more bytes to hear; after an error none is heard
abbrev pub more : Talk → List ℕ → Talk
more t piece = if is_failed t.state then t else record t { left = record t.left { rest = t.left.rest ++ piece } }

-- a dialogue has taken this stream, of which some bytes may still wait to be heard
abbrev pub IsSoFar : Command → List ℕ → Talk → Type 0
IsSoFar command stream t = run t ≡ spoken command stream

-- the stream may be cut anywhere
abbrev pub IsSpokenInPieces : Type 0
IsSpokenInPieces = (t : Talk) (piece : List ℕ) → run (more t piece) ≡ run (more (run t) piece)

-- ---- a piece was taken

-- the stream is longer by the piece
abbrev pub GoesOn : Talk → Talk → List ℕ → Type 0
GoesOn old new piece = (command : Command) (stream : List ℕ) → IsSoFar command stream old
    → IsSoFar command (stream ++ piece) new

-- and none of its bytes wait to be heard
abbrev pub Comes : Talk → Talk → List ℕ → Type 0
Comes old new piece = (command : Command) (stream : List ℕ) → IsSoFar command stream old
    → new ≡ spoken command (stream ++ piece)

-- However the stream was cut, the dialogue is that of the whole stream: where the answer isn't whole, it has heard all
-- of it.
pub record IsHeard (whole : Bool) (old new : Talk) (piece : List ℕ) : Type 0 where
  pub goes : GoesOn old new piece
  pub waits : whole ≡ false → Comes old new piece

-- ---- what is sent next

-- what was taken stays; where there is nothing more to send, the dialogue is that of the whole stream
abbrev pub IsKept : Option (List ℕ) → Talk → Talk → Type 0
IsKept (Some bytes) old new = (command : Command) (stream : List ℕ) → IsSoFar command stream old
    → IsSoFar command stream new
IsKept None old new = (command : Command) (stream : List ℕ) → IsSoFar command stream old
    → new ≡ spoken command stream
