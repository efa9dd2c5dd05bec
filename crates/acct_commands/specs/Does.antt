-- What each command does to a world.
use Rattle.std.specs.Prelude.{◌≡◌, ℕ, List, true}
use Rattle.acct_server.specs.Replaying.{TellingReplay}
use Rattle.acct_server.specs.declared.status.Status.{Status}
use Rattle.acct_server.specs.declared.status.Status.TheVariants.{Usage, NoMemory}
use Rattle.acct_commands.specs.Words.{Form, Replay, Audit, Generate, Serve, Hooks, Call, is_call_form}
use Rattle.acct_world.specs.World.{Seen}
use Rattle.acct_commands.specs.Commanded.{Commanded, auditing, replaying}
use Rattle.acct_commands.specs.Generates.{Generates}
use Rattle.acct_commands.specs.Serving.{TellingServe, Serves}
use Rattle.acct_commands.specs.Calling.{TellingCall, Calls}
use Rattle.acct_commands.specs.Hooking.{TellingOutbox, Hooks as RunsOutbox}

-- what the parts of each command tell
pub record TellingAll (S T K E D F C L P : Type 0) : Type 1 where
  pub replay : TellingReplay S T K
  pub serve : TellingServe S K E D F P
  pub call : TellingCall T C L
  pub hooks : TellingOutbox S K P

abbrev pub Does : {S T K E D F C L P : Type 0} → TellingAll S T K E D F C L P → Form → Seen S T K E D C L P
    → Seen S T K E D C L P → Status → Type 0
Does told (Replay name) old new status = Commanded (replaying told.replay) name old new status
Does told (Audit name) old new status = Commanded (auditing told.replay) name old new status
Does told (Generate users) old new status =
    Generates told.replay.held told.replay.write_faults users old new status
Does told (Serve names) old new status = Serves told.serve names old new status
Does told (Hooks names) old new status = RunsOutbox told.hooks names old new status
Does told (Call calling) old new status = Calls told.call calling old new status

-- The status of words without a form. Memory runs out only where they may be a command of the client, which is then
-- read.
abbrev pub IsFormless : List (List ℕ) → Status → Type 0
IsFormless words Usage = Unit {0}
IsFormless words NoMemory = is_call_form words ≡ true
IsFormless words _ = ⊥
