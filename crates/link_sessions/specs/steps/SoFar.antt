-- A conversation so far, and how the acts of a piece end it.
use Rattle.std.specs.Prelude.{◌≡◌, ℕ, ◌≤◌, false, List, length, Some, None}
use Rattle.std.specs.Io.KnownBytes.{Appends, Consumes}
use Rattle.acct_machine.specs.State.{Start}
use Rattle.acct_machine.specs.declared.entry.Entry.{Entry}
use Rattle.rpc_session.specs.declared.sessions.Act.{Act}
use Rattle.rpc_session.specs.declared.sessions.Session.TheVariants.{Unbound}
use Rattle.rpc_session.specs.declared.hearing.Hearing.{Hearing}
use Rattle.rpc_session.specs.Sessions.{hear, acts}
use Rattle.acct_links.specs.Links.{Told}
use Rattle.link_sessions.specs.Sessions.{closing_of}
use Rattle.link_sessions.specs.steps.Talking.{Answers, Talks, StopsTalk}
use Rattle.link_sessions.specs.declared.ends.Stop.{Stop}
use Rattle.link_sessions.specs.declared.ends.Stop.TheVariants as stop
use Rattle.link_sessions.specs.declared.ends.SessionEnd.{SessionEnd}
use Rattle.link_sessions.specs.declared.ends.SessionEnd.TheVariants as end

-- What came is heard, and its acts are answered.
pub record SoFar (start : Start) (k : ℕ) (before now : List Entry) (old told : Told) (hearing : Hearing)
    (came : List ℕ) : Type 0 where
  pub reads : Appends old.received told.received came
  pub takes : Consumes old.left told.left came
  pub stands : hearing ≡ (hear k 0 Unbound came).leaves
  pub sent : List ℕ
  pub sends : Appends old.sent told.sent sent
  pub answers : Answers start k (acts k came) before now sent
  pub open_still : closing_of (acts k came) ≡ None
  pub not_ended : told.ended ≡ false
  pub read_faults : old.read_faults ≤ told.read_faults
  pub write_faults : old.write_faults ≤ told.write_faults

-- the hearing is that of some bytes, of which there are at most so many
abbrev pub HeardBytes : ℕ → Hearing → ℕ → Type 0
HeardBytes k hearing most =
    (came : List ℕ) × (hearing ≡ (hear k 0 Unbound came).leaves) × (length came ≤ most)

abbrev pub end_of_stop : Stop → SessionEnd
end_of_stop stop.WriteFault = end.WriteFault
end_of_stop (stop.Full n) = end.Full n
end_of_stop stop.NoMemory = end.NoMemory

-- how the acts of a piece end a session
abbrev pub PieceEnds : Start → ℕ → List Act → List Entry → List Entry → Told → Told → SessionEnd → Type 0
PieceEnds start k acts before after old new (end.Closed place cause) =
    Talks start k acts before after old new × (closing_of acts ≡ Some (place, cause))
PieceEnds start k acts before after old new end.WriteFault = StopsTalk start k acts before after old new stop.WriteFault
PieceEnds start k acts before after old new (end.Full n) = StopsTalk start k acts before after old new (stop.Full n)
PieceEnds start k acts before after old new end.NoMemory = StopsTalk start k acts before after old new stop.NoMemory
PieceEnds start k acts before after old new _ = ⊥
