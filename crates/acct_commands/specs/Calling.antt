-- What the command `call ADDRESS WORD..` does to a world, and the status that it ends with.
use Rattle.std.specs.Prelude.{Result, Ok, Err, ◌≡◌, ℕ, ◌≤◌, true, List, ◌∷◌, [], ◌++◌, ◌⊎◌, Option, Some, IfSome}
use Rattle.std.specs.Prelude.{IfNone}
use Rattle.client_commands.specs.declared.command.Command.{Command}
use Rattle.acct_keeper.specs.Faults.{NotRisen}
use Rattle.acct_keeper.specs.declared.streams.Failed.{Failed}
use Rattle.acct_links.specs.Links.{Told, IsNew}
use Rattle.acct_client.specs.Talks.{Sunk, called_with, IsSilent, IsUncalled, TalksOver, BringsAll}
use Rattle.acct_client.specs.declared.ends.TalkEnd.{TalkEnd}
use Rattle.acct_client.specs.declared.ends.TalkEnd.TheVariants as talk
use Rattle.acct_server.specs.declared.status.Status.{Status}
use Rattle.acct_server.specs.declared.status.Status.TheVariants.{Done, NoMemory, WriteFault, PeerBytes, PeerFault}
use Rattle.acct_server.specs.declared.status.Status.TheVariants.{InputTooLong, Refused}
use Rattle.acct_world.specs.World.{Seen}
use Rattle.acct_world.specs.declared.part.Part.TheVariants.{Sink, Caller}
use Rattle.acct_commands.specs.Commanded.{NotHandedOut}
use Rattle.acct_commands.specs.Words.{Calling}

-- ======== the status of how a dialogue ended

abbrev pub end_status : TalkEnd → Status
end_status talk.Done = Done
end_status talk.NoMemory = NoMemory
end_status (talk.PeerBytes place) = PeerBytes place
end_status talk.PeerFault = PeerFault
end_status talk.InputTooLong = InputTooLong
end_status (talk.Refused status) = Refused status

-- a failed write of the lines comes first
abbrev pub talk_status : {E : Type 0} → TalkEnd → Result (Unit {0}) E → Status
talk_status end (Ok u) = end_status end
talk_status end (Err e) = WriteFault

-- ======== what the command `call ADDRESS WORD..` does to a world

-- what the parts of a call tell: of a sink the bytes that it holds and its count of faults, of a caller the addresses
-- for which it gave a link and its count, and of a link what it tells
pub record TellingCall (T C L : Type 0) : Type 0 where
  pub sunk : T → Sunk
  pub called : C → Option (List (List ℕ))
  pub call_faults : C → ℕ
  pub link : L → Told

-- done, unless memory runs out
abbrev pub IsDoneOrLost : Status → Type 0
IsDoneOrLost Done = Unit {0}
IsDoneOrLost NoMemory = Unit {0}
IsDoneOrLost _ = ⊥

-- The dialogue of a command over a link that was new, until now, and its lines. Where the peer's bytes bring all
-- answers, and no call of the link or of the sink failed, it is done, unless memory runs out.
pub record HasTalked {L : Type 0} (told : L → Told) (command : Command) (end : TalkEnd)
    (printing : Result (Unit {0}) Failed) (status : Status) (old new : Sunk) (now : L) : Type 0 where
  pub given : L
  pub unused : IsNew (told given)
  pub talks : TalksOver command end printing (told given) (told now) old new
  pub complete : (peer : List ℕ) → BringsAll command (told given) (told now) peer → NotRisen old.faults new.faults
      → IsDoneOrLost status

-- The caller and the sink were handed out: the caller was asked for one link, to the address. Over it the dialogue of
-- the command was held, and its lines were written; or no link came, and nothing was. The world has both parts again,
-- and the link.
pub record HasCalled {S T K E D C L P : Type 0} (told : TellingCall T C L) (calling : Calling)
    (old new : Seen S T K E D C L P) (status : Status) : Type 0 where
  pub caller : C
  pub caller_after : C
  pub sink : T
  pub sink_after : T
  pub end : TalkEnd
  pub printing : Result (Unit {0}) Failed
  pub link : Option L
  pub ends : status ≡ talk_status end printing
  pub talks : IfSome link (λ now. HasTalked told.link calling.command end printing status (told.sunk sink)
      (told.sunk sink_after) now)
  pub none : IfNone link (IsUncalled end (told.call_faults caller) (told.call_faults caller_after)
      × IsSilent printing (told.sunk sink) (told.sunk sink_after))
  pub called : told.called caller_after ≡ called_with (told.called caller) calling.address link
  pub later : told.call_faults caller ≤ told.call_faults caller_after
  pub took_caller : old.tells ≡ true → old.caller ≡ Some caller
  pub took_sink : old.tells ≡ true → old.sink ≡ Some sink
  pub gave_caller : old.tells ≡ true → new.caller ≡ Some caller_after
  pub gave_sink : old.tells ≡ true → new.sink ≡ Some sink_after
  pub talked : old.tells ≡ true → new.talked ≡ link
  pub sources : (name : List ℕ) → new.source name ≡ old.source name
  pub keepers : (name : List ℕ) → new.keeper name ≡ old.keeper name
  pub spawner : new.spawner ≡ old.spawner
  pub entrance : new.entrance ≡ old.entrance
  pub periods : new.periods ≡ old.periods
  pub asked : old.tells ≡ true → new.asked ≡ old.asked ++ Caller ∷ Sink ∷ []

abbrev pub Calls : {S T K E D C L P : Type 0} → TellingCall T C L → Calling → Seen S T K E D C L P
    → Seen S T K E D C L P → Status → Type 0
Calls told calling old new status =
    NotHandedOut (Caller ∷ Sink ∷ []) old new status ⊎ HasCalled told calling old new status
