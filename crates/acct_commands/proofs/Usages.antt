-- No command that was taken answers that its words have no form.
use Rattle.std.proofs.Common.{◌≡◌, ◌≢◌, ℕ, inl, inr, List, Option, Some, None, Result, Ok, Err, sym, ◌∙◌}
use Rattle.std.proofs.Common.{subst}
use Rattle.acct_server.specs.declared.replays.Replayed.{Replayed}
use Rattle.acct_server.specs.declared.status.Status.{Status}
use Rattle.acct_server.specs.declared.status.Status.TheVariants.{NoMemory, Usage}
use Rattle.acct_server.specs.Leaves.{IsOfRun, ConfigCause, EventsCause, StoreCause}
use Rattle.acct_server.specs.Replaying.{TellingReplay, Parts, HasNotRun, IsReplay}
use Rattle.acct_world.specs.declared.part.Part.{Part}
use Rattle.acct_world.specs.declared.period.Period.{Period}
use Rattle.acct_client.specs.declared.ends.TalkEnd.{TalkEnd}
use Rattle.acct_client.specs.declared.ends.TalkEnd.TheVariants as talk
use Rattle.acct_commands.specs.Calling.{talk_status}
use Rattle.acct_world.specs.World.{Seen}
use Rattle.acct_commands.specs.Commanded.{TakeCause, NotHandedOut, OverParts, HasRun, Keeps}

not-run-not-usage : {S T K : Type 0} (told : TellingReplay S T K) (old new : Parts S T K) (left : Replayed K)
    → HasNotRun told old new left → left.status ≢ Usage
not-run-not-usage told old new left none is =
    let C : Status → Type 0 = λ (x : Status).
    ConfigCause (told.left old.config) (told.read_faults old.config) (told.read_faults new.config) x in
    let E : Status → Type 0 = λ (x : Status).
    EventsCause (told.left old.events) (told.read_faults old.events) (told.read_faults new.events) x in
    let K : Status → Type 0 = λ (x : Status).
    StoreCause (told.pairs old.keeper) (told.store_faults old.keeper) (told.store_faults new.keeper) x in
    elim none.cause [
      | inl config ↦ subst C is config.cause
      | inr other ↦ elim other [ inl events ↦ subst E is events.cause | inr store ↦ subst K is store.cause ]
    ]

pub replay-not-usage : {S T K : Type 0} (told : TellingReplay S T K) (old new : Parts S T K) (left : Replayed K)
    → IsReplay told old new left → left.status ≢ Usage
replay-not-usage told old new left by is = elim by.leaves [
  | inl none ↦ not-run-not-usage told old new left none is
  | inr runs ↦ subst IsOfRun is runs.runs.possible
]

-- what is answered once the world was asked to keep a period
pub kept-not-usage : {S T K E D C L P : Type 0} (old new : Seen S T K E D C L P) (period : Option Period)
    (ended status : Status)
    → Keeps old new period ended status → ended ≢ Usage → status ≢ Usage
kept-not-usage old new None ended status keeps other is = other (sym keeps.0 ∙ is)
kept-not-usage old new (Some period) ended status (inl keeps) other is = other (sym keeps.0 ∙ is)
kept-not-usage old new (Some period) ended status (inr keeps) other is =
    let clash : NoMemory ≡ Usage = sym keeps.0 ∙ is in absurd cc

pub refused-not-usage : {S T K E D C L P : Type 0} (parts : List Part) (old new : Seen S T K E D C L P)
    (status : Status)
    → NotHandedOut parts old new status → status ≢ Usage
refused-not-usage parts old new status fails is = subst (λ (s : Status). TakeCause old new s) is fails.cause

-- a command over its parts answers it only where what it left did
pub run-not-usage : {S T K E D C L P X : Type 0} (over : OverParts S T K X) (name : List ℕ)
    (old new : Seen S T K E D C L P) (status : Status)
    → ((before after : Parts S T K) (left : X) → over.leaves before after left → over.ended left ≢ Usage)
    → HasRun over name old new status → status ≢ Usage
run-not-usage over name old new status other run =
    kept-not-usage old new (over.period run.left) (over.ended run.left) status run.keeps
    (other run.before run.after run.left run.ran)

-- nor does the end of a dialogue
not-of-talk : {E : Type 0} (end : TalkEnd) (printing : Result (Unit {0}) E) → talk_status end printing ≢ Usage
not-of-talk end (Err e) = λ is. absurd cc
not-of-talk talk.Done (Ok u) = λ is. absurd cc
not-of-talk talk.NoMemory (Ok u) = λ is. absurd cc
not-of-talk (talk.PeerBytes place) (Ok u) = λ is. absurd cc
not-of-talk talk.PeerFault (Ok u) = λ is. absurd cc
not-of-talk talk.InputTooLong (Ok u) = λ is. absurd cc
not-of-talk (talk.Refused status) (Ok u) = λ is. absurd cc

pub talk-not-usage : {E : Type 0} (end : TalkEnd) (printing : Result (Unit {0}) E) (status : Status)
    → status ≡ talk_status end printing → status ≢ Usage
talk-not-usage end printing status ends is = not-of-talk end printing (sym ends ∙ is)
