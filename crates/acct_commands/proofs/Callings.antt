-- What a world shows over the command `call`.
use Rattle.std.proofs.Common.{◌≡◌, ◌≤◌, List, ℕ, ◌∷◌, [], Result, Ok, Err}
use Rattle.std.proofs.Common.{Option, Some, None, refl, sym, ◌∙◌, ap, subst}
use Rattle.std.proofs.Common.{arith, IfSome, IfNone, Bool, true, get_or, drop, option_map, if◌then◌else◌}
use Rattle.std.specs.Option.{option_or}
use Rattle.acct_keeper.specs.declared.streams.Failed.{Failed}
use Rattle.acct_keeper.specs.Faults.{Rose, NotRisen}
use Rattle.acct_links.specs.Links.{Told, IsNew}
use Rattle.acct_client.specs.Talks.{Sunk, called_with, IsSilent, IsUncalled, PrintsBy, TalksOver, ComesToItsEnd}
use Rattle.acct_client.specs.Talks.{IsDoneOrLost as IsDone, IsBegun}
use Rattle.acct_client.specs.declared.ends.TalkEnd.{TalkEnd}
use Rattle.acct_client.specs.declared.ends.TalkEnd.TheVariants as talk
use Rattle.acct_world.specs.declared.part.Part.TheVariants as part
use Rattle.acct_server.specs.declared.status.Status.{Status}
use Rattle.acct_commands.specs.Calling.{talk_status, TellingCall, IsDoneOrLost, HasTalked, HasCalled, Calls}
use Rattle.acct_commands.specs.Words.{Form, Replay, Audit, Generate, Serve, Hooks, Call, Calling, ServeNames, calling}
use Rattle.acct_commands.specs.Words.{calling_at, call_form, is_call_form, replay_form, audit_form, gen_form}
use Rattle.acct_commands.specs.Words.{serve_form, hooks_form, form_of}
use Rattle.acct_client.specs.declared.dialogue.Talk.{Talk}
use Rattle.acct_client.specs.Dialogues.{begun}
use Rattle.client_commands.specs.declared.command.Command.{Command}
use Rattle.client_commands.specs.Words.{command_of}
use Rattle.acct_world.specs.World.{Seen, TakesSink, GivesSink, TakesCaller, GivesCaller}
use Rattle.acct_commands.specs.Does.{TellingAll, Does}
use Rattle.acct_commands.proofs.Worlds.{asked-ok, asked-more}

-- ---- a dialogue in which nothing failed

not-risen : (faults counted : ℕ) → NotRisen faults counted → Rose faults counted → ⊥
not-risen faults counted quiet rose = omega (arith, quiet, rose)

done-or-lost : {E : Type 0} (end : TalkEnd) (printing : Result (Unit {0}) E) (lines : List ℕ) (old new : Sunk)
    → PrintsBy end printing lines old new → NotRisen old.faults new.faults → IsDone end
    → IsDoneOrLost (talk_status end printing)
done-or-lost talk.Done (Ok u) lines old new prints quiet ends = tt
done-or-lost talk.Done (Err e) lines old new prints quiet ends =
    absurd (not-risen old.faults new.faults quiet prints.cause.failed)
done-or-lost talk.NoMemory printing lines old new silent quiet ends =
    subst (λ (p : Result (Unit {0}) _). IsDoneOrLost (talk_status talk.NoMemory p)) (sym silent.ok) tt
done-or-lost (talk.PeerBytes place) printing lines old new prints quiet ends = absurd ends
done-or-lost talk.PeerFault printing lines old new prints quiet ends = absurd ends
done-or-lost talk.InputTooLong printing lines old new prints quiet ends = absurd ends
done-or-lost (talk.Refused status) printing lines old new prints quiet ends = absurd ends

-- the dialogue over the link that was given, and that it comes to its end
has-talked : {L : Type 0} (told : L → Told) (command : Command) (end : TalkEnd) (printing : Result (Unit {0}) Failed)
    (status : Status) (old new : Sunk) (now given : L) → ComesToItsEnd → status ≡ talk_status end printing
    → IsNew (told given) → TalksOver command end printing (told given) (told now) old new
    → HasTalked told command end printing status old new now
has-talked told command end printing status old new now given law is unused talks = record {
  given = given;
  unused = unused;
  talks = talks;
  complete = λ peer brings quiet.
      subst (λ (s : Status). IsDoneOrLost s) (sym is)
      (done-or-lost end printing talks.lines old new talks.prints quiet
      (law command end (told given) (told now) talks.lines peer talks.talks.dialogue brings));
}

have-talked : {L : Type 0} (told : L → Told) (command : Command) (end : TalkEnd) (printing : Result (Unit {0}) Failed)
    (status : Status) (old new : Sunk) (link : Option L) → ComesToItsEnd → status ≡ talk_status end printing
    → IfSome link (λ now. (given : L) × IsNew (told given)
    × TalksOver command end printing (told given) (told now) old new)
    → IfSome link (λ now. HasTalked told command end printing status old new now)
have-talked told command end printing status old new (Some now) law is talks =
    has-talked told command end printing status old new now talks.0 law is talks.1 talks.2
have-talked told command end printing status old new None law is talks = tt

-- ---- the command

pub has-called : {S T K E D C L P : Type 0} (told : TellingCall T C L) (calling : Calling)
    (w0 w1 w2 w3 w4 : Seen S T K E D C L P)
    (caller caller_after : C) (sink sink_after : T) (end : TalkEnd) (printing : Result (Unit {0}) Failed)
    (link : Option L) (status : Status) → ComesToItsEnd → status ≡ talk_status end printing
    → TakesCaller w0 w1 (Ok caller) → TakesSink w1 w2 (Ok sink)
    → IfSome link (λ now. (given : L) × IsNew (told.link given)
    × TalksOver calling.command end printing (told.link given) (told.link now) (told.sunk sink) (told.sunk sink_after))
    → IfNone link (IsUncalled end (told.call_faults caller) (told.call_faults caller_after)
    × IsSilent printing (told.sunk sink) (told.sunk sink_after))
    → told.called caller_after ≡ called_with (told.called caller) calling.address link
    → told.call_faults caller ≤ told.call_faults caller_after → GivesSink w2 w3 sink_after
    → GivesCaller w3 w4 caller_after link → HasCalled told calling w0 w4 status
has-called told calling w0 w1 w2 w3 w4 caller caller_after sink sink_after end printing link status law is takes taken
    talks none called later gives given =
    let tells1 : w1.tells ≡ w0.tells = ap (λ (s : Seen _ _ _ _ _ _ _ _). s.tells) takes.others in
    let tells2 : w2.tells ≡ w0.tells = ap (λ (s : Seen _ _ _ _ _ _ _ _). s.tells) taken.others ∙ tells1 in
    let tells3 : w3.tells ≡ w0.tells = ap (λ (s : Seen _ _ _ _ _ _ _ _). s.tells) gives.others ∙ tells2 in
    record {
      caller = caller;
      caller_after = caller_after;
      sink = sink;
      sink_after = sink_after;
      end = end;
      printing = printing;
      link = link;
      ends = is;
      talks = have-talked told.link calling.command end printing status (told.sunk sink) (told.sunk sink_after) link law
          is talks;
      none = none;
      called = called;
      later = later;
      took_caller = λ tells. takes.part tells;
      took_sink = λ tells. sym (ap (λ (s : Seen _ _ _ _ _ _ _ _). s.sink) takes.others) ∙ taken.part (tells1 ∙ tells);
      gave_caller = λ tells. given.holds (tells3 ∙ tells);
      gave_sink = λ tells. ap (λ (s : Seen _ _ _ _ _ _ _ _). s.sink) given.others ∙ gives.holds (tells2 ∙ tells);
      talked = λ tells. given.talked (tells3 ∙ tells);
      sources = λ name. ap (λ (s : Seen _ _ _ _ _ _ _ _). s.source name) given.others
          ∙ ap (λ (s : Seen _ _ _ _ _ _ _ _). s.source name) gives.others
          ∙ ap (λ (s : Seen _ _ _ _ _ _ _ _). s.source name) taken.others
          ∙ ap (λ (s : Seen _ _ _ _ _ _ _ _). s.source name) takes.others;
      keepers = λ name. ap (λ (s : Seen _ _ _ _ _ _ _ _). s.keeper name) given.others
          ∙ ap (λ (s : Seen _ _ _ _ _ _ _ _). s.keeper name) gives.others
          ∙ ap (λ (s : Seen _ _ _ _ _ _ _ _). s.keeper name) taken.others
          ∙ ap (λ (s : Seen _ _ _ _ _ _ _ _). s.keeper name) takes.others;
      spawner = ap (λ (s : Seen _ _ _ _ _ _ _ _). s.spawner) given.others
          ∙ ap (λ (s : Seen _ _ _ _ _ _ _ _). s.spawner) gives.others
          ∙ ap (λ (s : Seen _ _ _ _ _ _ _ _). s.spawner) taken.others
          ∙ ap (λ (s : Seen _ _ _ _ _ _ _ _). s.spawner) takes.others;
      entrance = ap (λ (s : Seen _ _ _ _ _ _ _ _). s.entrance) given.others
          ∙ ap (λ (s : Seen _ _ _ _ _ _ _ _). s.entrance) gives.others
          ∙ ap (λ (s : Seen _ _ _ _ _ _ _ _). s.entrance) taken.others
          ∙ ap (λ (s : Seen _ _ _ _ _ _ _ _). s.entrance) takes.others;
      periods = ap (λ (s : Seen _ _ _ _ _ _ _ _). s.periods) given.others
          ∙ ap (λ (s : Seen _ _ _ _ _ _ _ _). s.periods) gives.others
          ∙ ap (λ (s : Seen _ _ _ _ _ _ _ _). s.periods) taken.others
          ∙ ap (λ (s : Seen _ _ _ _ _ _ _ _). s.periods) takes.others;
      asked = λ tells. ap (λ (s : Seen _ _ _ _ _ _ _ _). s.asked) given.others
          ∙ ap (λ (s : Seen _ _ _ _ _ _ _ _). s.asked) gives.others
          ∙ asked-more w0.asked w1.asked w2.asked (part.Caller ∷ []) part.Sink
          (asked-ok part.Caller w0.asked w1.asked caller (Ok caller) refl (takes.asked tells))
          (asked-ok part.Sink w1.asked w2.asked sink (Ok sink) refl (taken.asked (tells1 ∙ tells)));
    }

-- the client of words is that of the command that they are
pub record Asks (words : List (List ℕ)) (asker : Talk) : Type 0 where
  pub command : Command
  pub is : command_of words ≡ Some command
  pub begins : IsBegun command asker

asks-of : (o : Option Command) (asker : Talk) → option_map begun o ≡ Some asker
    → (command : Command) × (o ≡ Some command) × IsBegun command asker
asks-of None asker is = absurd cc
asks-of (Some command) asker is = (command, refl, let e : begun command ≡ asker = cc in sym e)

pub asks : (words : List (List ℕ)) (asker : Talk) → option_map begun (command_of words) ≡ Some asker → Asks words asker
asks words asker is =
    let one = asks-of (command_of words) asker is in record { command = one.0; is = one.1; begins = one.2 }

-- what is shown of the one that there is holds of every one that there is
pub of_the_one : {A : Type 0} (P : A → Type 0) (o : Option A) (known : A) → o ≡ Some known → P known → (x : A)
    → o ≡ Some x → P x
of_the_one P o known is holds x same =
    let e : Some known ≡ Some x = sym is ∙ same in let f : known ≡ x = cc in subst P f holds

call-form-at : (words rest : List (List ℕ)) (address : List ℕ) → is_call_form words ≡ true → get_or words 1 [] ≡ address
    → drop 2 words ≡ rest → call_form words ≡ calling_at address rest
call-form-at words rest address is here behind =
    ap (λ (b : Bool). if b then calling_at (get_or words 1 []) (drop 2 words) else None) is
    ∙ ap (λ (a : List ℕ). calling_at a (drop 2 words)) here ∙ ap (λ (ws : List (List ℕ)). calling_at address ws) behind

-- what is asked for at an address is what the words after it are
pub call-form : (words rest : List (List ℕ)) (address : List ℕ) (command : Command) → is_call_form words ≡ true
    → get_or words 1 [] ≡ address → drop 2 words ≡ rest → command_of rest ≡ Some command
    → call_form words ≡ Some (record { address = address; command = command })
call-form words rest address command is here behind known =
    call-form-at words rest address is here behind
    ∙ ap (λ (o : Option Command). option_map (λ (c : Command). calling address c) o) known

-- ---- the words of no other command

call-alone : (words : List (List ℕ)) (form : Form) → replay_form words ≡ None → audit_form words ≡ None
    → gen_form words ≡ None → serve_form words ≡ None → hooks_form words ≡ None → form_of words ≡ Some form
    → option_map Call (call_form words) ≡ Some form
call-alone words form no_replay no_audit no_gen no_serve no_hooks is =
    let called : Option Form = option_map Call (call_form words) in
    let drained : Option Form = option_or (option_map Hooks (hooks_form words)) called in
    let behind : Option Form = option_or (option_map Serve (serve_form words)) drained in
    let made : Option Form = option_or (option_map Generate (gen_form words)) behind in
    let audited : Option Form = option_or (option_map Audit (audit_form words)) made in
    sym (ap (λ (o : Option (List ℕ)). option_or (option_map Replay o) audited) no_replay
    ∙ ap (λ (o : Option (List ℕ)). option_or (option_map Audit o) made) no_audit
    ∙ ap (λ (o : Option ℕ). option_or (option_map Generate o) behind) no_gen
    ∙ ap (λ (o : Option ServeNames). option_or (option_map Serve o) drained) no_serve
    ∙ ap (λ (o : Option ServeNames). option_or (option_map Hooks o) called) no_hooks) ∙ is

does-of : {S T K E D F C L P : Type 0} (told : TellingAll S T K E D F C L P) (old new : Seen S T K E D C L P)
    (status : Status) (o : Option Calling) (form : Form) → option_map Call o ≡ Some form
    → ((calling : Calling) → o ≡ Some calling → Calls told.call calling old new status)
    → Does told form old new status
does-of told old new status None form is calls = absurd cc
does-of told old new status (Some calling) form is calls =
    let e : Call calling ≡ form = cc in subst (λ (f : Form). Does told f old new status) e (calls calling refl)

-- what a call does is what the words that have no other form ask for
pub does-call : {S T K E D F C L P : Type 0} (told : TellingAll S T K E D F C L P) (words : List (List ℕ))
    (old new : Seen S T K E D C L P) (status : Status) → replay_form words ≡ None → audit_form words ≡ None
    → gen_form words ≡ None → serve_form words ≡ None → hooks_form words ≡ None
    → ((calling : Calling) → call_form words ≡ Some calling → Calls told.call calling old new status) → (form : Form)
    → form_of words ≡ Some form → Does told form old new status
does-call told words old new status no_replay no_audit no_gen no_serve no_hooks calls form is =
    does-of told old new status (call_form words) form
    (call-alone words form no_replay no_audit no_gen no_serve no_hooks is) calls
