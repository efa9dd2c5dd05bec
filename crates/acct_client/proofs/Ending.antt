-- How a dialogue goes on and ends, by what the calls of a client promise.
use Rattle.std.proofs.Common.{◌≡◌, ◌≢◌, ℕ, ◌+◌, ◌≤◌, ◌<◌, Bool, true, false, not, List, [], ◌++◌, length, Some, None}
use Rattle.std.proofs.Common.{refl, sym, ap, subst, ◌∙◌, append_assoc, arith, inl, inr}
use Rattle.std.proofs.lemmas.Bool.{true≢false}
use Rattle.std.proofs.lemmas.List.{append-nil}
use Rattle.rpc_pdu.specs.Laws.{IsStable}
use Rattle.acct_keeper.specs.Faults.{Rose}
use Rattle.acct_links.specs.Links.{Told}
use Rattle.client_commands.specs.declared.command.Command.{Command}
use Rattle.acct_client.specs.declared.dialogue.State.{State}
use Rattle.acct_client.specs.declared.dialogue.State.TheVariants.{Binding, Calling, Ended, Failed}
use Rattle.acct_client.specs.declared.dialogue.Talk.{Talk}
use Rattle.acct_client.specs.declared.errors.AskError.{AskError}
use Rattle.acct_client.specs.declared.errors.AskError.TheVariants as error
use Rattle.acct_client.specs.Askers.{IsFailed, IsTaken}
use Rattle.acct_client.specs.Dialogues.{asked, awaits, is_failed, progress, sent, took}
use Rattle.acct_client.specs.Hearings.{IsCutAnywhere}
use Rattle.acct_client.specs.Runs.{Comes, IsHeard, IsKept, more}
use Rattle.acct_client.specs.Talks.{spoken, requested, EndsBy, IsBegun, LinesBy, Talks, most_read}
use Rattle.acct_client.specs.steps.Parts.{AsksBy, HeardEnd, IsPieceRead, IsUnread, LinkSoFar, Moves, NoPiece, SentSoFar}
use Rattle.acct_client.specs.steps.Parts.{Stands, TalkEnds, TalkSoFar, Waits, end_of_error, steps_left, to_send}
use Rattle.acct_client.specs.declared.ends.TalkEnd.{TalkEnd}
use Rattle.acct_client.specs.declared.ends.TalkEnd.TheVariants as ends
use Rattle.acct_client.proofs.Listened.{next_sends, none_sends, sends_none, sends_some, took_awaits, took_sends}
use Rattle.acct_client.proofs.Listened.{waits_sends}
use Rattle.acct_client.proofs.Moving.{moves_progress, took_is}
use Rattle.acct_client.proofs.Sending.{Appends-none, Consumes-none, reads-piece, sends-by, sends-request}

-- ---- a piece is heard

-- what is to be sent in all, from what is still to be sent
asked-all : (command : Command) (t : Talk) (received bytes later : List ℕ) → TalkSoFar command t received bytes
    → requested command (received ++ later) ≡ bytes ++ to_send (more t later)
asked-all command t received bytes later s = s.asks later

nothing-more : (command : Command) (t : Talk) (received bytes later : List ℕ) → TalkSoFar command t received bytes
    → to_send (more t later) ≡ [] → requested command (received ++ later) ≡ bytes
nothing-more command t received bytes later s none =
    s.asks later ∙ ap (λ (x : List ℕ). bytes ++ x) none ∙ append-nil bytes

pub heard-on : IsCutAnywhere → (command : Command) (t new : Talk) (b received bytes : List ℕ) (whole : Bool)
    → t.is_awaiting ≡ true → TalkSoFar command t received bytes → IsTaken whole t new b → IsHeard whole t new b
    → TalkSoFar command new (received ++ b) bytes
heard-on cut command t new b received bytes whole waiting s taken heard =
    let on_it : awaits t.state ≡ true = s.awaiting waiting in record {
      asks = λ later.
          ap (requested command) (append_assoc received b later)
          ∙ s.asks (b ++ later)
          ∙ ap (λ (x : List ℕ). bytes ++ x) (took_sends cut t b later waiting on_it)
          ∙ ap (λ (u : Talk). bytes ++ to_send (more u later)) (sym taken.dialogue);
      heard = heard.goes command received s.heard;
      going = taken.going;
      awaiting = λ still.
          ap (λ (u : Talk). awaits u.state) taken.dialogue
          ∙ took_awaits t b on_it (ap (λ (u : Talk). u.is_awaiting) (sym taken.dialogue) ∙ still);
    }

not-false : (w a : Bool) → w ≡ not a → w ≡ false → a ≡ true
not-false w true e f = refl
not-false w false e f = absurd (true≢false (sym e ∙ f))

not-whole : (w a : Bool) → w ≡ not a → a ≡ not w
not-whole w true e = ap not (sym e)
not-whole w false e = ap not (sym e)

pub whole-is : (t new : Talk) (b : List ℕ) (whole : Bool) → IsTaken whole t new b → new.is_awaiting ≡ not whole
whole-is t new b whole taken = not-whole whole new.is_awaiting taken.answer

pub heard-all : IsCutAnywhere → (command : Command) (t new : Talk) (b received bytes : List ℕ) (whole : Bool)
    → t.is_awaiting ≡ true → TalkSoFar command t received bytes → IsTaken whole t new b → IsHeard whole t new b
    → whole ≡ false → Waits command new (received ++ b) bytes
heard-all cut command t new b received bytes whole waiting s taken heard not_yet =
    let still : new.is_awaiting ≡ true = not-false whole new.is_awaiting taken.answer not_yet in record {
      spoken = heard.waits not_yet command received s.heard;
      awaiting = still;
      all = nothing-more command t received bytes b s
          (waits_sends t b waiting (s.awaiting waiting)
          (ap (λ (u : Talk). u.is_awaiting) (sym taken.dialogue) ∙ still));
    }

-- nothing is sent after an error
failed-sends : IsCutAnywhere → (t new : Talk) (b : List ℕ) (e : AskError) → t.is_awaiting ≡ true
    → awaits t.state ≡ true → new ≡ took t b → new.is_awaiting ≡ false → new.state ≡ Failed e
    → to_send (more t b) ≡ []
failed-sends cut t new b e waiting on_it same idle state =
    ap (λ (x : List ℕ). to_send (more t x)) (sym (append-nil b))
    ∙ took_sends cut t b [] waiting on_it
    ∙ ap (λ (u : Talk). to_send (more u [])) (sym same)
    ∙ none_sends new [] idle (ap awaits state)

ended-by : IsCutAnywhere → (command : Command) (t new : Talk) (b received bytes : List ℕ) (e : AskError)
    → t.is_awaiting ≡ true → TalkSoFar command t received bytes → IsFailed e t new b → e ≢ error.Memory
    → (e ≢ error.Memory → Comes t new b)
    → (new ≡ spoken command (received ++ b)) × (requested command (received ++ b) ≡ bytes)
ended-by cut command t new b received bytes e waiting s failed other comes = (
  comes other command received s.heard,
  nothing-more command t received bytes b s
      (failed-sends cut t new b e waiting (s.awaiting waiting) (failed.cause other) failed.awaiting failed.state),
)

state-is : (command : Command) (new : Talk) (received : List ℕ) (e : AskError) → new ≡ spoken command received
    → new.state ≡ Failed e → (spoken command received).state ≡ Failed e
state-is command new received e same state = ap (λ (u : Talk). u.state) (sym same) ∙ state

pub heard-ends : IsCutAnywhere → (command : Command) (t new : Talk) (b received bytes : List ℕ) (e : AskError)
    → t.is_awaiting ≡ true → TalkSoFar command t received bytes → IsFailed e t new b
    → (e ≢ error.Memory → Comes t new b) → TalkEnds command (end_of_error e) (received ++ b) bytes new.lines
heard-ends cut command t new b received bytes error.Usage waiting s failed comes = record {
  ends = tt;
  asks = (to_send (more t b), s.asks b);
  lines = tt;
}
heard-ends cut command t new b received bytes error.Memory waiting s failed comes = record {
  ends = tt;
  asks = (to_send (more t b), s.asks b);
  lines = tt;
}
heard-ends cut command t new b received bytes (error.PeerBytes place) waiting s failed comes =
    let both = ended-by cut command t new b received bytes (error.PeerBytes place) waiting s failed (λ x. cc) comes in
    record {
      ends = state-is command new (received ++ b) (error.PeerBytes place) both.0 failed.state;
      asks = both.1;
      lines = ap (λ (u : Talk). u.lines) both.0;
    }
heard-ends cut command t new b received bytes (error.PeerFault status) waiting s failed comes =
    let both = ended-by cut command t new b received bytes (error.PeerFault status) waiting s failed (λ x. cc) comes in
    record {
      ends = inr (state-is command new (received ++ b) (error.PeerFault status) both.0 failed.state);
      asks = both.1;
      lines = ap (λ (u : Talk). u.lines) both.0;
    }
heard-ends cut command t new b received bytes (error.Refused status) waiting s failed comes =
    let both = ended-by cut command t new b received bytes (error.Refused status) waiting s failed (λ x. cc) comes in
    record {
      ends = inl (state-is command new (received ++ b) (error.Refused status) both.0 failed.state);
      asks = both.1;
      lines = ap (λ (u : Talk). u.lines) both.0;
    }

whole-idle : (w a : Bool) → w ≡ not a → w ≡ true → a ≡ false
whole-idle w true e f = absurd (true≢false (sym f ∙ e))
whole-idle w false e f = refl

pub heard-moves : IsStable → (command : Command) (t new : Talk) (b received bytes : List ℕ) (whole : Bool)
    → t.is_awaiting ≡ true → TalkSoFar command t received bytes → IsTaken whole t new b → Moves whole t new
heard-moves stable command t new b received bytes whole waiting s taken =
    let same : new ≡ _ = taken.dialogue ∙ took_is t b (s.awaiting waiting) in
    let moves = moves_progress stable t.state t.left b
    (ap (λ (u : Talk). is_failed u.state) (sym same) ∙ taken.going) in
    let to_new : (progress t.state t.left b).left ≡ new.left = ap (λ (u : Talk). u.left) (sym same) in
    record {
      kept = subst (λ l. t.left.place ≤ l.place) to_new moves.0;
      goes = λ is_whole. subst (λ l. t.left.place < l.place) to_new
          (moves.1 (ap (λ (u : Talk). u.is_awaiting) (sym same)
          ∙ whole-idle whole new.is_awaiting taken.answer is_whole));
    }

-- ---- a request is made

pub asked-on : IsStable → (command : Command) (t new : Talk) (b received bytes : List ℕ) → t.is_awaiting ≡ false
    → TalkSoFar command t received bytes → sent t.state ≡ Some b → new ≡ asked t → IsKept (Some b) t new
    → TalkSoFar command new received (bytes ++ b)
asked-on stable command t new b received bytes idle s sends same kept = record {
  asks = λ later.
      s.asks later
      ∙ ap (λ (x : List ℕ). bytes ++ x) (next_sends stable t b later idle sends)
      ∙ sym (append_assoc bytes b (to_send (more (asked t) later)))
      ∙ ap (λ (u : Talk). (bytes ++ b) ++ to_send (more u later)) (sym same);
  heard = kept command received s.heard;
  going = ap (λ (u : Talk). is_failed u.state) same ∙ s.going;
  awaiting = λ still. ap (λ (u : Talk). awaits u.state) same ∙ sends_some t.state b sends;
}

pub asked-awaits : (t new : Talk) (b : List ℕ) → sent t.state ≡ Some b → new ≡ asked t → new.is_awaiting ≡ true
asked-awaits t new b sends same = ap (λ (u : Talk). u.is_awaiting) same ∙ sends_some t.state b sends

ended-state : (s : State) → is_failed s ≡ false → awaits s ≡ false → s ≡ Ended
ended-state (Binding command) going idle = absurd (true≢false idle)
ended-state (Calling step id size) going idle = absurd (true≢false idle)
ended-state Ended going idle = refl
ended-state (Failed e) going idle = absurd (true≢false going)

to-nil : (command : Command) (received bytes x : List ℕ) → requested command (received ++ []) ≡ bytes ++ x
    → requested command received ≡ bytes ++ x
to-nil command received bytes x e = ap (requested command) (sym (append-nil received)) ∙ e

-- ---- ends

talks-by : (command : Command) (end : TalkEnd) (old now : Told) (room : ℕ) (cut : Bool) (received bytes lines : List ℕ)
    → LinkSoFar old now room cut received bytes → AsksBy end bytes (requested command received)
    → LinesBy end lines (spoken command received).lines
    → EndsBy end (spoken command received) (length received) old now → Talks command end old now lines
talks-by command end old now room cut received bytes lines l asks printed e = record {
  received = received;
  appended = l.appended;
  consumed = l.consumed;
  within = omega (arith, l.room);
  reads = l.reads;
  writes = l.writes;
  sent = sends-by end cut old now bytes (requested command received) asks l.sent;
  lines = printed;
  ends = e;
}

ends-heard : (end : TalkEnd) (t : Talk) (count : ℕ) (old now : Told) → HeardEnd end t → EndsBy end t count old now
ends-heard ends.Done t count old now h = absurd h
ends-heard ends.NoMemory t count old now h = tt
ends-heard (ends.PeerBytes place) t count old now h = h
ends-heard ends.PeerFault t count old now h = absurd h
ends-heard ends.InputTooLong t count old now h = absurd h
ends-heard (ends.Refused status) t count old now h = h

-- the peer's bytes brought the end
pub talks-heard : (command : Command) (end : TalkEnd) (old now : Told) (room : ℕ) (cut : Bool)
    (received bytes lines : List ℕ) → LinkSoFar old now room cut received bytes
    → TalkEnds command end received bytes lines → Talks command end old now lines
talks-heard command end old now room cut received bytes lines l t =
    talks-by command end old now room cut received bytes lines l t.asks t.lines
    (ends-heard end (spoken command received) (length received) old now t.ends)

-- nothing is left to be asked
pub talks-done : (command : Command) (t new : Talk) (old now : Told) (room : ℕ) (cut : Bool) (received bytes : List ℕ)
    → t.is_awaiting ≡ false → TalkSoFar command t received bytes → LinkSoFar old now room cut received bytes
    → sent t.state ≡ None → new ≡ asked t → IsKept None t new → Talks command ends.Done old now new.lines
talks-done command t new old now room cut received bytes idle s l none same kept =
    let off : awaits t.state ≡ false = sends_none t.state none in
    let all : new ≡ spoken command received = kept command received s.heard in
    talks-by command ends.Done old now room cut received bytes new.lines l
    (to-nil command received bytes [] (s.asks [] ∙ ap (λ (x : List ℕ). bytes ++ x) (none_sends t [] idle off))
    ∙ append-nil bytes)
    (ap (λ (u : Talk). u.lines) all)
    (ap (λ (u : Talk). u.state) (sym all) ∙ ap (λ (u : Talk). u.state) same ∙ ended-state t.state s.going off)

-- memory ran out for a request
pub talks-lost : (command : Command) (t : Talk) (old now : Told) (room : ℕ) (cut : Bool) (received bytes lines : List ℕ)
    → TalkSoFar command t received bytes → LinkSoFar old now room cut received bytes
    → Talks command ends.NoMemory old now lines
talks-lost command t old now room cut received bytes lines s l =
    talks-by command ends.NoMemory old now room cut received bytes lines l
    (to_send (more t []), to-nil command received bytes (to_send (more t [])) (s.asks [])) tt tt

cut-rose : (cut : Bool) (old now : Told) (bytes : List ℕ) → cut ≡ true → SentSoFar cut old now bytes
    → Rose old.write_faults now.write_faults
cut-rose true old now bytes e s = s.3
cut-rose false old now bytes e s = absurd (true≢false (sym e))

rises : (old now new : Told) → old.read_faults ≤ now.read_faults → Rose now.read_faults new.read_faults
    → Rose old.read_faults new.read_faults
rises old now new le rose = omega (arith, le, rose)

-- no piece was read
pub talks-unheard : (command : Command) (end : TalkEnd) (t : Talk) (old now new : Told) (room : ℕ) (cut : Bool)
    (received bytes : List ℕ) → Waits command t received bytes → LinkSoFar old now room cut received bytes
    → IsPieceRead now new [] → NoPiece end room cut now new → Talks command end old new t.lines
talks-unheard command ends.Done t old now new room cut received bytes w l p n = absurd n
talks-unheard command ends.NoMemory t old now new room cut received bytes w l p n = absurd n
talks-unheard command (ends.PeerBytes place) t old now new room cut received bytes w l p n = absurd n
talks-unheard command (ends.Refused status) t old now new room cut received bytes w l p n = absurd n
talks-unheard command ends.InputTooLong t old now new room cut received bytes w l p n =
    let l' : LinkSoFar old new room cut received bytes =
    subst (λ (x : List ℕ). LinkSoFar old new room cut x bytes) (append-nil received)
    (reads-piece old now new room room cut received bytes [] (omega arith) l p) in
    talks-by command ends.InputTooLong old new room cut received bytes t.lines l' w.all
    (ap (λ (u : Talk). u.lines) w.spoken)
    (ap (λ (u : Talk). u.is_awaiting) (sym w.spoken) ∙ w.awaiting, omega (arith, l.room, n))
talks-unheard command ends.PeerFault t old now new room cut received bytes w l p n =
    let l' : LinkSoFar old new room cut received bytes =
    subst (λ (x : List ℕ). LinkSoFar old new room cut x bytes) (append-nil received)
    (reads-piece old now new room room cut received bytes [] (omega arith) l p) in
    talks-by command ends.PeerFault old new room cut received bytes t.lines l' w.all
    (ap (λ (u : Talk). u.lines) w.spoken) (
      ap (λ (u : Talk). u.is_awaiting) (sym w.spoken) ∙ w.awaiting,
      omega (arith, l.room, n.0),
      elim n.1 [
        | inl is_cut ↦ inl (inr (cut-rose cut old new bytes is_cut l'.sent))
        | inr other ↦ elim other [
          | inl rose ↦ inl (inl (rises old now new l.reads rose))
          | inr ended ↦ inr ended
        ]
      ],
    )

-- ---- steps

-- a dialogue that has neither sent nor heard
pub begun-stands : (command : Command) (t : Talk) (told : Told) → IsBegun command t
    → Stands command told told t most_read false true
begun-stands command t told e = record {
  received = [];
  bytes = [];
  dialogue = subst (λ (u : Talk). TalkSoFar command u [] []) (sym e) (record {
    asks = λ later. refl;
    heard = refl;
    going = refl;
    awaiting = λ still. absurd (true≢false (sym still));
  });
  link = record {
    appended = Appends-none told.received;
    consumed = Consumes-none told.left;
    room = refl;
    reads = omega arith;
    writes = omega arith;
    sent = Appends-none told.sent;
  };
  waits = λ not_yet. absurd (true≢false not_yet);
}

-- a piece was read and heard
pub heard-stands : (command : Command) (old now new : Told) (t t' : Talk) (room room' : ℕ) (cut whole : Bool)
    (piece : List ℕ) → Stands command old now t room cut false → IsPieceRead now new piece
    → room' + length piece ≡ room
    → ((received bytes : List ℕ) → TalkSoFar command t received bytes
    → TalkSoFar command t' (received ++ piece) bytes)
    → ((received bytes : List ℕ) → TalkSoFar command t received bytes → whole ≡ false
    → Waits command t' (received ++ piece) bytes)
    → Stands command old new t' room' cut whole
heard-stands command old now new t t' room room' cut whole piece s read less heard waits = record {
  received = s.received ++ piece;
  bytes = s.bytes;
  dialogue = heard s.received s.bytes s.dialogue;
  link = reads-piece old now new room room' cut s.received s.bytes piece less s.link read;
  waits = waits s.received s.bytes s.dialogue;
}

-- a piece was read, and what it brought ended the dialogue
pub heard-talks : (command : Command) (end : TalkEnd) (old now new : Told) (t : Talk) (room room' : ℕ) (cut : Bool)
    (piece lines : List ℕ) → Stands command old now t room cut false → IsPieceRead now new piece
    → room' + length piece ≡ room
    → ((received bytes : List ℕ) → TalkSoFar command t received bytes
    → TalkEnds command end (received ++ piece) bytes lines)
    → Talks command end old new lines
heard-talks command end old now new t room room' cut piece lines s read less ends =
    talks-heard command end old new room' cut (s.received ++ piece) s.bytes lines
    (reads-piece old now new room room' cut s.received s.bytes piece less s.link read)
    (ends s.received s.bytes s.dialogue)

-- a request was made, and what came early was heard
pub record Asked (t u : Talk) (now new : Told) (cut cut' : Bool) (b : List ℕ) : Type 0 where
  pub idle : t.is_awaiting ≡ false
  pub sends : sent t.state ≡ Some b
  pub same : u ≡ asked t
  pub kept : IsKept (Some b) t u
  pub unread : IsUnread now new
  pub sent : (old : Told) (before : List ℕ) → old.write_faults ≤ now.write_faults → SentSoFar cut old now before
      → SentSoFar cut' old new (before ++ b)

pub asked-dialogue : IsStable → (command : Command) (old now new : Told) (t u : Talk) (room : ℕ) (cut cut' : Bool)
    (b : List ℕ) (s : Stands command old now t room cut true) → Asked t u now new cut cut' b
    → TalkSoFar command u s.received (s.bytes ++ b)
asked-dialogue stable command old now new t u room cut cut' b s a =
    asked-on stable command t u b s.received s.bytes a.idle s.dialogue a.sends a.same a.kept

asked-link : (command : Command) (old now new : Told) (t u : Talk) (room : ℕ) (cut cut' : Bool) (b : List ℕ)
    (s : Stands command old now t room cut true) → Asked t u now new cut cut' b
    → LinkSoFar old new room cut' s.received (s.bytes ++ b)
asked-link command old now new t u room cut cut' b s a =
    sends-request old now new room cut cut' s.received s.bytes b s.link a.unread
    (a.sent old s.bytes s.link.writes s.link.sent)

pub asked-stands : IsStable → (command : Command) (old now new : Told) (t u t' : Talk) (room : ℕ)
    (cut cut' whole : Bool) (b : List ℕ) → Stands command old now t room cut true
    → Asked t u now new cut cut' b
    → ((received bytes : List ℕ) → TalkSoFar command u received bytes
    → TalkSoFar command t' (received ++ []) bytes)
    → ((received bytes : List ℕ) → TalkSoFar command u received bytes → whole ≡ false
    → Waits command t' (received ++ []) bytes)
    → Stands command old new t' room cut' whole
asked-stands stable command old now new t u t' room cut cut' whole b s a heard waits =
    let so_far = asked-dialogue stable command old now new t u room cut cut' b s a in record {
      received = s.received;
      bytes = s.bytes ++ b;
      dialogue = subst (λ (x : List ℕ). TalkSoFar command t' x (s.bytes ++ b)) (append-nil s.received)
          (heard s.received (s.bytes ++ b) so_far);
      link = asked-link command old now new t u room cut cut' b s a;
      waits = λ not_yet. subst (λ (x : List ℕ). Waits command t' x (s.bytes ++ b)) (append-nil s.received)
          (waits s.received (s.bytes ++ b) so_far not_yet);
    }

pub asked-talks : IsStable → (command : Command) (end : TalkEnd) (old now new : Told) (t u : Talk) (room : ℕ)
    (cut cut' : Bool) (b lines : List ℕ) → Stands command old now t room cut true
    → Asked t u now new cut cut' b
    → ((received bytes : List ℕ) → TalkSoFar command u received bytes
    → TalkEnds command end (received ++ []) bytes lines)
    → Talks command end old new lines
asked-talks stable command end old now new t u room cut cut' b lines s a ends =
    talks-heard command end old new room cut' s.received (s.bytes ++ b) lines
    (asked-link command old now new t u room cut cut' b s a)
    (subst (λ (x : List ℕ). TalkEnds command end x (s.bytes ++ b) lines) (append-nil s.received)
    (ends s.received (s.bytes ++ b) (asked-dialogue stable command old now new t u room cut cut' b s a)))

-- ---- what is left to be done

pub listen-less : (room room' : ℕ) (t t' : Talk) (whole : Bool) → room' < room → Moves whole t t'
    → steps_left room' t' whole < steps_left room t false
listen-less room room' t t' true lt m = omega (arith, lt, m.kept)
listen-less room room' t t' false lt m = omega (arith, lt, m.kept)

pub ask-less : (room : ℕ) (t u t' : Talk) (whole : Bool) → u ≡ asked t → t.left.place ≤ most_read → Moves whole u t'
    → steps_left room t' whole < steps_left room t true
ask-less room t u t' true same le m =
    let place : u.left.place ≡ t.left.place = ap (λ (x : Talk). x.left.place) same in
    let goes : u.left.place < t'.left.place = m.goes refl in omega (arith, le, place, goes)
ask-less room t u t' false same le m =
    let place : u.left.place ≡ t.left.place = ap (λ (x : Talk). x.left.place) same in
    omega (arith, le, place, m.kept)
