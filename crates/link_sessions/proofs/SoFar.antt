-- A conversation so far, a piece more, and how the acts of a piece end it.
use Rattle.std.proofs.Common.{◌≡◌, ℕ, ◌+◌, ◌^◌, ◌≤◌, ◌<◌, All, ◌==◌, ◌&&◌, ◌||◌, Bool, true, false, List, []}
use Rattle.std.proofs.Common.{◌∷◌, ◌++◌, length, take, Option, None, Ok, refl, sym, ap, ◌∙◌, subst, arith}
use Rattle.std.proofs.Common.{append_assoc}
use Rattle.std.proofs.lemmas.List.{drop_at}
use Rattle.std.proofs.lemmas.List.Elements.{All-drop}
use Rattle.std.proofs.lemmas.Bool.Decides.{nat_tests}
use Rattle.std.specs.Io.KnownBytes.{Appends, Consumes}
use Rattle.std.proofs.KnownBytes.{Consumes-nil, Consumes-trans}
use Rattle.acct_machine.specs.State.{Start}
use Rattle.acct_machine.specs.declared.entry.Entry.{Entry}
use Rattle.rpc_session.specs.declared.sessions.Act.{Act}
use Rattle.rpc_session.specs.declared.sessions.Session.TheVariants.{Unbound}
use Rattle.rpc_session.specs.declared.hearing.Hearing.{Hearing}
use Rattle.rpc_session.specs.declared.hearing.Hearing.TheVariants.{Going}
use Rattle.rpc_session.specs.Sessions.{Heard, hear, on, joined, HasRoom, acts}
use Rattle.rpc_session.specs.Acts.{IsCutAnywhere, IsSoFar, IsFit, AllFit, IsRoomByLength}
use Rattle.acct_links.specs.Links.{Told, Reads, Sends}
use Rattle.link_sessions.specs.Turns.{HasNoCall}
use Rattle.link_sessions.specs.Sessions.{closing_of, Cause, IsConversation}
use Rattle.link_sessions.specs.steps.Talking.{Answers, Talks, StopsTalk}
use Rattle.link_sessions.specs.steps.SoFar.{SoFar, PieceEnds, end_of_stop}
use Rattle.link_sessions.specs.declared.ends.Stop.{Stop}
use Rattle.link_sessions.specs.declared.ends.Stop.TheVariants as stop
use Rattle.link_sessions.specs.declared.ends.SessionEnd.{SessionEnd}
use Rattle.link_sessions.specs.declared.ends.SessionEnd.TheVariants as end
use Rattle.link_sessions.proofs.Fronts.{front-then}
use Rattle.link_sessions.proofs.Results.{Appends-none, Appends-then}
use Rattle.link_sessions.proofs.Answering.{answers-none}
use Rattle.link_sessions.proofs.Talks.{answers-then, halts-later, halts-grow, rose-later}
use Rattle.link_sessions.proofs.Telling.{is-transcribed, halts-told}

-- ---- the acts of more bytes

more : IsCutAnywhere → (k : ℕ) (came piece : List ℕ)
    → hear k 0 Unbound (came ++ piece) ≡ joined (acts k came) (on (hear k 0 Unbound came).leaves piece)
more cut k came piece = cut (Going k 0 Unbound []) came piece

pub acts-more : IsCutAnywhere → (k : ℕ) (came piece : List ℕ) (hearing : Hearing)
    → hearing ≡ (hear k 0 Unbound came).leaves → acts k (came ++ piece) ≡ acts k came ++ (on hearing piece).acts
acts-more cut k came piece hearing is =
    ap (λ (x : Heard). x.acts) (more cut k came piece)
    ∙ ap (λ (h : Hearing). acts k came ++ (on h piece).acts) (sym is)

leaves-more : IsCutAnywhere → (k : ℕ) (came piece : List ℕ) (hearing : Hearing)
    → hearing ≡ (hear k 0 Unbound came).leaves → (on hearing piece).leaves ≡ (hear k 0 Unbound (came ++ piece)).leaves
leaves-more cut k came piece hearing is =
    ap (λ (h : Hearing). (on h piece).leaves) is ∙ sym (ap (λ (x : Heard). x.leaves) (more cut k came piece))

closing-then : (xs ys : List Act) → closing_of xs ≡ None → closing_of (xs ++ ys) ≡ closing_of ys
closing-then [] ys none = refl
closing-then (a ∷ []) [] none = none
closing-then (a ∷ []) (y ∷ ys) none = refl
closing-then (a ∷ b ∷ xs) ys none = closing-then (b ∷ xs) ys none

-- there is room for a piece, and its acts fit
pub piece-room : IsRoomByLength → (k : ℕ) (hearing : Hearing) (came piece : List ℕ)
    → hearing ≡ (hear k 0 Unbound came).leaves → length came + length piece < 2 ^ 64 → HasRoom hearing piece
piece-room room k hearing came piece is lt =
    room k came hearing (acts k came) piece (record { told = refl; stands = is }) lt

pub piece-fit : IsCutAnywhere → AllFit → (k : ℕ) (hearing : Hearing) (came piece : List ℕ)
    → hearing ≡ (hear k 0 Unbound came).leaves → All IsFit (on hearing piece).acts
piece-fit cut fit k hearing came piece is =
    let before = acts k came in
    let all = subst (λ (as' : List Act). All IsFit as') (acts-more cut k came piece hearing is)
    (fit k (came ++ piece)) in
    subst (λ (as' : List Act). All IsFit as') (drop_at before (on hearing piece).acts (length before) refl)
    (All-drop IsFit (length before) (before ++ (on hearing piece).acts) all)

-- ---- how it begins, and goes on

pub so-far-start : (start : Start) (k : ℕ) (h : List Entry) (told : Told) (hearing : Hearing) → told.ended ≡ false
    → IsSoFar k [] hearing [] → SoFar start k h h told told hearing []
so-far-start start k h told hearing going first = record {
  reads = Appends-none told.received;
  takes = Consumes-nil told.left;
  stands = first.stands;
  sent = [];
  sends = Appends-none told.sent;
  answers = subst (λ (as' : List Act). Answers start k as' h h []) first.told (answers-none start k h);
  open_still = ap closing_of (sym first.told);
  not_ended = going;
  read_faults = omega arith;
  write_faults = omega arith;
}

not-end : (n : ℕ) (b : Bool) → 0 < n → ((n == 0) && b) ≡ false
not-end n b lt = grind (arith, nat_tests)

or-false : (b : Bool) → (b || false) ≡ b
or-false true = refl
or-false false = refl

-- what was read, and that no read has answered the end
pub record Came (old new : Told) (piece : List ℕ) : Type 0 where
  pub received : Appends old.received new.received piece
  pub left : Consumes old.left new.left piece
  pub ended : new.ended ≡ old.ended
  pub sent : new.sent ≡ old.sent
  pub read_faults : old.read_faults ≤ new.read_faults
  pub write_faults : new.write_faults ≡ old.write_faults

pub came-some : {E : Type 0} (old new : Told) (n : ℕ) (buffer : List ℕ) → 0 < n → Reads {E = E} old new (Ok n) buffer
    → Came old new (take n buffer)
came-some old new n buffer lt reads = record {
  received = reads.received;
  left = reads.left.0;
  ended = reads.ended ∙ ap (λ b. old.ended || b) (not-end n _ lt) ∙ or-false old.ended;
  sent = reads.sent;
  read_faults = reads.cause.later;
  write_faults = reads.write_faults;
}

module _ (cut : IsCutAnywhere) (start : Start) (k : ℕ) (before now : List Entry) (old told mid : Told)
    (hearing : Hearing) (came piece : List ℕ) (s : SoFar start k before now old told hearing came)
    (c : Came told mid piece) where
  split : acts k (came ++ piece) ≡ acts k came ++ (on hearing piece).acts
  split = acts-more cut k came piece hearing s.stands

  read-all : (new : Told) (bytes : List ℕ) → Sends mid new bytes → Appends old.received new.received (came ++ piece)
  read-all new bytes sends =
      subst (λ (x : Option (List ℕ)). Appends old.received x (came ++ piece)) (sym sends.received)
      (Appends-then old.received told.received mid.received came piece s.reads c.received)

  taken-all : (new : Told) (bytes : List ℕ) → Sends mid new bytes → Consumes old.left new.left (came ++ piece)
  taken-all new bytes sends =
      subst (λ (x : Option (List ℕ)). Consumes old.left x (came ++ piece)) (sym sends.left)
      (Consumes-trans old.left told.left mid.left came piece s.takes c.left)

  sent-all : (new : Told) (bytes : List ℕ) → Sends mid new bytes → Appends old.sent new.sent (s.sent ++ bytes)
  sent-all new bytes sends =
      Appends-then old.sent mid.sent new.sent s.sent bytes
      (subst (λ (x : Option (List ℕ)). Appends old.sent x s.sent) (sym c.sent) s.sends) sends.sent

  going-still : (new : Told) (bytes : List ℕ) → Sends mid new bytes → new.ended ≡ false
  going-still new bytes sends = sends.ended ∙ c.ended ∙ s.not_ended

  answers-more : (next : List Entry) (bytes : List ℕ) → Answers start k (on hearing piece).acts now next bytes
      → Answers start k (acts k (came ++ piece)) before next (s.sent ++ bytes)
  answers-more next bytes answers =
      subst (λ (as' : List Act). Answers start k as' before next (s.sent ++ bytes)) (sym split)
      (answers-then start k (acts k came) (on hearing piece).acts before now next s.sent bytes s.answers answers)

  pub so-far-more : (new : Told) (next : List Entry) (later : Hearing)
      → Talks start k (on hearing piece).acts now next mid new → closing_of (on hearing piece).acts ≡ None
      → later ≡ (on hearing piece).leaves → SoFar start k before next old new later (came ++ piece)
  so-far-more new next later talks none left = record {
    reads = read-all new talks.bytes talks.sends;
    takes = taken-all new talks.bytes talks.sends;
    stands = left ∙ leaves-more cut k came piece hearing s.stands;
    sent = s.sent ++ talks.bytes;
    sends = sent-all new talks.bytes talks.sends;
    answers = answers-more next talks.bytes talks.answers;
    open_still = ap closing_of split ∙ closing-then (acts k came) (on hearing piece).acts s.open_still ∙ none;
    not_ended = going-still new talks.bytes talks.sends;
    read_faults = let one = s.read_faults in let two = c.read_faults in let three = talks.sends.read_faults in
        omega arith;
    write_faults = let one = s.write_faults in let two = talks.sends.later in let three = c.write_faults in omega arith;
  }

  -- ---- how the acts of a piece end it

  module _ (silent : HasNoCall start before k) (most : ℕ) (short : length (came ++ piece) ≤ most) (new : Told)
      (next : List Entry) where
    earlier : old.write_faults ≤ mid.write_faults
    earlier = let one = s.write_faults in let two = c.write_faults in omega arith

    stop-cause : (why : Stop) → (h : StopsTalk start k (on hearing piece).acts now next mid new why)
        → Cause (end_of_stop why) k most (came ++ piece) old new
    stop-cause stop.WriteFault h = (
      going-still new (h.bytes ++ h.last) h.sends,
      rose-later old.write_faults mid.write_faults new.write_faults earlier h.halts.failed,
    )
    stop-cause stop.NoMemory h = going-still new (h.bytes ++ h.last) h.sends
    stop-cause (stop.Full n) h = going-still new (h.bytes ++ h.last) h.sends

    pub piece-stops : (why : Stop) → StopsTalk start k (on hearing piece).acts now next mid new why
        → IsConversation start k most (end_of_stop why) old new before next
    piece-stops why h =
        let done = acts k came ++ h.done in
        let sent_is : s.sent ++ (h.bytes ++ h.last) ≡ (s.sent ++ h.bytes) ++ h.last =
        sym (append_assoc s.sent h.bytes h.last) in
        let parts : acts k (came ++ piece) ≡ done ++ h.rest =
        split
        ∙ ap (λ (l : List Act). acts k came ++ l) h.splits
        ∙ sym (append_assoc (acts k came) h.done h.rest) in record {
          grows = front-then before now next s.answers.grows
              (front-then now h.middle next h.answers.grows
              (halts-grow start k why h.rest h.middle next h.last mid new h.halts));
          came = came ++ piece;
          reads = read-all new (h.bytes ++ h.last) h.sends;
          takes = taken-all new (h.bytes ++ h.last) h.sends;
          within = short;
          sent = (s.sent ++ h.bytes) ++ h.last;
          sends = subst (λ (l : List ℕ). Appends old.sent new.sent l) sent_is
              (sent-all new (h.bytes ++ h.last) h.sends);
          transcript =
              halts-told start k before silent (came ++ piece) done h.rest h.middle next
              (s.sent ++ h.bytes) h.last parts
              (answers-then start k (acts k came) h.done before now h.middle s.sent h.bytes s.answers h.answers) why
              old new
              (halts-later start k why h.rest h.middle next h.last old mid new earlier h.halts);
          cause = stop-cause why h;
        }

    pub piece-ends : (answer : SessionEnd) → PieceEnds start k (on hearing piece).acts now next mid new answer
        → IsConversation start k most answer old new before next
    piece-ends end.End ends = absurd ends
    piece-ends end.ReadFault ends = absurd ends
    piece-ends (end.ByteLimit n) ends = absurd ends
    piece-ends end.WriteFault ends = piece-stops stop.WriteFault ends
    piece-ends end.NoMemory ends = piece-stops stop.NoMemory ends
    piece-ends (end.Full n) ends = piece-stops (stop.Full n) ends
    piece-ends (end.Closed place cause) ends =
        let talks = ends.0 in record {
          grows = front-then before now next s.answers.grows talks.answers.grows;
          came = came ++ piece;
          reads = read-all new talks.bytes talks.sends;
          takes = taken-all new talks.bytes talks.sends;
          within = short;
          sent = s.sent ++ talks.bytes;
          sends = sent-all new talks.bytes talks.sends;
          transcript = is-transcribed start k before silent (came ++ piece) (s.sent ++ talks.bytes) next
              (answers-more next talks.bytes talks.answers);
          cause = (
            going-still new talks.bytes talks.sends,
            ap closing_of split ∙ closing-then (acts k came) (on hearing piece).acts s.open_still ∙ ends.1,
          );
        }

-- ---- the acts of a piece

pub stops-piece : (start : Start) (k : ℕ) (as' : List Act) (before after : List Entry) (old new : Told) (why : Stop)
    → StopsTalk start k as' before after old new why → PieceEnds start k as' before after old new (end_of_stop why)
stops-piece start k as' before after old new stop.WriteFault stops = stops
stops-piece start k as' before after old new (stop.Full n) stops = stops
stops-piece start k as' before after old new stop.NoMemory stops = stops
