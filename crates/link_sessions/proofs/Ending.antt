-- How a conversation ends without a piece, and that it stays as it is after the connection's end.
use Rattle.std.proofs.Common.{◌≡◌, ℕ, suc, ◌-◌, ◌≤◌, ◌<◌, get_or, ◌||◌, Bool, true, false, List, []}
use Rattle.std.proofs.Common.{◌∷◌, ◌++◌, length, Option, Ok, Err, refl, sym, ap, ◌∙◌}
use Rattle.std.proofs.Common.{subst, arith}
use Rattle.std.proofs.lemmas.List.{append-nil}
use Rattle.std.proofs.lemmas.Bool.Decides.{nat_tests}
use Rattle.std.specs.Io.KnownBytes.{Appends, Consumes}
use Rattle.std.proofs.KnownBytes.{Consumes-trans, Consumes-kept}
use Rattle.acct_machine.specs.State.{Start}
use Rattle.acct_machine.specs.declared.entry.Entry.{Entry}
use Rattle.acct_machine.specs.declared.entry.Entry.TheVariants.{Gone}
use Rattle.acct_machine.specs.Passing.{KeepsConnection}
use Rattle.acct_machine.specs.Shown.{Past}
use Rattle.rpc_session.specs.declared.sessions.Act.{Act}
use Rattle.rpc_session.specs.declared.hearing.Hearing.{Hearing}
use Rattle.acct_keeper.specs.Ends.{answers_end}
use Rattle.acct_links.specs.Links.{Told, Reads}
use Rattle.link_sessions.specs.Transcript.{IsTranscribed, IsFrontOf}
use Rattle.link_sessions.specs.Turns.{HasNoCall, Turn, MachineEnds}
use Rattle.link_sessions.specs.Sessions.{refusal_of, closing_of, Transcript, Cause, IsConversation, Ended}
use Rattle.link_sessions.specs.steps.SoFar.{SoFar}
use Rattle.link_sessions.specs.declared.ends.SessionEnd.{SessionEnd}
use Rattle.link_sessions.specs.declared.ends.SessionEnd.TheVariants as end
use Rattle.link_sessions.proofs.Fronts.{front-then}
use Rattle.link_sessions.proofs.Staying.{conversation-stays}
use Rattle.link_sessions.proofs.Results.{Appends-then, Appends-kept}
use Rattle.link_sessions.proofs.Talks.{rose-later}
use Rattle.link_sessions.proofs.Telling.{is-transcribed}

-- ---- without a piece

or-false : (b : Bool) → (b || false) ≡ b
or-false true = refl
or-false false = refl

module _ (start : Start) (k : ℕ) (before now : List Entry) (old told new : Told) (hearing : Hearing) (came : List ℕ)
    (most : ℕ) (silent : HasNoCall start before k) (s : SoFar start k before now old told hearing came)
    (short : length came ≤ most) where
  quiet-end : (answer : SessionEnd) → Appends old.received new.received came → Consumes old.left new.left came
      → new.sent ≡ told.sent
      → (IsTranscribed start now k false came s.sent → Transcript answer start now k came s.sent old new)
      → Cause answer k most came old new → IsConversation start k most answer old new before now
  quiet-end answer reads takes same whole cause = record {
    grows = s.answers.grows;
    came = came;
    reads = reads;
    takes = takes;
    within = short;
    sent = s.sent;
    sends = subst (λ (x : Option (List ℕ)). Appends old.sent x s.sent) (sym same) s.sends;
    transcript = whole (is-transcribed start k before silent came s.sent now s.answers);
    cause = cause;
  }

  pub read-fails : {E : Type 0} (e : E) (buffer : List ℕ) → Reads told new (Err e) buffer
      → IsConversation start k most end.ReadFault old new before now
  read-fails e buffer reads =
      quiet-end end.ReadFault (Appends-kept old.received told.received new.received came s.reads reads.received)
      (Consumes-kept old.left told.left new.left came s.takes reads.left) reads.sent (λ is. is) (
        reads.ended ∙ or-false told.ended ∙ s.not_ended,
        s.open_still,
        rose-later old.read_faults told.read_faults new.read_faults s.read_faults reads.cause.failed,
      )

  nothing-more : (a b c : Option (List ℕ)) (x : List ℕ) → Appends a b x → Appends b c [] → Appends a c x
  nothing-more a b c x p q = subst (λ (y : List ℕ). Appends a c y) (append-nil x) (Appends-then a b c x [] p q)

  pub read-ends : (E : Type 0) (buffer : List ℕ) → 0 < length buffer → Reads {E = E} told new (Ok 0) buffer
      → IsConversation start k most end.End old new before now
  read-ends E buffer room reads =
      quiet-end end.End
      (nothing-more old.received told.received new.received came s.reads
      (subst (λ (y : List ℕ). Appends told.received new.received y) refl reads.received))
      (subst (λ (y : List ℕ). Consumes old.left new.left y) (append-nil came)
      (Consumes-trans old.left told.left new.left came [] s.takes reads.left.0)) reads.sent (λ is. is) (
        reads.ended ∙ ap (λ b. b || answers_end {E = E} (Ok 0) buffer) s.not_ended ∙ grind (arith, nat_tests),
        s.open_still,
        reads.left.1 refl room,
      )

pub limit-ends : (start : Start) (k : ℕ) (before now : List Entry) (old told : Told) (hearing : Hearing)
    (came : List ℕ) (most : ℕ) → HasNoCall start before k → SoFar start k before now old told hearing came
    → length came ≡ most → IsConversation start k most (end.ByteLimit most) old told before now
limit-ends start k before now old told hearing came most silent s long = record {
  grows = s.answers.grows;
  came = came;
  reads = s.reads;
  takes = s.takes;
  within = omega arith;
  sent = s.sent;
  sends = s.sends;
  transcript = is-transcribed start k before silent came s.sent now s.answers;
  cause = (s.not_ended, s.open_still, refl, long);
}

-- ---- the last of acts

pub closing-at : (xs : List Act) (x : Act) → 0 < length xs → x ≡ get_or xs (length xs - 1) x
    → refusal_of x ≡ closing_of xs
closing-at [] x lt is = absurd (omega arith)
closing-at (a ∷ []) x lt is = ap refusal_of is
closing-at (a ∷ b ∷ xs) x lt is =
    let place : length (a ∷ b ∷ xs) - 1 ≡ suc (length (b ∷ xs) - 1) = omega arith in
    closing-at (b ∷ xs) x (omega arith) (is ∙ ap (λ n. get_or (a ∷ b ∷ xs) n x) place)

-- ---- the connection's end, and what was said before it

pub is-ended : (start : Start) (k : ℕ) (finds : List Entry → Type 0) (known left : List Entry)
    → ((found : List Entry) → finds found → KeepsConnection start k known found)
    → ((found : List Entry) → finds found → IsFrontOf known found) → Turn finds (MachineEnds start k) left
    → Ended start k known left
is-ended start k finds known left passes fronts turn =
    let passed = passes turn.found turn.finds_it in
    let same = turn.does_it.calls in
    let gone : left ≡ turn.found ++ Gone k ∷ [] = ap (λ (m : Past). m.history) turn.does_it.ends in record {
      grows = front-then known turn.found left (fronts turn.found turn.finds_it) (Gone k ∷ [], gone);
      calls = same.calls k ∙ passed.calls;
      replied = same.replies k ∙ passed.replies;
      before = turn.found;
      gone = gone;
      legal = turn.does_it.legal;
    }

pub conversation-on : (start : Start) (k most : ℕ) (answer : SessionEnd) (old new : Told)
    (begun known after : List Entry) → Ended start k known after
    → IsConversation start k most answer old new begun known → IsConversation start k most answer old new begun after
conversation-on start k most answer old new begun known after e is =
    conversation-stays start k most answer old new begun known after e.grows e.calls e.replied is
