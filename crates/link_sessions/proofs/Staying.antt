-- What was said of a conversation stays as it is in each history that goes on from it and has the same calls of the
-- connection, with the same replies.
use Rattle.std.proofs.Common.{◌≡◌, ℕ, List, ◌∷◌, [], ◌++◌, ◌⊎◌, inl, inr, take, sym, ap, ◌∙◌, Bool, true, false}
use Rattle.acct_calls.specs.declared.calls.Call.{Call}
use Rattle.acct_calls.specs.declared.replies.Reply.{Reply}
use Rattle.acct_machine.specs.State.{Start}
use Rattle.acct_machine.specs.declared.entry.Entry.{Entry}
use Rattle.acct_machine.specs.Legal.{calls_of, replies}
use Rattle.rpc_session.specs.declared.sessions.Act.{Act}
use Rattle.rpc_session.specs.Sessions.{acts}
use Rattle.acct_keeper.specs.Faults.{Rose}
use Rattle.acct_links.specs.Links.{Told}
use Rattle.link_sessions.specs.Transcript.{written, transcript, busy_bytes, IsTranscribed, last_bytes, IsFrontOf}
use Rattle.link_sessions.specs.Sessions.{Transcript, IsConversation, IsCutShort, IsLeftOff, IsTurnedAway}
use Rattle.link_sessions.specs.declared.ends.SessionEnd.{SessionEnd}
use Rattle.link_sessions.specs.declared.ends.SessionEnd.TheVariants as end
use Rattle.link_sessions.proofs.Fronts.{front-then}

module _ (start : Start) (k : ℕ) (known after : List Entry) (grows : IsFrontOf known after)
    (same-calls : calls_of k after ≡ calls_of k known) (same-replies : replies start k after ≡ replies start k known)
    (came sent : List ℕ) where
  transcript-still : (xs : List Act) → transcript xs (replies start k known) ≡ transcript xs (replies start k after)
  transcript-still xs = ap (λ (l : List Reply). transcript xs l) (sym same-replies)

  whole-still : (full : Bool) → IsTranscribed start known k full came sent → IsTranscribed start after k full came sent
  whole-still full is = record {
    is = is.is ∙ ap (λ (l : List Reply). written (last_bytes full) (acts k came) l) (sym same-replies);
    outside = is.outside;
    calls = is.calls ∙ ap (λ (l : List (Call × ℕ)). l ++ is.outside) (sym same-calls);
    all = is.all;
  }

  behind-still : (xs : List Act) (front : List ℕ) → sent ≡ transcript xs (replies start k known) ++ front
      → sent ≡ transcript xs (replies start k after) ++ front
  behind-still xs front is = is ∙ ap (λ (l : List ℕ). l ++ front) (transcript-still xs)

  cut-still : IsCutShort start known k came sent → IsCutShort start after k came sent
  cut-still is = record {
    done = is.done;
    begun = is.begun;
    others = is.others;
    splits = is.splits;
    calls = same-calls ∙ is.calls;
    answer = is.answer;
    answered = sym (transcript-still (is.done ++ is.begun ∷ [])) ∙ is.answered
        ∙ ap (λ (l : List ℕ). l ++ is.answer) (transcript-still is.done);
    count = is.count;
    written = behind-still is.done (take is.count is.answer) is.written;
  }

  left-still : IsLeftOff start known k came sent → IsLeftOff start after k came sent
  left-still is = record {
    done = is.done;
    begun = is.begun;
    others = is.others;
    splits = is.splits;
    calls = same-calls ∙ is.calls;
    written = is.written ∙ transcript-still is.done;
  }

  turned-still : (n : ℕ) → IsTurnedAway start known k n came sent → IsTurnedAway start after k n came sent
  turned-still n is = record {
    done = is.done;
    asked = is.asked;
    others = is.others;
    splits = is.splits;
    call = is.call;
    decoded = is.decoded;
    calls = same-calls ∙ is.calls;
    found = is.found;
    front = front-then is.found known after is.front grows;
    had = is.had ∙ sym same-calls;
    full = is.full;
    count = is.count;
    written = behind-still is.done (take is.count (busy_bytes is.asked)) is.written;
  }

  full-still : (A : Type 0) → IsTranscribed start known k true came sent ⊎ A
      → IsTranscribed start after k true came sent ⊎ A
  full-still A (inl is) = inl (whole-still true is)
  full-still A (inr a) = inr a

  transcript-on : (answer : SessionEnd) (old new : Told) → Transcript answer start known k came sent old new
      → Transcript answer start after k came sent old new
  transcript-on end.End old new is = whole-still false is
  transcript-on (end.Closed place cause) old new is = whole-still false is
  transcript-on end.ReadFault old new is = whole-still false is
  transcript-on (end.ByteLimit n) old new is = whole-still false is
  transcript-on end.WriteFault old new is = cut-still is
  transcript-on end.NoMemory old new is = left-still is
  transcript-on (end.Full n) old new is =
      (turned-still n is.0, full-still (Rose old.write_faults new.write_faults) is.1)

pub conversation-stays : (start : Start) (k most : ℕ) (answer : SessionEnd) (old new : Told)
    (begun known after : List Entry) → IsFrontOf known after → calls_of k after ≡ calls_of k known
    → replies start k after ≡ replies start k known → IsConversation start k most answer old new begun known
    → IsConversation start k most answer old new begun after
conversation-stays start k most answer old new begun known after grows calls replied is = record {
  grows = front-then begun known after is.grows grows;
  came = is.came;
  reads = is.reads;
  takes = is.takes;
  within = is.within;
  sent = is.sent;
  sends = is.sends;
  transcript = transcript-on start k known after grows calls replied is.came is.sent answer old new is.transcript;
  cause = is.cause;
}
