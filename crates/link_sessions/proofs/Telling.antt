-- What was sent in all is the transcript of what came, whole or up to an act, on a connection that had no call.
use Rattle.std.proofs.Common.{◌≡◌, ℕ, true, false, List, [], ◌∷◌, ◌++◌, ◌⊎◌, inl, inr, length, take, refl}
use Rattle.std.proofs.Common.{sym, ◌∙◌, ap}
use Rattle.std.proofs.lemmas.List.{append-nil}
use Rattle.acct_calls.specs.declared.calls.Call.{Call}
use Rattle.acct_calls.specs.declared.replies.Reply.{Reply}
use Rattle.acct_machine.specs.State.{Start}
use Rattle.acct_machine.specs.declared.entry.Entry.{Entry}
use Rattle.acct_machine.specs.Legal.{replies, calls_of}
use Rattle.rpc_session.specs.declared.sessions.Act.{Act}
use Rattle.rpc_session.specs.Sessions.{listed, acts}
use Rattle.acct_keeper.specs.Faults.{Rose}
use Rattle.acct_links.specs.Links.{Told}
use Rattle.link_sessions.specs.Transcript.{written, transcript, decoded_calls, no_bytes, busy_bytes, IsTranscribed}
use Rattle.link_sessions.specs.Turns.{HasNoCall}
use Rattle.rpc_session.specs.declared.sessions.Act.TheVariants as act
use Rattle.link_sessions.specs.steps.Talking.{Answers, Halts, IsCut, IsWanting, IsFull}
use Rattle.link_sessions.specs.Sessions.{IsCutShort, IsLeftOff, IsTurnedAway, Transcript}
use Rattle.link_sessions.specs.steps.SoFar.{end_of_stop}
use Rattle.link_sessions.specs.declared.ends.Stop.{Stop}
use Rattle.link_sessions.specs.declared.ends.Stop.TheVariants as stop
use Rattle.link_sessions.proofs.Transcripts.{decoded-then, written-then, transcript-more, request-last}

-- ---- the calls and replies of acts, on a connection that had none

-- acts, and more acts after them
pub record Parted (start : Start) (k : ℕ) (after : List Entry) (done more : List Act) (x y : List ℕ) : Type 0 where
  pub calls : calls_of k after ≡ decoded_calls (done ++ more)
  pub first : x ≡ transcript done (replies start k after)
  pub both : transcript (done ++ more) (replies start k after) ≡ transcript done (replies start k after) ++ y

module _ (start : Start) (k : ℕ) (before : List Entry) (silent : HasNoCall start before k) where
  first-calls : (xs : List Act) (after : List Entry) (x : List ℕ) → Answers start k xs before after x
      → calls_of k after ≡ decoded_calls xs
  first-calls xs after x answers = answers.calls ∙ ap (λ (l : List (Call × ℕ)). l ++ decoded_calls xs) silent.calls

  first-replies : (xs : List Act) (after : List Entry) (x : List ℕ) → (a : Answers start k xs before after x)
      → replies start k after ≡ a.given
  first-replies xs after x a = a.replied ∙ ap (λ (l : List Reply). l ++ a.given) silent.replies

  parted : (done more : List Act) (middle after : List Entry) (x y : List ℕ) → Answers start k done before middle x
      → Answers start k more middle after y → Parted start k after done more x y
  parted done more middle after x y one two =
      let given : replies start k after ≡ one.given ++ two.given =
      two.replied ∙ ap (λ (l : List Reply). l ++ two.given) (first-replies done middle x one) in
      let alone : transcript done (replies start k after) ≡ transcript done one.given =
      ap (λ (l : List Reply). transcript done l) given ∙ transcript-more done one.given two.given one.each in record {
        calls =
            two.calls
            ∙ ap (λ (l : List (Call × ℕ)). l ++ decoded_calls more) (first-calls done middle x one)
            ∙ sym (decoded-then done more);
        first = one.bytes_are ∙ sym alone;
        both =
            ap (λ (l : List Reply). transcript (done ++ more) l) given
            ∙ written-then no_bytes done more one.given two.given one.each
            ∙ ap (λ (l : List ℕ). transcript done one.given ++ l) (sym two.bytes_are)
            ∙ ap (λ (l : List ℕ). l ++ y) (sym alone);
      }

  -- ---- all acts were answered

  pub is-transcribed : (came sent : List ℕ) (after : List Entry) → Answers start k (acts k came) before after sent
      → IsTranscribed start after k false came sent
  is-transcribed came sent after answers = record {
    is = answers.bytes_are ∙ ap (λ (l : List Reply). transcript (acts k came) l)
        (sym (first-replies (acts k came) after sent answers));
    outside = [];
    calls = sym (first-calls (acts k came) after sent answers) ∙ sym (append-nil (calls_of k after));
    all = λ none. refl;
  }

  -- ---- one wasn't

  module _ (came : List ℕ) (done rest : List Act) (middle after : List Entry) (x last : List ℕ)
      (splits : acts k came ≡ done ++ rest) (answers : Answers start k done before middle x) where
    rest-is : (ys : List Act) → rest ≡ ys → acts k came ≡ done ++ ys
    rest-is ys is = splits ∙ ap (λ (l : List Act). done ++ l) is

    front-is : (more : List Act) (y front : List ℕ) → Answers start k more middle after y → last ≡ front
        → x ++ last ≡ transcript done (replies start k after) ++ front
    front-is more y front two is =
        ap (λ (l : List ℕ). l ++ last) (parted done more middle after x y answers two).first
        ∙ ap (λ (l : List ℕ). transcript done (replies start k after) ++ l) is

    is-cut-short : (old new : Told) → IsCut start k rest middle after last old new
        → IsCutShort start after k came (x ++ last)
    is-cut-short old new cut =
        let parts = parted done (cut.begun ∷ []) middle after x cut.answer answers cut.answers in record {
          done = done;
          begun = cut.begun;
          others = cut.others;
          splits = rest-is (cut.begun ∷ cut.others) cut.first;
          calls = parts.calls;
          answer = cut.answer;
          answered = parts.both;
          count = cut.count;
          written = front-is (cut.begun ∷ []) cut.answer (take cut.count cut.answer) cut.answers cut.written;
        }

    is-left-off : IsWanting start k rest middle after last → IsLeftOff start after k came (x ++ last)
    is-left-off wants =
        let parts = parted done (listed wants.begun) middle after x wants.answer answers wants.answers in record {
          done = done;
          begun = wants.begun;
          others = wants.others;
          splits = rest-is (listed wants.begun ++ wants.others) wants.first;
          calls = parts.calls;
          written = front-is (listed wants.begun) wants.answer [] wants.answers wants.nothing
              ∙ append-nil (transcript done (replies start k after));
        }

    module _ (n : ℕ) (old new : Told) (full : IsFull start k n rest middle after last old new) where
      calls-before : calls_of k after ≡ decoded_calls done
      calls-before = (parted done [] middle after x [] answers full.meets.passes).calls
          ∙ ap (λ (l : List Act). decoded_calls l) (append-nil done)

      sent-before : x ++ last ≡ transcript done (replies start k after) ++ take full.count (busy_bytes full.asked)
      sent-before = front-is [] [] (take full.count (busy_bytes full.asked)) full.meets.passes full.written

      is-turned-away : IsTurnedAway start after k n came (x ++ last)
      is-turned-away = record {
        done = done;
        asked = full.asked;
        others = full.others;
        splits = rest-is (act.Call full.asked ∷ full.others) full.first;
        call = full.meets.call;
        decoded = full.meets.decoded;
        calls = calls-before;
        found = after;
        front = ([], sym (append-nil after));
        had = refl;
        full = full.meets.full;
        count = full.count;
        written = sent-before;
      }

      -- the replies of the connection are those of the acts before
      given-before : replies start k after ≡ answers.given
      given-before =
          full.meets.passes.replied
          ∙ ap (λ (l : List Reply). l ++ full.meets.passes.given) (first-replies done middle x answers)
          ∙ none-given full.meets.passes.given full.meets.passes.each
        where
          none-given : (l : List Reply) → length l ≡ length {A = Call × ℕ} [] → answers.given ++ l ≡ answers.given
          none-given [] is = append-nil answers.given
          none-given (r ∷ l) is = absurd cc

      whole-fault : last ≡ busy_bytes full.asked → IsTranscribed start after k true came (x ++ last)
      whole-fault is =
          let here = act.Call full.asked ∷ full.others in
          let split = rest-is here full.first in record {
            is =
                ap (λ (l : List ℕ). l ++ last) answers.bytes_are
                ∙ ap (λ (l : List ℕ). transcript done answers.given ++ l)
                (is ∙ sym (request-last full.asked busy_bytes full.others full.meets.call full.meets.decoded))
                ∙ sym (written-then busy_bytes done here answers.given [] answers.each)
                ∙ ap (λ (l : List Reply). written busy_bytes (done ++ here) l)
                (append-nil answers.given ∙ sym given-before)
                ∙ ap (λ (l : List Act). written busy_bytes l (replies start k after)) (sym split);
            outside = decoded_calls here;
            calls = ap (λ (l : List Act). decoded_calls l) split ∙ decoded-then done here
                ∙ ap (λ (l : List (Call × ℕ)). l ++ decoded_calls here) (sym calls-before);
            all = λ none. absurd cc;
          }

      fault-or : (last ≡ busy_bytes full.asked) ⊎ Rose old.write_faults new.write_faults
          → IsTranscribed start after k true came (x ++ last) ⊎ Rose old.write_faults new.write_faults
      fault-or (inl whole) = inl (whole-fault whole)
      fault-or (inr rose) = inr rose

    pub halts-told : (why : Stop) (old new : Told) → Halts why start k rest middle after last old new
        → Transcript (end_of_stop why) start after k came (x ++ last) old new
    halts-told stop.WriteFault old new h = is-cut-short old new h
    halts-told stop.NoMemory old new h = is-left-off h
    halts-told (stop.Full n) old new h = (is-turned-away n old new h, fault-or n old new h h.all)
