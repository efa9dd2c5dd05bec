-- What the answer to a request over a gate says of its connection.
use Rattle.std.proofs.Common.{◌≡◌, ℕ, ◌==◌, true, cond, List, [], ◌∷◌, ◌++◌, length, Some, None, Result, Ok, Err}
use Rattle.std.proofs.Common.{inl, inr, refl, sym, ◌∙◌, ap, subst, arith}
use Rattle.std.proofs.lemmas.List.{append-nil}
use Rattle.std.proofs.lemmas.Bool.Decides.{nat_tests}
use Rattle.acct_calls.specs.declared.calls.Call.{Call}
use Rattle.acct_calls.specs.declared.replies.Reply.{Reply}
use Rattle.acct_machine.specs.State.{Start}
use Rattle.acct_machine.specs.Step.{acted, state_at}
use Rattle.acct_machine.specs.declared.entry.Entry.{Entry}
use Rattle.acct_machine.specs.declared.entry.Entry.TheVariants.{Called}
use Rattle.acct_machine.specs.Legal.{replies, calls_of}
use Rattle.acct_machine.specs.Passing.{KeepsConnection}
use Rattle.acct_stubs.specs.declared.errors.WireError.{WireError}
use Rattle.rpc_session.specs.declared.sessions.Act.TheVariants as act
use Rattle.rpc_session.specs.declared.sessions.Request.{Request}
use Rattle.link_sessions.specs.Transcript.{call_on, answer_bytes, undecoded_bytes, IsFrontOf}
use Rattle.link_sessions.specs.Answering.{EntersCall, AnswersBy, BeginsRequest, FindsFull}
use Rattle.link_sessions.specs.steps.Talking.{Answers, IsWanting, MeetsFull}
use Rattle.link_sessions.proofs.Fronts.{front-same, front-then}
use Rattle.link_sessions.proofs.Transcripts.{request-decoded, request-answered, request-none}
use Rattle.link_sessions.proofs.Transcripts.{request-undecoded}

same-conn : (k : ℕ) → (k == k) ≡ true
same-conn k = grind (arith, nat_tests)

module _ (start : Start) (k : ℕ) where
  pub answers-passed : (known left : List Entry) → IsFrontOf known left → KeepsConnection start k known left
      → Answers start k [] known left []
  answers-passed known left front passes = record {
    grows = front;
    given = [];
    calls = passes.calls ∙ sym (append-nil (calls_of k known));
    replied = passes.replies ∙ sym (append-nil (replies start k known));
    each = refl;
    bytes_are = refl;
  }

  passes-here : (h : List Entry) → KeepsConnection start k h h
  passes-here h = record { calls = refl; replies = refl; live = refl }

  pub answers-none : (h : List Entry) → Answers start k [] h h []
  answers-none h = answers-passed h h (front-same h) (passes-here h)

  -- ---- a request

  pub answers-entered : (finds : List Entry → Type 0) (known left : List Entry) (asked : Request)
      (call : Call) → ((found : List Entry) → finds found → IsFrontOf known found × KeepsConnection start k known found)
      → call_on asked.face asked.opnum asked.stub ≡ Ok call
      → (enters : EntersCall start k finds left call (length asked.stub))
      → Answers start k (act.Call asked ∷ []) known left
      (answer_bytes asked call.face call.opnum (acted (state_at start enters.found) k call enters.verdict).1)
  answers-entered finds known left asked call passes is enters =
      let reply = (acted (state_at start enters.found) k call enters.verdict).1 in
      let front = (passes enters.found enters.finds_it).0 in
      let passed = (passes enters.found enters.finds_it).1 in
      let decoded = request-decoded asked call is in record {
        grows = front-then known enters.found left front
            (Called k call enters.verdict (length asked.stub) ∷ [], enters.entered);
        given = reply ∷ [];
        calls =
            enters.more.calls k
            ∙ ap (λ b. calls_of k enters.found ++ cond b ((call, length asked.stub) ∷ []) []) (same-conn k)
            ∙ ap (λ (l : List (Call × ℕ)). l ++ (call, length asked.stub) ∷ []) passed.calls
            ∙ ap (λ (l : List (Call × ℕ)). calls_of k known ++ l) (sym decoded);
        replied =
            enters.more.replies k
            ∙ ap (λ b. replies start k enters.found ++ cond b (reply ∷ []) []) (same-conn k)
            ∙ ap (λ (l : List Reply). l ++ reply ∷ []) passed.replies;
        each = ap (λ (l : List (Call × ℕ)). length l) (sym decoded);
        bytes_are = sym (request-answered asked call reply is);
      }

  answers-undecoded : (known left : List Entry) (asked : Request) (e : WireError) → left ≡ known
      → call_on asked.face asked.opnum asked.stub ≡ Err e
      → Answers start k (act.Call asked ∷ []) known left (undecoded_bytes asked e)
  answers-undecoded known left asked e same is =
      let none = request-none asked e is in record {
        grows = subst (λ (h : List Entry). IsFrontOf known h) (sym same) (front-same known);
        given = [];
        calls = ap (λ (h : List Entry). calls_of k h) same ∙ sym (append-nil (calls_of k known))
            ∙ ap (λ (l : List (Call × ℕ)). calls_of k known ++ l) (sym none);
        replied = ap (λ (h : List Entry). replies start k h) same ∙ sym (append-nil (replies start k known));
        each = ap (λ (l : List (Call × ℕ)). length l) (sym none);
        bytes_are = sym (request-undecoded asked e is);
      }

  module _ (finds : List Entry → Type 0) (known left : List Entry) (asked : Request)
      (passes : (found : List Entry) → finds found → IsFrontOf known found × KeepsConnection start k known found) where
    answered-by : (r : Result Call WireError) (bytes : List ℕ) → call_on asked.face asked.opnum asked.stub ≡ r
        → AnswersBy start k finds known left asked (length asked.stub) r bytes
        → Answers start k (act.Call asked ∷ []) known left bytes
    answered-by (Err e) bytes is answers =
        subst (λ (bs : List ℕ). Answers start k (act.Call asked ∷ []) known left bs) (sym answers.1)
        (answers-undecoded known left asked e answers.0 is)
    answered-by (Ok call) bytes is answers =
        subst (λ (bs : List ℕ). Answers start k (act.Call asked ∷ []) known left bs) (sym answers.bytes_are)
        (answers-entered finds known left asked call passes is answers.enters)

    pub request-is-answered : (bytes : List ℕ) → AnswersBy start k finds known left asked (length asked.stub)
        (call_on asked.face asked.opnum asked.stub) bytes → Answers start k (act.Call asked ∷ []) known left bytes
    request-is-answered bytes answers = answered-by (call_on asked.face asked.opnum asked.stub) bytes refl answers

    pub request-meets-full : (call : Call) (n : ℕ) → call_on asked.face asked.opnum asked.stub ≡ Ok call
        → FindsFull start finds left (length asked.stub) n → MeetsFull start k n asked known left
    request-meets-full call n is finds_full =
        let here = passes left finds_full.finds_it in record {
          call = call;
          decoded = is;
          passes = answers-passed known left here.0 here.1;
          full = finds_full.full;
        }

    nothing-done : left ≡ known → IsWanting start k (act.Call asked ∷ []) known left []
    nothing-done same = record {
      begun = None;
      others = act.Call asked ∷ [];
      first = refl;
      answer = [];
      answers = subst (λ (h : List Entry). Answers start k [] known h []) (sym same) (answers-none known);
      nothing = refl;
    }

    wanting-by : (r : Result Call WireError) → call_on asked.face asked.opnum asked.stub ≡ r
        → BeginsRequest start k finds known left (length asked.stub) r
        → IsWanting start k (act.Call asked ∷ []) known left []
    wanting-by (Err e) is begins = nothing-done begins
    wanting-by (Ok call) is (inl same) = nothing-done same
    wanting-by (Ok call) is (inr enters) = record {
      begun = Some (act.Call asked);
      others = [];
      first = refl;
      answer = answer_bytes asked call.face call.opnum (acted (state_at start enters.found) k call enters.verdict).1;
      answers = answers-entered finds known left asked call passes is enters;
      nothing = refl;
    }

    pub request-is-wanting : BeginsRequest start k finds known left (length asked.stub)
        (call_on asked.face asked.opnum asked.stub)
        → IsWanting start k (act.Call asked ∷ []) known left []
    request-is-wanting begins = wanting-by (call_on asked.face asked.opnum asked.stub) refl begins

  -- ---- an act that is no request

  pub answers-bytes : (h : List Entry) (bytes : List ℕ) → Answers start k (act.Answered bytes ∷ []) h h bytes
  answers-bytes h bytes = record {
    grows = front-same h;
    given = [];
    calls = sym (append-nil (calls_of k h));
    replied = sym (append-nil (replies start k h));
    each = refl;
    bytes_are = sym (append-nil bytes);
  }

  pub answers-closed : (h : List Entry) (place cause : ℕ) (bytes : List ℕ)
      → Answers start k (act.Closed place cause bytes ∷ []) h h bytes
  answers-closed h place cause bytes = record {
    grows = front-same h;
    given = [];
    calls = sym (append-nil (calls_of k h));
    replied = sym (append-nil (replies start k h));
    each = refl;
    bytes_are = sym (append-nil bytes);
  }
