-- The transcript of acts one after another: as many replies as decoded calls go to the first acts.
use Rattle.std.proofs.Common.{◌≡◌, ℕ, List, [], ◌∷◌, ◌++◌, length, Result, Ok, Err, refl, sym, ◌∙◌, ap, append_assoc}
use Rattle.std.proofs.Common.{arith}
use Rattle.std.proofs.lemmas.List.{append-nil}
use Rattle.acct_calls.specs.declared.calls.Call.{Call}
use Rattle.acct_calls.specs.declared.replies.Reply.{Reply}
use Rattle.acct_stubs.specs.declared.errors.WireError.{WireError}
use Rattle.rpc_session.specs.declared.sessions.Act.{Act}
use Rattle.rpc_session.specs.declared.sessions.Act.TheVariants as act
use Rattle.rpc_session.specs.declared.sessions.Request.{Request}
use Rattle.link_sessions.specs.Transcript.{call_on, written, answered, transcript, no_bytes, decoded_calls, with_call}
use Rattle.link_sessions.specs.Transcript.{answer_bytes, undecoded_bytes}

with_call-then : (r : Result Call WireError) (n : ℕ) (xs ys zs : List (Call × ℕ)) → zs ≡ xs ++ ys
    → with_call r n zs ≡ with_call r n xs ++ ys
with_call-then (Ok call) n xs ys zs is = ap (λ (l : List (Call × ℕ)). (call, n) ∷ l) is
with_call-then (Err e) n xs ys zs is = is

pub decoded-then : (xs ys : List Act) → decoded_calls (xs ++ ys) ≡ decoded_calls xs ++ decoded_calls ys
decoded-then [] ys = refl
decoded-then (act.Answered bytes ∷ xs) ys = decoded-then xs ys
decoded-then (act.Call asked ∷ xs) ys =
    with_call-then (call_on asked.face asked.opnum asked.stub) (length asked.stub) (decoded_calls xs) (decoded_calls ys)
    (decoded_calls (xs ++ ys))
    (decoded-then xs ys)
decoded-then (act.Closed place cause bytes ∷ xs) ys = decoded-then xs ys

-- what is written for the first acts and then for those after them
abbrev Parts : (Request → List ℕ) → List Act → List Act → Type 0
Parts last xs ys = (rs ss : List Reply) → length rs ≡ length (decoded_calls xs)
    → written last (xs ++ ys) (rs ++ ss) ≡ transcript xs rs ++ written last ys ss

request-then : (last : Request → List ℕ) (asked : Request) (n : ℕ) (r : Result Call WireError) (xs ys : List Act)
    (rs ss : List Reply) → Parts last xs ys → length rs ≡ length (with_call r n (decoded_calls xs))
    → answered last asked r (rs ++ ss) (λ others. written last (xs ++ ys) others)
    ≡ answered no_bytes asked r rs (λ others. transcript xs others) ++ written last ys ss
request-then last asked n (Err e) xs ys rs ss parts each =
    ap (λ (l : List ℕ). undecoded_bytes asked e ++ l) (parts rs ss each)
    ∙ sym (append_assoc (undecoded_bytes asked e) (transcript xs rs) (written last ys ss))
request-then last asked n (Ok call) xs ys [] ss parts each = absurd (omega (arith, each))
request-then last asked n (Ok call) xs ys (r ∷ rs) ss parts each =
    let these = answer_bytes asked call.face call.opnum r in
    ap (λ (l : List ℕ). these ++ l) (parts rs ss (omega (arith, each)))
    ∙ sym (append_assoc these (transcript xs rs) (written last ys ss))

pub written-then : (last : Request → List ℕ) (xs ys : List Act) → Parts last xs ys
written-then last [] ys [] ss each = refl
written-then last [] ys (r ∷ rs) ss each = absurd (omega (arith, each))
written-then last (act.Answered bytes ∷ xs) ys rs ss each =
    ap (λ (l : List ℕ). bytes ++ l) (written-then last xs ys rs ss each)
    ∙ sym (append_assoc bytes (transcript xs rs) (written last ys ss))
written-then last (act.Call asked ∷ xs) ys rs ss each =
    request-then last asked (length asked.stub) (call_on asked.face asked.opnum asked.stub) xs ys rs ss
    (written-then last xs ys) each
written-then last (act.Closed place cause bytes ∷ xs) ys rs ss each =
    ap (λ (l : List ℕ). bytes ++ l) (written-then last xs ys rs ss each)
    ∙ sym (append_assoc bytes (transcript xs rs) (written last ys ss))

-- replies after those of the acts change nothing
pub transcript-more : (xs : List Act) (rs ss : List Reply) → length rs ≡ length (decoded_calls xs)
    → transcript xs (rs ++ ss) ≡ transcript xs rs
transcript-more xs rs ss each =
    ap (λ (as' : List Act). transcript as' (rs ++ ss)) (sym (append-nil xs))
    ∙ written-then no_bytes xs [] rs ss each
    ∙ append-nil (transcript xs rs)

-- ---- one request

one-call : (r : Result Call WireError) (call : Call) (n : ℕ) → r ≡ Ok call → with_call r n [] ≡ (call, n) ∷ []
one-call (Ok other) call n is = cc
one-call (Err e) call n is = absurd cc

no-call : (r : Result Call WireError) (e : WireError) (n : ℕ) → r ≡ Err e → with_call r n [] ≡ []
no-call (Ok call) e n is = absurd cc
no-call (Err d) e n is = refl

one-answer : (asked : Request) (r : Result Call WireError) (call : Call) (reply : Reply) → r ≡ Ok call
    → answered no_bytes asked r (reply ∷ []) (λ others. []) ≡ answer_bytes asked call.face call.opnum reply
one-answer asked (Ok other) call reply is = let same : other ≡ call = cc in
    rw same (append-nil (answer_bytes asked call.face call.opnum reply))
one-answer asked (Err e) call reply is = absurd cc

no-answer : (asked : Request) (r : Result Call WireError) (e : WireError) → r ≡ Err e
    → answered no_bytes asked r [] (λ others. []) ≡ undecoded_bytes asked e
no-answer asked (Ok call) e is = absurd cc
no-answer asked (Err d) e is = let same : d ≡ e = cc in rw same (append-nil (undecoded_bytes asked e))

last-answer : (last : Request → List ℕ) (asked : Request) (r : Result Call WireError) (call : Call)
    (later : List Reply → List ℕ) → r ≡ Ok call → answered last asked r [] later ≡ last asked
last-answer last asked (Ok other) call later is = refl
last-answer last asked (Err e) call later is = absurd cc

module _ (asked : Request) where
  pub request-decoded : (call : Call) → call_on asked.face asked.opnum asked.stub ≡ Ok call
      → decoded_calls (act.Call asked ∷ []) ≡ (call, length asked.stub) ∷ []
  request-decoded call is = one-call (call_on asked.face asked.opnum asked.stub) call (length asked.stub) is

  pub request-answered : (call : Call) (reply : Reply) → call_on asked.face asked.opnum asked.stub ≡ Ok call
      → transcript (act.Call asked ∷ []) (reply ∷ []) ≡ answer_bytes asked call.face call.opnum reply
  request-answered call reply is = one-answer asked (call_on asked.face asked.opnum asked.stub) call reply is

  pub request-none : (e : WireError) → call_on asked.face asked.opnum asked.stub ≡ Err e
      → decoded_calls (act.Call asked ∷ []) ≡ []
  request-none e is = no-call (call_on asked.face asked.opnum asked.stub) e (length asked.stub) is

  pub request-undecoded : (e : WireError) → call_on asked.face asked.opnum asked.stub ≡ Err e
      → transcript (act.Call asked ∷ []) [] ≡ undecoded_bytes asked e
  request-undecoded e is = no-answer asked (call_on asked.face asked.opnum asked.stub) e is

  -- a call without a reply is the last that something is written for
  pub request-last : (last : Request → List ℕ) (others : List Act) (call : Call)
      → call_on asked.face asked.opnum asked.stub ≡ Ok call → written last (act.Call asked ∷ others) [] ≡ last asked
  request-last last others call is =
      last-answer last asked (call_on asked.face asked.opnum asked.stub) call (λ rs. written last others rs) is
