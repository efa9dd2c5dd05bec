-- A written PDU at the beginning of a stream.
use Rattle.std.proofs.Common.{◌≡◌, ℕ, ◌+◌, ◌≤◌, false, ltb, List, [], ◌++◌, length, take, Some, refl, sym, ap, ◌∙◌}
use Rattle.std.proofs.Common.{arith, length-append, All}
use Rattle.std.specs.List.{flat_map}
use Rattle.std.proofs.Math.Seq.{take-append_seam}
use Rattle.std.proofs.lemmas.Bool.{le-ltb}
use Rattle.std.proofs.lemmas.List.{append-nil}
use Rattle.rpc_pdu.specs.declared.pdus.Element.{Element}
use Rattle.rpc_pdu.specs.declared.pdus.Outcome.{Outcome}
use Rattle.rpc_pdu.specs.declared.pdus.Pdu.{Pdu}
use Rattle.rpc_pdu.specs.declared.pdus.Pdu.TheVariants.{Bind, Alter, Request, Cancel, Orphaned, BindAck, AlterResp}
use Rattle.rpc_pdu.specs.declared.pdus.Pdu.TheVariants.{BindNak, Response, Fault}
use Rattle.rpc_pdu.specs.declared.headers.Kind.{Kind}
use Rattle.rpc_pdu.specs.declared.headers.Kind.TheVariants as kind
use Rattle.rpc_pdu.specs.Headers.{least_length, kind_of, element_at, outcome_at}
use Rattle.acct_base.specs.Reading.{Reader, many}
use Rattle.rpc_pdu.specs.Bodies.{bind_of, alter_of, outcomes_in, bind_ack_of, alter_resp_of, body_of, Whole, front}
use Rattle.rpc_pdu.specs.Written.{type_of, reader_of, flags_of, element_bytes, outcome_bytes, body_bytes, size_of}
use Rattle.rpc_pdu.specs.Written.{written, HasWholeIds, LacksObject, IsWholeElement, IsWholeOutcome}
use Rattle.rpc_pdu.proofs.HeaderFacts.{least_16, IsLong, long_header}
use Rattle.rpc_pdu.proofs.Whole.{has_front}
use Rattle.rpc_pdu.proofs.Sizes.{length-written}
use Rattle.rpc_pdu.proofs.Back.{u16_back, u32_back, many_back, element_back, outcome_back}

abbrev pub kind_of_pdu : Pdu → Kind
kind_of_pdu (Request id flags context opnum stub) = kind.Request
kind_of_pdu (Response id flags context hint stub) = kind.Response
kind_of_pdu (Fault id context status) = kind.Fault
kind_of_pdu (Bind id xmit recv group elements) = kind.Bind
kind_of_pdu (BindAck id xmit recv group outcomes) = kind.BindAck
kind_of_pdu (BindNak id reason) = kind.BindNak
kind_of_pdu (Alter id xmit recv group elements) = kind.Alter
kind_of_pdu (AlterResp id xmit recv group outcomes) = kind.AlterResp
kind_of_pdu (Cancel id) = kind.Cancel
kind_of_pdu (Orphaned id) = kind.Orphaned

pub kind_is_read : (pdu : Pdu) → kind_of (reader_of pdu) (type_of pdu) ≡ Some (kind_of_pdu pdu)
kind_is_read (Request id flags context opnum stub) = refl
kind_is_read (Response id flags context hint stub) = refl
kind_is_read (Fault id context status) = refl
kind_is_read (Bind id xmit recv group elements) = refl
kind_is_read (BindAck id xmit recv group outcomes) = refl
kind_is_read (BindNak id reason) = refl
kind_is_read (Alter id xmit recv group elements) = refl
kind_is_read (AlterResp id xmit recv group outcomes) = refl
kind_is_read (Cancel id) = refl
kind_is_read (Orphaned id) = refl

-- what is written is long enough for its type
long_enough : (pdu : Pdu) → LacksObject pdu → least_length (kind_of_pdu pdu) (flags_of pdu) ≤ size_of pdu
long_enough (Request id flags context opnum stub) lacks = rw lacks (let le : 24 ≤ 24 + length stub = omega arith in le)
long_enough (Response id flags context hint stub) lacks = omega arith
long_enough (Fault id context status) lacks = omega arith
long_enough (Bind id xmit recv group elements) lacks = omega arith
long_enough (BindAck id xmit recv group outcomes) lacks = omega arith
long_enough (BindNak id reason) lacks = omega arith
long_enough (Alter id xmit recv group elements) lacks = omega arith
long_enough (AlterResp id xmit recv group outcomes) lacks = omega arith
long_enough (Cancel id) lacks = omega arith
long_enough (Orphaned id) lacks = omega arith

many_whole : {A : Type 0} (one : Reader A) (bytes_of : A → List ℕ) (P : A → Type 0)
    → ((x : A) → P x → (rest : List ℕ) → one (bytes_of x ++ rest) ≡ Some (x, rest))
    → (xs : List A) → All P xs → many one (length xs) (flat_map bytes_of xs) ≡ Some (xs, [])
many_whole one bytes_of P back xs all =
    ap (λ (bytes : List ℕ). many one (length xs) bytes) (sym (append-nil (flat_map bytes_of xs)))
    ∙ many_back one bytes_of P back xs all []

elements_whole : (elements : List Element) → All IsWholeElement elements
    → many element_at (length elements) (flat_map element_bytes elements) ≡ Some (elements, [])
elements_whole elements whole = many_whole element_at element_bytes IsWholeElement element_back elements whole

outcomes_whole : (outcomes : List Outcome) → All IsWholeOutcome outcomes
    → many outcome_at (length outcomes) (flat_map outcome_bytes outcomes) ≡ Some (outcomes, [])
outcomes_whole outcomes whole = many_whole outcome_at outcome_bytes IsWholeOutcome outcome_back outcomes whole

body_back : (pdu : Pdu) → HasWholeIds pdu → LacksObject pdu → body_of (kind_of_pdu pdu) (written pdu) ≡ Some pdu
unfolding body_of bind_of alter_of outcomes_in bind_ack_of alter_resp_of written body_bytes
body_back (Request id flags context opnum stub) whole lacks =
    rw (lacks, u32_back id, u16_back context, u16_back opnum) refl
body_back (Response id flags context hint stub) whole lacks = rw (u32_back id, u16_back context, u32_back hint) refl
body_back (Fault id context status) whole lacks = rw (u32_back id, u16_back context, u32_back status) refl
body_back (Bind id xmit recv group elements) whole lacks =
    rw (elements_whole elements whole, u32_back id, u16_back xmit, u16_back recv, u32_back group) refl
body_back (BindAck id xmit recv group outcomes) whole lacks =
    let enough : ltb (length (written (BindAck id xmit recv group outcomes))) 32 ≡ false =
    le-ltb _ _ (let l = length-written (BindAck id xmit recv group outcomes) in omega (arith, l)) in
    rw (enough, outcomes_whole outcomes whole, u32_back id, u16_back xmit, u16_back recv, u32_back group) refl
body_back (BindNak id reason) whole lacks = rw (u32_back id, u16_back reason) refl
body_back (Alter id xmit recv group elements) whole lacks =
    rw (elements_whole elements whole, u32_back id, u16_back xmit, u16_back recv, u32_back group) refl
body_back (AlterResp id xmit recv group outcomes) whole lacks =
    let enough : ltb (length (written (AlterResp id xmit recv group outcomes))) 32 ≡ false =
    le-ltb _ _ (let l = length-written (AlterResp id xmit recv group outcomes) in omega (arith, l)) in
    rw (enough, outcomes_whole outcomes whole, u32_back id, u16_back xmit, u16_back recv, u32_back group) refl
body_back (Cancel id) whole lacks = rw (u32_back id) refl
body_back (Orphaned id) whole lacks = rw (u32_back id) refl

header_back : (pdu : Pdu) (more : List ℕ) → LacksObject pdu
    → IsLong (reader_of pdu) (take 16 (written pdu ++ more)) (kind_of_pdu pdu) (size_of pdu)
unfolding written
header_back pdu more lacks =
    record {
      version = refl;
      minor = omega arith;
      integers = refl;
      floats = refl;
      known = kind_is_read pdu;
      enough = rw (u16_back (size_of pdu)) (long_enough pdu lacks);
      verifier = refl;
      size_is = u16_back (size_of pdu);
    }

pub written_front : (pdu : Pdu) → HasWholeIds pdu → LacksObject pdu → (more : List ℕ)
    → front (reader_of pdu) (written pdu ++ more) ≡ Whole pdu (size_of pdu)
written_front pdu whole lacks more =
    let size = length-written pdu in
    let first : take (size_of pdu) (written pdu ++ more) ≡ written pdu =
    ap (λ (n : ℕ). take n (written pdu ++ more)) (sym size) ∙ take-append_seam (written pdu) more in
    let enough = long_enough pdu lacks in
    let low = least_16 (kind_of_pdu pdu) (flags_of pdu) in
    has_front (reader_of pdu) (written pdu ++ more) pdu (size_of pdu) (record {
      kind = kind_of_pdu pdu;
      header = long_header (reader_of pdu) (take 16 (written pdu ++ more)) (kind_of_pdu pdu) (size_of pdu)
          (header_back pdu more lacks);
      sixteen = omega (arith, enough, low);
      there = let joined = length-append (written pdu) more in omega (arith, joined, size);
      body = ap (λ (bytes : List ℕ). body_of (kind_of_pdu pdu) bytes) first ∙ body_back pdu whole lacks;
    })
