-- A whole PDU at the beginning is exactly a PDU of the grammar.
use Rattle.std.proofs.Common.{◌≡◌, ℕ, ◌+◌, ◌≤◌, ◌<◌, Bool, true, false, cond, ltb, ◌==◌, List, length, take, drop}
use Rattle.std.proofs.Common.{get_or, Option, Some, None, refl, sym, ap, subst, ◌∙◌, arith, inl, inr}
use Rattle.std.specs.List.{sum_by}
use Rattle.std.proofs.lemmas.Bool.{ltb-false, le-ltb, eqb-true, false≢true}
use Rattle.std.proofs.lemmas.List.{length-take-le}
use Rattle.acct_codes.specs.Pdus.{ptype_request, ptype_response, ptype_fault, ptype_bind, ptype_bind_ack}
use Rattle.acct_codes.specs.Pdus.{ptype_bind_nak, ptype_alter_context, ptype_alter_context_resp, ptype_co_cancel}
use Rattle.acct_codes.specs.Pdus.{ptype_orphaned}
use Rattle.rpc_pdu.specs.declared.pdus.Side.{Side}
use Rattle.rpc_pdu.specs.declared.pdus.Side.TheVariants.{Server, Client}
use Rattle.rpc_pdu.specs.declared.pdus.Element.{Element}
use Rattle.rpc_pdu.specs.declared.pdus.Outcome.{Outcome}
use Rattle.rpc_pdu.specs.declared.pdus.Pdu.{Pdu}
use Rattle.rpc_pdu.specs.declared.pdus.Pdu.TheVariants.{Bind, Alter, Request, Cancel, Orphaned, BindAck, AlterResp}
use Rattle.rpc_pdu.specs.declared.pdus.Pdu.TheVariants.{BindNak, Response, Fault}
use Rattle.rpc_pdu.specs.declared.headers.Kind.{Kind}
use Rattle.rpc_pdu.specs.declared.headers.Kind.TheVariants as kind
use Rattle.rpc_pdu.specs.Headers.{u16_at, u32_at, kind_of, has_object, least_length, element_at, outcome_at}
use Rattle.rpc_pdu.specs.Headers.{element_size}
use Rattle.acct_base.specs.Reading.{many}
use Rattle.rpc_pdu.specs.Bodies.{bind_of, alter_of, outcomes_place, outcomes_in, bind_ack_of, alter_resp_of, body_of}
use Rattle.rpc_pdu.specs.Bodies.{Whole, front}
use Rattle.rpc_pdu.specs.Grammar.{IsHeader, ElementAt, OutcomeAt, HasSizes, IsBinding, IsBindingAnswer, IsRequest}
use Rattle.rpc_pdu.specs.Grammar.{IsPdu}
use Rattle.rpc_pdu.specs.Written.{type_of, reader_of, call_id}
use Rattle.rpc_pdu.specs.Laws.{IsExact}
use Rattle.rpc_pdu.proofs.HeaderFacts.{chosen, least_16, IsLong, header_long, long_header}
use Rattle.rpc_pdu.proofs.Whole.{front_has, has_front, head_at}
use Rattle.rpc_pdu.proofs.Stubs.{made}
use Rattle.rpc_pdu.proofs.Places.{bound, many_stand, many_reads, elements_read_at, outcomes_read_at}
use Rattle.rpc_pdu.proofs.ReadBack.{kind_of_pdu, kind_is_read}

-- ---- the types by their numbers

number_of : Kind → ℕ
number_of kind.Request = ptype_request
number_of kind.Response = ptype_response
number_of kind.Fault = ptype_fault
number_of kind.Bind = ptype_bind
number_of kind.BindAck = ptype_bind_ack
number_of kind.BindNak = ptype_bind_nak
number_of kind.Alter = ptype_alter_context
number_of kind.AlterResp = ptype_alter_context_resp
number_of kind.Cancel = ptype_co_cancel
number_of kind.Orphaned = ptype_orphaned

side_of : Kind → Side
side_of kind.Request = Server
side_of kind.Response = Client
side_of kind.Fault = Client
side_of kind.Bind = Server
side_of kind.BindAck = Client
side_of kind.BindNak = Client
side_of kind.Alter = Server
side_of kind.AlterResp = Client
side_of kind.Cancel = Server
side_of kind.Orphaned = Server

-- a type that a side reads, by its number
abbrev IsRead : Side → ℕ → Kind → Type 0
IsRead side ptype k = (ptype ≡ number_of k) × (side ≡ side_of k)

one_of : (side : Side) (ptype number : ℕ) (k : Kind) (rest : Option Kind) (found : Kind) → number ≡ number_of k
    → side ≡ side_of k → cond (ptype == number) (Some k) rest ≡ Some found
    → (rest ≡ Some found → IsRead side ptype found) → IsRead side ptype found
one_of side ptype number k rest found same mine e others =
    elim (chosen (ptype == number) _ _ _ e) [
      | inl p ↦
          let P : Kind → Type 0 = λ x. IsRead side ptype x in
          let is : k ≡ found = (let q = p.1 in cc) in
          subst P is (eqb-true _ _ p.0 ∙ same, mine)
      | inr p ↦ others p.1
    ]

none_of : (side : Side) (ptype : ℕ) (found : Kind) → None ≡ Some found → IsRead side ptype found
none_of side ptype found e = absurd cc

read_kind : (side : Side) (ptype : ℕ) (k : Kind) → kind_of side ptype ≡ Some k → IsRead side ptype k
unfolding number_of side_of
read_kind Server ptype k e =
    one_of Server ptype ptype_request kind.Request _ k refl refl e
    (λ e. one_of Server ptype ptype_bind kind.Bind _ k refl refl e
    (λ e. one_of Server ptype ptype_alter_context kind.Alter _ k refl refl e
    (λ e. one_of Server ptype ptype_co_cancel kind.Cancel _ k refl refl e
    (λ e. one_of Server ptype ptype_orphaned kind.Orphaned _ k refl refl e (none_of Server ptype k)))))
read_kind Client ptype k e =
    one_of Client ptype ptype_response kind.Response _ k refl refl e
    (λ e. one_of Client ptype ptype_fault kind.Fault _ k refl refl e
    (λ e. one_of Client ptype ptype_bind_ack kind.BindAck _ k refl refl e
    (λ e. one_of Client ptype ptype_bind_nak kind.BindNak _ k refl refl e
    (λ e. one_of Client ptype ptype_alter_context_resp kind.AlterResp _ k refl refl e (none_of Client ptype k)))))

-- ---- bodies

-- a header, without its type
abbrev Headed : List ℕ → ℕ → Type 0
Headed bytes ptype = IsHeader bytes ptype (u32_at bytes 12)

sizes_of : (bytes : List ℕ) → HasSizes bytes (u16_at bytes 16) (u16_at bytes 18) (u32_at bytes 20)
sizes_of bytes = record { xmit_frag = refl; recv_frag = refl; group_id = refl }

binding_of : (bytes : List ℕ) (x : List Element × List ℕ) → 28 ≤ length bytes
    → many element_at (get_or bytes 24 0) (drop 28 bytes) ≡ Some x
    → IsBinding bytes (u16_at bytes 16) (u16_at bytes 18) (u32_at bytes 20) x.0
binding_of bytes x long e =
    let m = many_stand element_at ElementAt element_size elements_read_at (get_or bytes 24 0) bytes 28 x.0 x.1 e in
    record { long = long; sizes = sizes_of bytes; count = m.count; elements_there = m.each }

answer_of : (bytes : List ℕ) (outcomes : List Outcome) → 32 ≤ length bytes → outcomes_in bytes ≡ Some outcomes
    → IsBindingAnswer bytes (u16_at bytes 16) (u16_at bytes 18) (u32_at bytes 20) outcomes
unfolding outcomes_in
answer_of bytes outcomes long e =
    let place = outcomes_place bytes in
    elim (chosen (ltb (length bytes) (place + 4)) _ _ _ e) [
      | inl p ↦ let q = p.1 in absurd cc
      | inr p ↦
          let b = bound (many outcome_at (get_or bytes place 0) (drop (place + 4) bytes))
          (λ read. Some read.0) outcomes p.1 in
          let m = many_stand outcome_at OutcomeAt (λ outcome. 24) outcomes_read_at (get_or bytes place 0) bytes
          (place + 4) b.0.0 b.0.1 b.1 in
          let is : b.0.0 ≡ outcomes = (let q = b.2 in cc) in
          let P : List Outcome → Type 0 =
          λ found. IsBindingAnswer bytes (u16_at bytes 16) (u16_at bytes 18) (u32_at bytes 20) found in
          let start : P b.0.0 =
          record {
            long = long;
            sizes = sizes_of bytes;
            place = place;
            behind = omega arith;
            near = omega arith;
            aligned = omega arith;
            there = ltb-false _ _ p.0;
            count = m.count;
            outcomes_there = m.each;
          } in
          subst P is start
    ]

request_of : (bytes : List ℕ) (flags : ℕ) (b : Bool) → has_object flags ≡ b → get_or bytes 3 0 ≡ flags
    → cond b 40 24 ≤ length bytes
    → IsRequest bytes flags (u16_at bytes 20) (u16_at bytes 22) (drop (cond b 40 24) bytes)
request_of bytes flags true is flagged long =
    record {
      flagged = flagged;
      context_id = refl;
      operation = refl;
      plain = λ none. absurd (false≢true (sym none ∙ is));
      object = λ some. (long, refl);
    }
request_of bytes flags false is flagged long =
    record {
      flagged = flagged;
      context_id = refl;
      operation = refl;
      plain = λ none. (long, refl);
      object = λ some. absurd (false≢true (sym is ∙ some));
    }

-- ---- what is read is a PDU

some_is : {A : Type 0} (x y : A) → Some x ≡ Some y → x ≡ y
some_is x y e = cc

is_pdu : (k : Kind) (bytes : List ℕ) (pdu : Pdu) → Headed bytes (number_of k)
    → least_length k (get_or bytes 3 0) ≤ length bytes → body_of k bytes ≡ Some pdu → IsPdu (side_of k) pdu bytes
unfolding number_of side_of body_of bind_of alter_of bind_ack_of alter_resp_of
is_pdu kind.Request bytes pdu header long e =
    let P : Pdu → Type 0 = λ p. IsPdu Server p bytes in
    subst P (some_is _ pdu e)
    (header, request_of bytes (get_or bytes 3 0) (has_object (get_or bytes 3 0)) refl refl long)
is_pdu kind.Response bytes pdu header long e =
    let P : Pdu → Type 0 = λ p. IsPdu Client p bytes in
    subst P (some_is _ pdu e) (
      header,
      record {
        long = long;
        flagged = refl;
        alloc_hint = refl;
        context_id = refl;
        data_there = refl;
      },
    )
is_pdu kind.Fault bytes pdu header long e =
    let P : Pdu → Type 0 = λ p. IsPdu Client p bytes in
    subst P (some_is _ pdu e) (header, record { long = long; context_id = refl; code = refl })
is_pdu kind.Bind bytes pdu header long e =
    let P : Pdu → Type 0 = λ p. IsPdu Server p bytes in
    let m = made (many element_at (get_or bytes 24 0) (drop 28 bytes)) (λ x. Bind _ _ _ _ x.0) pdu e in
    subst P m.2 (header, binding_of bytes m.0 long m.1)
is_pdu kind.BindAck bytes pdu header long e =
    let P : Pdu → Type 0 = λ p. IsPdu Client p bytes in
    let m = made (outcomes_in bytes) (λ x. BindAck _ _ _ _ x) pdu e in
    subst P m.2 (header, answer_of bytes m.0 long m.1)
is_pdu kind.BindNak bytes pdu header long e =
    let P : Pdu → Type 0 = λ p. IsPdu Client p bytes in
    subst P (some_is _ pdu e) (header, record { long = long; reason_is = refl })
is_pdu kind.Alter bytes pdu header long e =
    let P : Pdu → Type 0 = λ p. IsPdu Server p bytes in
    let m = made (many element_at (get_or bytes 24 0) (drop 28 bytes)) (λ x. Alter _ _ _ _ x.0) pdu e in
    subst P m.2 (header, binding_of bytes m.0 long m.1)
is_pdu kind.AlterResp bytes pdu header long e =
    let P : Pdu → Type 0 = λ p. IsPdu Client p bytes in
    let m = made (outcomes_in bytes) (λ x. AlterResp _ _ _ _ x) pdu e in
    subst P m.2 (header, answer_of bytes m.0 long m.1)
is_pdu kind.Cancel bytes pdu header long e =
    let P : Pdu → Type 0 = λ p. IsPdu Server p bytes in
    subst P (some_is _ pdu e) (header, long)
is_pdu kind.Orphaned bytes pdu header long e =
    let P : Pdu → Type 0 = λ p. IsPdu Server p bytes in
    subst P (some_is _ pdu e) (header, long)

-- the header of a whole PDU, by that of the stream
header_there : (side : Side) (bytes : List ℕ) (k : Kind) (size : ℕ) → 16 ≤ size → size ≤ length bytes
    → IsLong side (take 16 bytes) k size → get_or (take 16 bytes) 2 0 ≡ number_of k
    → Headed (take size bytes) (number_of k)
header_there side bytes k size low le h is =
    let at : (i : ℕ) → i < 16 → get_or (take size bytes) i 0 ≡ get_or (take 16 bytes) i 0 =
    λ i lt. head_at bytes size i low lt in
    let len = length-take-le size bytes le in
    let b1 = at 1 (omega arith) in
    let b8 = at 8 (omega arith) in
    let b9 = at 9 (omega arith) in
    let b10 = at 10 (omega arith) in
    let b11 = at 11 (omega arith) in
    let minor = h.minor in
    let size_is = h.size_is in
    let verifier = h.verifier in
    record {
      version = at 0 (omega arith) ∙ h.version;
      minor = omega (arith, b1, minor);
      kind = at 2 (omega arith) ∙ is;
      integers = at 4 (omega arith) ∙ h.integers;
      floats = at 5 (omega arith) ∙ h.floats;
      frag_length = omega (arith, b8, b9, size_is, len);
      auth_length = omega (arith, b10, b11, verifier);
      call_id = refl;
    }

pub exact_to : (side : Side) (pdu : Pdu) (size : ℕ) (bytes : List ℕ) → front side bytes ≡ Whole pdu size
    → (size ≤ length bytes) × IsPdu side pdu (take size bytes)
exact_to side pdu size bytes e =
    let w = front_has side bytes pdu size e in
    let h = header_long side (take 16 bytes) w.kind size w.header in
    let r = read_kind side (get_or (take 16 bytes) 2 0) w.kind h.known in
    let P : Side → Type 0 = λ s. IsPdu s pdu (take size bytes) in
    let len = length-take-le size bytes w.there in
    let flags : get_or (take size bytes) 3 0 ≡ get_or (take 16 bytes) 3 0 =
    head_at bytes size 3 w.sixteen (omega arith) in
    let enough = h.enough in
    let size_is = h.size_is in
    let fits : least_length w.kind (get_or (take 16 bytes) 3 0) ≤ length (take size bytes) =
    omega (arith, enough, size_is, len) in
    let long : least_length w.kind (get_or (take size bytes) 3 0) ≤ length (take size bytes) = rw flags fits in
    let there = header_there side bytes w.kind size w.sixteen w.there h r.0 in
    (w.there, subst P (sym r.1) (is_pdu w.kind (take size bytes) pdu there long w.body))

-- ---- a PDU is read

-- a PDU by what a reader looks at
record HasParts (side : Side) (pdu : Pdu) (bytes : List ℕ) : Type 0 where
  side_is : side ≡ reader_of pdu
  header : IsHeader bytes (type_of pdu) (call_id pdu)
  long : least_length (kind_of_pdu pdu) (get_or bytes 3 0) ≤ length bytes
  body : body_of (kind_of_pdu pdu) bytes ≡ Some pdu

binding_reads : (bytes : List ℕ) (xmit recv group : ℕ) (elements : List Element)
    → IsBinding bytes xmit recv group elements
    → many element_at (get_or bytes 24 0) (drop 28 bytes)
    ≡ Some (elements, drop (28 + sum_by element_size elements) bytes)
binding_reads bytes xmit recv group elements is =
    ap (λ (n : ℕ). many element_at n (drop 28 bytes)) is.count
    ∙ many_reads element_at ElementAt element_size elements_read_at elements bytes 28 is.elements_there

answer_reads : (bytes : List ℕ) (xmit recv group : ℕ) (outcomes : List Outcome)
    → IsBindingAnswer bytes xmit recv group outcomes → outcomes_in bytes ≡ Some outcomes
unfolding outcomes_in
answer_reads bytes xmit recv group outcomes is =
    let behind = is.behind in
    let near = is.near in
    let aligned = is.aligned in
    let place : outcomes_place bytes ≡ is.place = omega (arith, behind, near, aligned) in
    let there : ltb (length bytes) (is.place + 4) ≡ false = le-ltb _ _ is.there in
    rw (
      place,
      there,
      is.count,
      many_reads outcome_at OutcomeAt (λ outcome. 24) outcomes_read_at outcomes bytes
          (is.place + 4) is.outcomes_there,
    ) refl

request_long : (bytes : List ℕ) (flags context opnum : ℕ) (stub : List ℕ) → IsRequest bytes flags context opnum stub
    → (b : Bool) → has_object flags ≡ b → (cond b 40 24 ≤ length bytes) × (drop (cond b 40 24) bytes ≡ stub)
request_long bytes flags context opnum stub is true e = is.object e
request_long bytes flags context opnum stub is false e = is.plain e

parts : (side : Side) (pdu : Pdu) (bytes : List ℕ) → IsPdu side pdu bytes → HasParts side pdu bytes
unfolding body_of bind_of alter_of bind_ack_of alter_resp_of
parts Server (Request id flags context opnum stub) bytes h =
    let body = h.1 in
    let r = request_long bytes flags context opnum stub body (has_object flags) refl in
    let long : cond (has_object (get_or bytes 3 0)) 40 24 ≤ length bytes = rw body.flagged r.0 in
    let rest : drop (cond (has_object (get_or bytes 3 0)) 40 24) bytes ≡ stub =
    ap (λ (f : ℕ). drop (cond (has_object f) 40 24) bytes) body.flagged ∙ r.1 in
    let call = h.0.call_id in
    record {
      side_is = refl;
      header = h.0;
      long = long;
      body = λ i. Some (Request (call i) (body.flagged i) (body.context_id i) (body.operation i) (rest i));
    }
parts Server (Bind id xmit recv group elements) bytes h =
    let sizes = h.1.sizes in
    let call = h.0.call_id in
    let read : body_of kind.Bind bytes
    ≡ Some (Bind (u32_at bytes 12) (u16_at bytes 16) (u16_at bytes 18) (u32_at bytes 20) elements) =
    rw (binding_reads bytes xmit recv group elements h.1) refl in
    record {
      side_is = refl;
      header = h.0;
      long = h.1.long;
      body = read
          ∙ (λ i. Some (Bind (call i) (sizes.xmit_frag i) (sizes.recv_frag i) (sizes.group_id i) elements));
    }
parts Server (Alter id xmit recv group elements) bytes h =
    let sizes = h.1.sizes in
    let call = h.0.call_id in
    let read : body_of kind.Alter bytes
    ≡ Some (Alter (u32_at bytes 12) (u16_at bytes 16) (u16_at bytes 18) (u32_at bytes 20) elements) =
    rw (binding_reads bytes xmit recv group elements h.1) refl in
    record {
      side_is = refl;
      header = h.0;
      long = h.1.long;
      body = read
          ∙ (λ i. Some (Alter (call i) (sizes.xmit_frag i) (sizes.recv_frag i) (sizes.group_id i) elements));
    }
parts Server (Cancel id) bytes h =
    let call = h.0.call_id in
    record { side_is = refl; header = h.0; long = h.1; body = λ i. Some (Cancel (call i)) }
parts Server (Orphaned id) bytes h =
    let call = h.0.call_id in
    record { side_is = refl; header = h.0; long = h.1; body = λ i. Some (Orphaned (call i)) }
parts Client (Response id flags context hint stub) bytes h =
    let call = h.0.call_id in
    let body = h.1 in
    record {
      side_is = refl;
      header = h.0;
      long = body.long;
      body = λ i. Some
          (Response (call i) (body.flagged i) (body.context_id i) (body.alloc_hint i) (body.data_there i));
    }
parts Client (Fault id context status) bytes h =
    let call = h.0.call_id in
    let body = h.1 in
    record {
      side_is = refl;
      header = h.0;
      long = body.long;
      body = λ i. Some (Fault (call i) (body.context_id i) (body.code i));
    }
parts Client (BindAck id xmit recv group outcomes) bytes h =
    let sizes = h.1.sizes in
    let call = h.0.call_id in
    let read : body_of kind.BindAck bytes
    ≡ Some (BindAck (u32_at bytes 12) (u16_at bytes 16) (u16_at bytes 18) (u32_at bytes 20) outcomes) =
    rw (answer_reads bytes xmit recv group outcomes h.1) refl in
    record {
      side_is = refl;
      header = h.0;
      long = h.1.long;
      body = read
          ∙ (λ i. Some (BindAck (call i) (sizes.xmit_frag i) (sizes.recv_frag i) (sizes.group_id i) outcomes));
    }
parts Client (BindNak id reason) bytes h =
    let call = h.0.call_id in
    let body = h.1 in
    record { side_is = refl; header = h.0; long = body.long; body = λ i. Some (BindNak (call i) (body.reason_is i)) }
parts Client (AlterResp id xmit recv group outcomes) bytes h =
    let sizes = h.1.sizes in
    let call = h.0.call_id in
    let read : body_of kind.AlterResp bytes
    ≡ Some (AlterResp (u32_at bytes 12) (u16_at bytes 16) (u16_at bytes 18) (u32_at bytes 20) outcomes) =
    rw (answer_reads bytes xmit recv group outcomes h.1) refl in
    record {
      side_is = refl;
      header = h.0;
      long = h.1.long;
      body = read
          ∙ (λ i. Some (AlterResp (call i) (sizes.xmit_frag i) (sizes.recv_frag i) (sizes.group_id i) outcomes));
    }
parts Server (Response id flags context hint stub) bytes h = absurd h
parts Server (Fault id context status) bytes h = absurd h
parts Server (BindAck id xmit recv group outcomes) bytes h = absurd h
parts Server (BindNak id reason) bytes h = absurd h
parts Server (AlterResp id xmit recv group outcomes) bytes h = absurd h
parts Client (Request id flags context opnum stub) bytes h = absurd h
parts Client (Bind id xmit recv group elements) bytes h = absurd h
parts Client (Alter id xmit recv group elements) bytes h = absurd h
parts Client (Cancel id) bytes h = absurd h
parts Client (Orphaned id) bytes h = absurd h

pub exact_from : (side : Side) (pdu : Pdu) (size : ℕ) (bytes : List ℕ) → size ≤ length bytes
    → IsPdu side pdu (take size bytes) → front side bytes ≡ Whole pdu size
exact_from side pdu size bytes le is =
    let p = parts side pdu (take size bytes) is in
    let h = p.header in
    let len = length-take-le size bytes le in
    let least = least_16 (kind_of_pdu pdu) (get_or (take size bytes) 3 0) in
    let enough = p.long in
    let low : 16 ≤ size = omega (arith, len, least, enough) in
    let at : (i : ℕ) → i < 16 → get_or (take 16 bytes) i 0 ≡ get_or (take size bytes) i 0 =
    λ i lt. sym (head_at bytes size i low lt) in
    let b1 = at 1 (omega arith) in
    let b8 = at 8 (omega arith) in
    let b9 = at 9 (omega arith) in
    let b10 = at 10 (omega arith) in
    let b11 = at 11 (omega arith) in
    let minor = h.minor in
    let frag = h.frag_length in
    let auth = h.auth_length in
    let known : kind_of side (get_or (take 16 bytes) 2 0) ≡ Some (kind_of_pdu pdu) =
    ap (λ (t : ℕ). kind_of side t) (at 2 (omega arith) ∙ h.kind)
    ∙ ap (λ (s : Side). kind_of s (type_of pdu)) p.side_is ∙ kind_is_read pdu in
    let size_is : u16_at (take 16 bytes) 8 ≡ size = omega (arith, b8, b9, frag, len) in
    let fits : least_length (kind_of_pdu pdu) (get_or (take size bytes) 3 0) ≤ u16_at (take 16 bytes) 8 =
    omega (arith, enough, size_is, len) in
    let long : IsLong side (take 16 bytes) (kind_of_pdu pdu) size =
    record {
      version = at 0 (omega arith) ∙ h.version;
      minor = omega (arith, b1, minor);
      integers = at 4 (omega arith) ∙ h.integers;
      floats = at 5 (omega arith) ∙ h.floats;
      known = known;
      enough = rw (at 3 (omega arith)) fits;
      verifier = omega (arith, b10, b11, auth);
      size_is = size_is;
    } in
    has_front side bytes pdu size
    (record {
      kind = kind_of_pdu pdu;
      header = long_header side (take 16 bytes) (kind_of_pdu pdu) size long;
      sixteen = low;
      there = le;
      body = p.body;
    })

pub exact : IsExact
exact = λ side pdu size bytes. (exact_to side pdu size bytes, λ h. exact_from side pdu size bytes h.0 h.1)

-- the header of a PDU has the number of its type and its call id
pub named : (side : Side) (pdu : Pdu) (bytes : List ℕ) → IsPdu side pdu bytes
    → IsHeader bytes (type_of pdu) (call_id pdu)
named side pdu bytes is = (parts side pdu bytes is).header
