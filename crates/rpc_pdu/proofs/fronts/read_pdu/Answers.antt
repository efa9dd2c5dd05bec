-- A bad header is refused, a whole PDU has its type, id and bounds, and only a body that takes memory may run out.
use Rattle.std.proofs.Common.{◌≡◌, ◌≤◌, true, List, ℕ, length, get_or, take, Err, subst, sym, ap, ◌∙◌, arith, rules, w8}
use Rattle.std.proofs.Math.Facts.{Fits-lt-pow}
use Rattle.std.proofs.lemmas.List.{get_or-take, length-take-le}
use Rattle.rpc_pdu.specs.declared.headers.Header.TheVariants.{Long}
use Rattle.rpc_pdu.specs.Headers.{least_length, header_of, u32_at}
use Rattle.acct_base.specs.declared.fields.Unread.{Unread}
use Rattle.rpc_pdu.specs.declared.pdus.Pdu.{Pdu}
use Rattle.rpc_pdu.specs.Bodies.{body_of, takes_memory, WantsOnlyIf, Whole, front}
use Rattle.rpc_pdu.specs.Written.{type_of, call_id}
use Rattle.rpc_pdu.proofs.HeaderFacts.{header_long, long_16, bad_early}
use Rattle.rpc_pdu.proofs.Whole.{has_front, head_at, call_at}
use Rattle.rpc_pdu.proofs.Stubs.{stub_within}
use Rattle.rpc_pdu.proofs.Exact.{exact_to, named}
use Rattle.rpc_pdu.proofs.Bounds.{AreBytes, bytes-take, few, whole, room}
use Rattle.rpc_pdu.proofs.fronts.read_pdu.Goals as goal

pub body_of-requires-clause-header : goal.body_of-requires-clause-header
body_of-requires-clause-header c =
    let low = long_16 c.args.side c.split_at.result.0.now c.in-Long.kind c.in-Long.size (sym c.in-Long.ensures) in
    let len : length c.split_at-in-Long.result.0.now ≡ c.in-Long.size = ap length c.split_at-in-Long.ensures.front
    ∙ length-take-le _ _ c.if-bytes-used.false in
    omega (arith, low, len)

pub body_of-requires-clause-long : goal.body_of-requires-clause-long
body_of-requires-clause-long c =
    let h = header_long c.args.side c.split_at.result.0.now c.in-Long.kind c.in-Long.size (sym c.in-Long.ensures) in
    let low = long_16 c.args.side c.split_at.result.0.now c.in-Long.kind c.in-Long.size (sym c.in-Long.ensures) in
    let len : length c.split_at-in-Long.result.0.now ≡ c.in-Long.size = ap length c.split_at-in-Long.ensures.front
    ∙ length-take-le _ _ c.if-bytes-used.false in
    let flags : get_or c.split_at-in-Long.result.0.now 3 0 ≡ get_or c.split_at.result.0.now 3 0 =
    ap (λ (x : List ℕ). get_or x 3 0) c.split_at-in-Long.ensures.front
    ∙ head_at c.args.bytes.now c.in-Long.size 3 low (omega arith)
    ∙ ap (λ (x : List ℕ). get_or x 3 0) (sym c.split_at.ensures.front) in
    let enough = h.enough in
    let is = h.size_is in
    let fits : least_length c.in-Long.kind
    (get_or c.split_at.result.0.now 3 0) ≤ length c.split_at-in-Long.result.0.now =
    omega (arith, enough, is, len) in
    rw flags fits

pub returns-in-Bad-clause-front : goal.returns-in-Bad-clause-front
unfolding front
returns-in-Bad-clause-front c =
    let early = bad_early c.args.side c.split_at.result.0.now c.in-Bad.place c.in-Bad.cause (sym c.in-Bad.ensures) in
    let long = c.if-bytes-lt16.false in
    (search rules, omega (arith, early, long))

whole_front : (c : goal.After-u32_at-in-Ok) → front c.args.side c.args.bytes.now ≡ Whole c.in-Ok.pdu c.in-Long.size
whole_front c =
    let low = long_16 c.args.side c.split_at.result.0.now c.in-Long.kind c.in-Long.size (sym c.in-Long.ensures) in
    let header : header_of c.args.side (take 16 c.args.bytes.now) ≡ Long c.in-Long.kind c.in-Long.size =
    ap (λ (x : List ℕ). header_of c.args.side x) (sym c.split_at.ensures.front) ∙ sym c.in-Long.ensures in
    has_front c.args.side c.args.bytes.now c.in-Ok.pdu c.in-Long.size
    (record {
      kind = c.in-Long.kind;
      header = header;
      sixteen = low;
      there = c.if-bytes-used.false;
      body = ap (λ (x : List ℕ). body_of c.in-Long.kind x) (sym c.split_at-in-Long.ensures.front)
          ∙ c.in-Ok.ensures.says;
    })

pub returns-in-Ok-clause-front : goal.returns-in-Ok-clause-front
returns-in-Ok-clause-front c =
    let head = c.split_at.result.0.now in
    let bytes = c.args.bytes.now in
    let low = long_16 c.args.side head c.in-Long.kind c.in-Long.size (sym c.in-Long.ensures) in
    let is = named c.args.side c.in-Ok.pdu (take c.in-Long.size bytes)
    (exact_to c.args.side c.in-Ok.pdu c.in-Long.size bytes (whole_front c)).1 in
    let ptype : get_or head 2 0 ≡ type_of c.in-Ok.pdu = ap (λ (x : List ℕ). get_or x 2 0) c.split_at.ensures.front
    ∙ sym (head_at bytes c.in-Long.size 2 low (omega arith)) ∙ is.kind in
    let id : c.u32_at-in-Ok.result ≡ call_id c.in-Ok.pdu = c.u32_at-in-Ok.ensures
    ∙ ap (λ (x : List ℕ). u32_at x 12) c.split_at.ensures.front ∙ sym (call_at bytes c.in-Long.size low)
    ∙ is.call_id in
    (whole_front c, low, c.if-bytes-used.false, ptype, id)

pub returns-in-Ok-clause-bounds : goal.returns-in-Ok-clause-bounds
returns-in-Ok-clause-bounds c =
    let len : length c.split_at-in-Long.result.0.now ≡ c.in-Long.size = ap length c.split_at-in-Long.ensures.front
    ∙ length-take-le _ _ c.if-bytes-used.false in
    let stub = stub_within c.in-Long.kind c.split_at-in-Long.result.0.now c.in-Ok.pdu c.in-Ok.ensures.says in
    let h = header_long c.args.side c.split_at.result.0.now c.in-Long.kind c.in-Long.size (sym c.in-Long.ensures) in
    let is = h.size_is in
    let are : AreBytes c.args.bytes.now = λ i. Fits-lt-pow {w = w8} (c.type_inv.bytes i) in
    let low : get_or c.split_at.result.0.now 8 0 ≡ get_or c.args.bytes.now 8 0 =
    ap (λ (x : List ℕ). get_or x 8 0) c.split_at.ensures.front
    ∙ get_or-take 16 c.args.bytes.now 8 0 (omega arith) in
    let high : get_or c.split_at.result.0.now 9 0 ≡ get_or c.args.bytes.now 9 0 =
    ap (λ (x : List ℕ). get_or x 9 0) c.split_at.ensures.front
    ∙ get_or-take 16 c.args.bytes.now 9 0 (omega arith) in
    let eight = are 8 in
    let nine = are 9 in
    let pdu = (exact_to c.args.side c.in-Ok.pdu c.in-Long.size c.args.bytes.now (whole_front c)).1 in
    let most : c.in-Long.size ≤ 65535 = omega (arith, is, low, high, eight, nine) in
    let took = length-take-le c.in-Long.size c.args.bytes.now c.if-bytes-used.false in
    record {
      size_most = most;
      stub_most = rw len at stub;
      few_parts = few c.args.side c.in-Ok.pdu (take c.in-Long.size c.args.bytes.now)
          (bytes-take c.in-Long.size c.args.bytes.now are) pdu;
      written_most =
          room c.args.side c.in-Ok.pdu (take c.in-Long.size c.args.bytes.now) (omega (arith, most, took)) pdu;
      whole_ids = whole c.args.side c.in-Ok.pdu (take c.in-Long.size c.args.bytes.now) pdu;
    }

pub returns-in-Err-Memory-clause-front : goal.returns-in-Err-Memory-clause-front
returns-in-Err-Memory-clause-front c =
    let header : header_of c.args.side (take 16 c.args.bytes.now) ≡ Long c.in-Long.kind c.in-Long.size =
    ap (λ (x : List ℕ). header_of c.args.side x) (sym c.split_at.ensures.front) ∙ sym c.in-Long.ensures in
    let takes : takes_memory c.in-Long.kind c.split_at-in-Long.result.0.now ≡ true =
    subst (λ (e : Unread). WantsOnlyIf {A = Pdu} (takes_memory c.in-Long.kind c.split_at-in-Long.result.0.now) (Err e))
    c.in-Err-Memory.field-0-is c.in-Err-Memory.ensures.wants in
    record {
      kind = c.in-Long.kind;
      size = c.in-Long.size;
      header = header;
      there = c.if-bytes-used.false;
      taken = ap (λ (x : List ℕ). takes_memory c.in-Long.kind x) (sym c.split_at-in-Long.ensures.front) ∙ takes;
    }
