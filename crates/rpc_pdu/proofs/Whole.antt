-- A whole PDU at the beginning, by its parts, and what is decided of a longer stream.
use Rattle.std.proofs.Common.{◌≡◌, ℕ, ◌+◌, ◌*◌, ◌^◌, ◌≤◌, ◌<◌, Bool, true, false, cond, ltb, List, ◌++◌, length, get_or}
use Rattle.std.proofs.Common.{take, Option, Some, None, refl, sym, ap, ◌∙◌, arith, inl, inr, length-append}
use Rattle.std.proofs.lemmas.Bool.{ltb-false, le-ltb}
use Rattle.std.proofs.lemmas.List.{take-append-le, get_or-take}
use Rattle.rpc_pdu.specs.declared.pdus.Side.{Side}
use Rattle.rpc_pdu.specs.declared.pdus.Pdu.{Pdu}
use Rattle.rpc_pdu.specs.declared.headers.Kind.{Kind}
use Rattle.rpc_pdu.specs.declared.headers.Header.{Header}
use Rattle.rpc_pdu.specs.declared.headers.Header.TheVariants.{Bad, Long}
use Rattle.rpc_pdu.specs.Headers.{header_of, u32_at}
use Rattle.rpc_pdu.specs.Bodies.{body_of, Whole, Rest, front_of_body, front_of_header, front}
use Rattle.rpc_pdu.specs.Laws.{Stays, IsStable}
use Rattle.rpc_pdu.proofs.HeaderFacts.{chosen, long_16, bad_early}

-- the parts of a whole PDU at the beginning
pub record HasWhole (side : Side) (bytes : List ℕ) (pdu : Pdu) (size : ℕ) : Type 0 where
  pub kind : Kind
  pub header : header_of side (take 16 bytes) ≡ Long kind size
  pub sixteen : 16 ≤ size
  pub there : size ≤ length bytes
  pub body : body_of kind (take size bytes) ≡ Some pdu

front_long : (side : Side) (bytes : List ℕ) → 16 ≤ length bytes
    → front side bytes ≡ front_of_header (take 16 bytes) bytes (header_of side (take 16 bytes))
unfolding front
front_long side bytes h = let k : ltb (length bytes) 16 ≡ false = le-ltb _ _ h in rw k refl

pub has_front : (side : Side) (bytes : List ℕ) (pdu : Pdu) (size : ℕ) → HasWhole side bytes pdu size
    → front side bytes ≡ Whole pdu size
has_front side bytes pdu size h =
    let sixteen = h.sixteen in
    let there = h.there in
    let enough : ltb (length bytes) size ≡ false = le-ltb _ _ there in
    front_long side bytes (omega (arith, sixteen, there)) ∙ rw (h.header, enough, h.body) refl

body_whole : (head : List ℕ) (size n : ℕ) (o : Option Pdu) (pdu : Pdu) → front_of_body head size o ≡ Whole pdu n
    → (o ≡ Some pdu) × (size ≡ n)
body_whole head size n None pdu e = absurd cc
body_whole head size n (Some p) pdu e = let same : p ≡ pdu = cc in (ap (λ (x : Pdu). Some x) same, cc)

header_whole : (side : Side) (bytes : List ℕ) (h : Header) (pdu : Pdu) (size : ℕ) → header_of side (take 16 bytes) ≡ h
    → front_of_header (take 16 bytes) bytes h ≡ Whole pdu size → HasWhole side bytes pdu size
header_whole side bytes (Bad place cause) pdu size is e = absurd cc
header_whole side bytes (Long kind n) pdu size is e =
    elim (chosen (ltb (length bytes) n) _ _ _ e) [
      | inl p ↦ let q = p.1 in absurd cc
      | inr p ↦
          let b = body_whole (take 16 bytes) n size (body_of kind (take n bytes)) pdu p.1 in
          let le : n ≤ length bytes = ltb-false _ _ p.0 in
          let low = long_16 side (take 16 bytes) kind n is in
          rw (sym b.1) (record { kind = kind; header = is; sixteen = low; there = le; body = b.0 })
    ]

pub front_has : (side : Side) (bytes : List ℕ) (pdu : Pdu) (size : ℕ) → front side bytes ≡ Whole pdu size
    → HasWhole side bytes pdu size
unfolding front
front_has side bytes pdu size e =
    elim (chosen (ltb (length bytes) 16) _ _ _ e) [
      | inl p ↦ let q = p.1 in absurd cc
      | inr p ↦ header_whole side bytes (header_of side (take 16 bytes)) pdu size refl p.1
    ]

stays_body : (side : Side) (a b head : List ℕ) (n : ℕ) (o : Option Pdu) → 16 ≤ n → n ≤ length a
    → front side (a ++ b) ≡ front_of_body head n o → Stays (front_of_body head n o) side a b
stays_body side a b head n None low le e = (e, omega (arith, low, le))
stays_body side a b head n (Some pdu) low le e = (e, low, le)

stays_header : (side : Side) (a b : List ℕ) (h : Header) → 16 ≤ length a → header_of side (take 16 a) ≡ h
    → front side (a ++ b) ≡ front_of_header (take 16 a) (a ++ b) h → Stays (front_of_header (take 16 a) a h) side a b
stays_header side a b (Bad place cause) long is e = let early =
    bad_early side (take 16 a) place cause is in (e, omega (arith, early, long))
stays_header side a b (Long kind n) long is e =
    let head = take 16 a in
    let P : Bool → Type 0 = λ t. ltb (length a) n ≡ t
    → Stays (cond t Rest (front_of_body head n (body_of kind (take n a)))) side a b in
    let split : (t : Bool) → P t = λ t. elim t as P [
      | true ↦ λ less. tt
      | false ↦ λ less.
          let le : n ≤ length a = ltb-false _ _ less in
          let more : ltb (length (a ++ b)) n ≡ false = le-ltb _ _ (omega (arith, le, length-append a b)) in
          let same : take n (a ++ b) ≡ take n a = take-append-le n a b le in
          stays_body side a b head n (body_of kind (take n a)) (long_16 side head kind n is) le
          (e ∙ ap (λ (t : Bool). cond t Rest (front_of_body head n (body_of kind (take n (a ++ b))))) more
          ∙ ap (λ (x : List ℕ). front_of_body head n (body_of kind x)) same)
    ] in
    split (ltb (length a) n) refl

pub stable : IsStable
unfolding front
stable = λ side a b.
    let P : Bool → Type 0 = λ t. ltb (length a) 16 ≡ t
    → Stays (cond t Rest (front_of_header (take 16 a) a (header_of side (take 16 a)))) side a b in
    let split : (t : Bool) → P t = λ t. elim t as P [
      | true ↦ λ less. tt
      | false ↦ λ less.
          let le : 16 ≤ length a = ltb-false _ _ less in
          let same : take 16 (a ++ b) ≡ take 16 a = take-append-le 16 a b le in
          stays_header side a b (header_of side (take 16 a)) le refl
          (front_long side (a ++ b) (omega (arith, le, length-append a b))
          ∙ ap (λ (x : List ℕ). front_of_header x (a ++ b) (header_of side x)) same)
    ] in
    split (ltb (length a) 16) refl

-- the bytes of a header, in the whole PDU
pub head_at : (bytes : List ℕ) (n i : ℕ) → 16 ≤ n → i < 16 → get_or (take n bytes) i 0 ≡ get_or (take 16 bytes) i 0
head_at bytes n i le lt = get_or-take n bytes i 0 (omega (arith, lt, le)) ∙ sym (get_or-take 16 bytes i 0 lt)

-- the call id of a header, in the whole PDU
pub call_at : (bytes : List ℕ) (n : ℕ) → 16 ≤ n → u32_at (take n bytes) 12 ≡ u32_at (take 16 bytes) 12
call_at bytes n le =
    let a = head_at bytes n 12 le (omega arith) in
    let b = head_at bytes n 13 le (omega arith) in
    let c = head_at bytes n 14 le (omega arith) in
    let d = head_at bytes n 15 le (omega arith) in
    λ i. (a i + 2 ^ 8 * b i) + 2 ^ 16 * (c i + 2 ^ 8 * d i)
