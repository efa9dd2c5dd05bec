-- What a header that gives a length comes to.
use Rattle.std.proofs.Common.{◌≡◌, ℕ, ◌≤◌, Bool, true, false, cond, ltb, leb, ◌==◌, not, ◌&&◌, List, get_or, Option}
use Rattle.std.proofs.Common.{Some, None, refl, sym, subst, ap, arith, inl, inr, ◌⊎◌}
use Rattle.std.proofs.lemmas.Bool.{ltb-false, le-ltb, leb-true, le-leb, eqb-true, eq-eqb, not-false, and_parts}
use Rattle.rpc_pdu.specs.declared.pdus.Side.{Side}
use Rattle.rpc_pdu.specs.declared.headers.Kind.{Kind}
use Rattle.rpc_pdu.specs.declared.headers.Kind.TheVariants.{Request, Response, Fault, Bind, BindAck, BindNak, Alter}
use Rattle.rpc_pdu.specs.declared.headers.Kind.TheVariants.{AlterResp, Cancel, Orphaned}
use Rattle.rpc_pdu.specs.declared.headers.Header.{Header}
use Rattle.rpc_pdu.specs.declared.headers.Header.TheVariants.{Bad, Long}
use Rattle.rpc_pdu.specs.Headers.{u16_at, kind_of, has_object, least_length, sized, header_of}

pub chosen : {A : Type 0} (b : Bool) (x y z : A) → cond b x y ≡ z → ((b ≡ true) × (x ≡ z)) ⊎ ((b ≡ false) × (y ≡ z))
chosen true x y z e = inl (refl, e)
chosen false x y z e = inr (refl, e)

pub least_16 : (kind : Kind) (flags : ℕ) → 16 ≤ least_length kind flags
least_16 Request flags =
    elim (has_object flags) as (λ b. 16 ≤ cond b 40 24) [ true ↦ omega arith | false ↦ omega arith ]
least_16 Response flags = omega arith
least_16 Fault flags = omega arith
least_16 Bind flags = omega arith
least_16 BindAck flags = omega arith
least_16 BindNak flags = omega arith
least_16 Alter flags = omega arith
least_16 AlterResp flags = omega arith
least_16 Cancel flags = omega arith
least_16 Orphaned flags = omega arith

-- the 16 bytes of a PDU of a type that the side reads, of so many bytes
pub record IsLong (side : Side) (head : List ℕ) (kind : Kind) (size : ℕ) : Type 0 where
  pub version : get_or head 0 0 ≡ 5
  pub minor : get_or head 1 0 ≤ 1
  pub integers : get_or head 4 0 ≡ 0x10
  pub floats : get_or head 5 0 ≡ 0
  pub known : kind_of side (get_or head 2 0) ≡ Some kind
  pub enough : least_length kind (get_or head 3 0) ≤ u16_at head 8
  pub verifier : u16_at head 10 ≡ 0
  pub size_is : u16_at head 8 ≡ size

pub record IsSized (head : List ℕ) (known : Option Kind) (is : Kind) (size : ℕ) : Type 0 where
  pub known_is : known ≡ Some is
  pub enough : least_length is (get_or head 3 0) ≤ u16_at head 8
  pub verifier : u16_at head 10 ≡ 0
  pub size_is : u16_at head 8 ≡ size

sized_long : (head : List ℕ) (known : Option Kind) (is : Kind) (size : ℕ) → sized head known ≡ Long is size
    → IsSized head known is size
sized_long head None is size e = absurd cc
sized_long head (Some k) is size e =
    elim (chosen (ltb (u16_at head 8) (least_length k (get_or head 3 0))) _ _ _ e) [
      | inl p ↦ let q = p.1 in absurd cc
      | inr p ↦ elim (chosen (u16_at head 10 == 0) _ _ _ p.1) [
        | inl q ↦
            let long : Long k (u16_at head 8) ≡ Long is size = q.1 in
            let same : k ≡ is = cc in
            let size_same : u16_at head 8 ≡ size = cc in
            let le : least_length k (get_or head 3 0) ≤ u16_at head 8 = ltb-false _ _ p.0 in
            record {
              known_is = ap (λ (x : Kind). Some x) same;
              enough = rw (sym same) le;
              verifier = eqb-true _ _ q.0;
              size_is = size_same;
            }
        | inr q ↦ let r = q.1 in absurd cc
      ]
    ]

pub header_long : (side : Side) (head : List ℕ) (kind : Kind) (size : ℕ) → header_of side head ≡ Long kind size
    → IsLong side head kind size
unfolding header_of
header_long side head kind size e =
    elim (chosen (not ((get_or head 0 0 == 5) && leb (get_or head 1 0) 1)) _ _ _ e) [
      | inl p ↦ let q = p.1 in absurd cc
      | inr p ↦ elim (chosen (not ((get_or head 4 0 == 0x10) && (get_or head 5 0 == 0))) _ _ _ p.1) [
        | inl q ↦ let r = q.1 in absurd cc
        | inr q ↦
            let s = sized_long head (kind_of side (get_or head 2 0)) kind size q.1 in
            let versions = and_parts _ _ (not-false _ p.0) in
            let formats = and_parts _ _ (not-false _ q.0) in
            record {
              version = eqb-true _ _ versions.0;
              minor = leb-true _ _ versions.1;
              integers = eqb-true _ _ formats.0;
              floats = eqb-true _ _ formats.1;
              known = s.known_is;
              enough =
                  s.enough;
              verifier = s.verifier;
              size_is = s.size_is;
            }
      ]
    ]

pub long_header : (side : Side) (head : List ℕ) (kind : Kind) (size : ℕ) → IsLong side head kind size
    → header_of side head ≡ Long kind size
unfolding header_of
long_header side head kind size h =
    let version : (get_or head 0 0 == 5) ≡ true = eq-eqb _ _ h.version in
    let minor : leb (get_or head 1 0) 1 ≡ true = le-leb _ _ h.minor in
    let integers : (get_or head 4 0 == 0x10) ≡ true = eq-eqb _ _ h.integers in
    let floats : (get_or head 5 0 == 0) ≡ true = eq-eqb _ _ h.floats in
    let enough : ltb (u16_at head 8) (least_length kind (get_or head 3 0)) ≡ false = le-ltb _ _ h.enough in
    let verifier : (u16_at head 10 == 0) ≡ true = eq-eqb _ _ h.verifier in
    rw (version, minor, integers, floats, h.known, enough, verifier, h.size_is) refl

pub long_16 : (side : Side) (head : List ℕ) (kind : Kind) (size : ℕ) → header_of side head ≡ Long kind size → 16 ≤ size
long_16 side head kind size e =
    let h = header_long side head kind size e in
    let low = least_16 kind (get_or head 3 0) in
    let enough = h.enough in
    let is = h.size_is in
    omega (arith, low, enough, is)

-- a refusal stands within the header
abbrev pub IsEarly : Header → Type 0
IsEarly (Bad place cause) = place ≤ 10
IsEarly (Long known size) = Unit {0}

sized_early : (head : List ℕ) (known : Option Kind) → IsEarly (sized head known)
sized_early head None = omega arith
sized_early head (Some known) =
    elim (ltb (u16_at head 8) (least_length known (get_or head 3 0))) as
    (λ b. IsEarly (cond b (Bad 8 4) (cond (u16_at head 10 == 0) (Long known (u16_at head 8)) (Bad 10 5)))) [
      | true ↦ omega arith
      | false ↦ elim (u16_at head 10 == 0) as
          (λ b. IsEarly (cond b (Long known (u16_at head 8)) (Bad 10 5))) [ true ↦ tt | false ↦ omega arith ]
    ]

pub header_early : (side : Side) (head : List ℕ) → IsEarly (header_of side head)
unfolding header_of
header_early side head =
    let rest = sized head (kind_of side (get_or head 2 0)) in
    elim (not ((get_or head 0 0 == 5) && leb (get_or head 1 0) 1)) as
    (λ b. IsEarly
    (cond b (Bad 0 1) (cond (not ((get_or head 4 0 == 0x10) && (get_or head 5 0 == 0))) (Bad 4 2) rest))) [
      | true ↦ omega arith
      | false ↦ elim (not ((get_or head 4 0 == 0x10) && (get_or head 5 0 == 0))) as
          (λ b. IsEarly (cond b (Bad 4 2) rest)) [
            | true ↦ omega arith
            | false ↦ sized_early head
                (kind_of side (get_or head 2 0))
          ]
    ]

pub bad_early : (side : Side) (head : List ℕ) (place cause : ℕ) → header_of side head ≡ Bad place cause → place ≤ 10
bad_early side head place cause e = subst (λ (h : Header). IsEarly h) e (header_early side head)
