-- Bytes are in one way whole PDUs one after the other, and an end.
use Rattle.std.proofs.Common.{◌≡◌, ℕ, zero, suc, ◌≤◌, ◌<◌, List, [], ◌∷◌, ◌++◌, length, take, drop, refl, sym, ap}
use Rattle.std.proofs.Common.{subst, ◌∙◌, arith, length-append}
use Rattle.std.proofs.Math.Seq.{take-append_seam, drop-append_seam}
use Rattle.std.proofs.lemmas.List.{take-append-drop, length-drop}
use Rattle.rpc_pdu.specs.declared.pdus.Side.{Side}
use Rattle.rpc_pdu.specs.declared.pdus.Pdu.{Pdu}
use Rattle.rpc_pdu.specs.Bodies.{Front, Whole, Rest, Refused, front}
use Rattle.rpc_pdu.specs.Grammar.{IsPdu}
use Rattle.rpc_pdu.specs.Laws.{IsEnd, IsDivided, AllDivideOnce}
use Rattle.rpc_pdu.proofs.Whole.{front_has}
use Rattle.rpc_pdu.proofs.Exact.{exact_to, exact_from}

-- a PDU and what follows it, at the beginning
part_front : (side : Side) (pdu : Pdu) (bytes rest : List ℕ) → IsPdu side pdu bytes
    → front side (bytes ++ rest) ≡ Whole pdu (length bytes)
part_front side pdu bytes rest is =
    let joined = length-append bytes rest in
    exact_from side pdu (length bytes) (bytes ++ rest) (omega (arith, joined))
    (subst (λ (x : List ℕ). IsPdu side pdu x) (sym (take-append_seam bytes rest)) is)

whole_is : (p q : Pdu) (m n : ℕ) → Whole p m ≡ Whole q n → (p ≡ q) × (m ≡ n)
whole_is p q m n e = (cc, cc)

abbrev Part : Type 0
Part = Pdu × List ℕ

abbrev Divided : Side → List ℕ → Type 0
Divided side bytes = (parts : List Part) × (end : List ℕ) × IsDivided side parts end bytes

step : (side : Side) (bytes : List ℕ) → ((rest : List ℕ) → length rest < length bytes → Divided side rest) → (f : Front)
    → front side bytes ≡ f → Divided side bytes
step side bytes next (Whole pdu size) e =
    let w = front_has side bytes pdu size e in
    let sixteen = w.sixteen in
    let there = w.there in
    let len = length-drop size bytes in
    let d = next (drop size bytes) (omega (arith, sixteen, there, len)) in (
      (pdu, take size bytes) ∷ d.0,
      d.1,
      (drop size bytes, sym (take-append-drop size bytes), (exact_to side pdu size bytes e).1, d.2),
    )
step side bytes next Rest e = ([], bytes, (refl, subst IsEnd (sym e) tt))
step side bytes next (Refused place cause ptype id) e = ([], bytes, (refl, subst IsEnd (sym e) tt))

divides : (turns : ℕ) (side : Side) (bytes : List ℕ) → length bytes ≤ turns → Divided side bytes
divides zero side bytes le = step side bytes (λ rest lt. absurd (omega (arith, le, lt))) (front side bytes) refl
divides (suc turns) side bytes le =
    step side bytes (λ rest lt. divides turns side rest (omega (arith, le, lt))) (front side bytes) refl

-- an end isn't a PDU and more
no_part : (side : Side) (bytes end : List ℕ) (part : Part) (rest : List ℕ) → bytes ≡ end → IsEnd (front side end)
    → bytes ≡ part.1 ++ rest → IsPdu side part.0 part.1 → ⊥
no_part side bytes end part rest same is_end split is =
    subst IsEnd (ap (λ (x : List ℕ). front side x) (sym same ∙ split) ∙ part_front side part.0 part.1 rest is) is_end

front_part : (side : Side) (bytes : List ℕ) (part : Part) (rest : List ℕ) → bytes ≡ part.1 ++ rest
    → IsPdu side part.0 part.1 → front side bytes ≡ Whole part.0 (length part.1)
front_part side bytes part rest split is = ap (λ (x : List ℕ). front side x) split
    ∙ part_front side part.0 part.1 rest is

once : (side : Side) (bytes : List ℕ) (ps : List Part) (end : List ℕ) → IsDivided side ps end bytes
    → (qs : List Part) (rest : List ℕ) → IsDivided side qs rest bytes → (qs ≡ ps) × (rest ≡ end)
once side bytes [] end h [] rest k = (refl, sym k.0 ∙ h.0)
once side bytes [] end h (q ∷ qs) rest k = absurd (no_part side bytes end q k.0 h.0 h.1 k.1 k.2)
once side bytes (p ∷ ps) end h [] rest k = absurd (no_part side bytes rest p h.0 k.0 k.1 h.1 h.2)
once side bytes (p ∷ ps) end h (q ∷ qs) rest k =
    let same = whole_is q.0 p.0 (length q.1) (length p.1) (sym (front_part side bytes q k.0 k.1 k.2)
    ∙ front_part side bytes p h.0 h.1 h.2) in
    let first : q.1 ≡ p.1 =
    sym (take-append_seam q.1 k.0) ∙ ap (λ (x : List ℕ). take (length q.1) x) (sym k.1)
    ∙ ap (λ (n : ℕ). take n bytes) same.1 ∙ ap (λ (x : List ℕ). take (length p.1) x) h.1
    ∙ take-append_seam p.1 h.0 in
    let after : k.0 ≡ h.0 =
    sym (drop-append_seam q.1 k.0) ∙ ap (λ (x : List ℕ). drop (length q.1) x) (sym k.1)
    ∙ ap (λ (n : ℕ). drop n bytes) same.1 ∙ ap (λ (x : List ℕ). drop (length p.1) x) h.1
    ∙ drop-append_seam p.1 h.0 in
    let P : List ℕ → Type 0 = λ x. IsDivided side qs rest x in
    let others = once side h.0 ps end h.3 qs rest (subst P after k.3) in
    let heads : q ≡ p = λ i. (same.0 i, first i) in
    (λ i. heads i ∷ others.0 i, others.1)

pub all_divide_once : AllDivideOnce
all_divide_once = λ side bytes.
    let d = divides (length bytes) side bytes (omega arith) in
    record { parts = d.0; end = d.1; divided = d.2; once = once side bytes d.0 d.1 d.2 }
