-- What is written is a PDU of the grammar, and read back.
use Rattle.std.proofs.Common.{◌≡◌, ℕ, ◌+◌, List, [], ◌++◌, length, take, sym, ap, subst, ◌∙◌, arith}
use Rattle.std.proofs.lemmas.List.{append-nil}
use Rattle.std.proofs.Math.Seq.{take-length}
use Rattle.rpc_pdu.specs.declared.pdus.Pdu.{Pdu}
use Rattle.rpc_pdu.specs.Bodies.{Whole, front}
use Rattle.rpc_pdu.specs.Grammar.{IsPdu}
use Rattle.rpc_pdu.specs.Written.{type_of, flags_of, call_id, header_bytes, body_bytes, reader_of, size_of, written}
use Rattle.rpc_pdu.specs.Written.{HasWholeIds, LacksObject}
use Rattle.rpc_pdu.specs.Laws.{AreReadBack}
use Rattle.rpc_pdu.proofs.Sizes.{length-body_bytes, length-written}
use Rattle.rpc_pdu.proofs.ReadBack.{written_front}
use Rattle.rpc_pdu.proofs.Exact.{exact_to}

written_pdu : (pdu : Pdu) → HasWholeIds pdu → LacksObject pdu → IsPdu (reader_of pdu) pdu (written pdu)
written_pdu pdu whole lacks =
    let alone : front (reader_of pdu) (written pdu) ≡ Whole pdu (size_of pdu) =
    ap (λ (x : List ℕ). front (reader_of pdu) x) (sym (append-nil (written pdu)))
    ∙ written_front pdu whole lacks [] in
    let all : take (size_of pdu) (written pdu) ≡ written pdu =
    ap (λ (n : ℕ). take n (written pdu)) (sym (length-written pdu)) ∙ take-length (written pdu) in
    let P : List ℕ → Type 0 = λ bytes. IsPdu (reader_of pdu) pdu bytes in
    subst P all (exact_to (reader_of pdu) pdu (size_of pdu) (written pdu) alone).1

pub read_back : AreReadBack
read_back = λ pdu whole. record {
  size = length-written pdu;
  back = written_front pdu whole;
  pdu_of = written_pdu pdu whole;
}

-- the number of a body's bytes, and of its PDU
pub size_from : (pdu : Pdu) (body : List ℕ) (len : ℕ) → body ≡ body_bytes pdu → len ≡ length body
    → 16 + len ≡ size_of pdu
size_from pdu body len is counted =
    let same : len ≡ length (body_bytes pdu) = counted ∙ ap length is in
    let total = length-body_bytes pdu in
    omega (arith, same, total)

-- a header and a body are what is written
pub written_from : (pdu : Pdu) (ptype flags len id : ℕ) (body header : List ℕ) → body ≡ body_bytes pdu
    → len ≡ length body → ptype ≡ type_of pdu → flags ≡ flags_of pdu → id ≡ call_id pdu
    → header ≡ header_bytes ptype flags (16 + len) id
    → header ++ body ≡ written pdu
unfolding written
written_from pdu ptype flags len id body header is counted type_is flags_are id_is header_is =
    let size = size_from pdu body len is counted in
    let whole : header ≡ header_bytes (type_of pdu) (flags_of pdu) (size_of pdu) (call_id pdu) = header_is
    ∙ (λ i. header_bytes (type_is i) (flags_are i) (size i) (id_is i)) in
    (λ i. whole i ++ is i)
