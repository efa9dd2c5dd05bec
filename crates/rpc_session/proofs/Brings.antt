-- The responses bring the stub.
use Rattle.std.proofs.Common.{◌≡◌, ℕ, zero, suc, ◌≤◌, ◌<◌, Bool, true, false, leb, List, [], ◌∷◌, ◌++◌, length, take}
use Rattle.std.proofs.Common.{drop, refl, sym, ap, ◌∙◌, arith, length-drop}
use Rattle.std.specs.List.{concat}
use Rattle.std.proofs.lemmas.Bool.{leb-true, leb-false}
use Rattle.std.proofs.lemmas.List.{append-nil, length-take-le, take-append-drop}
use Rattle.rpc_session.specs.Answers.{cut_stub, first_flag, most_of, response, BringsStub, RepliesBringStubs}
use Rattle.rpc_session.proofs.Parts.{one_last, one_more}

abbrev Brings : ℕ → ℕ → ℕ → Bool → List ℕ → Type 0
Brings id context most first stub = BringsStub id context most first stub (cut_stub (response id context) most first stub)

last_part : (id context most : ℕ) (first : Bool) (stub : List ℕ) → length stub ≤ most
    → Brings id context most first stub
last_part id context most first stub le =
    record {
      part = stub;
      others = [];
      cut = le;
      joined = append-nil stub;
      bytes_are = one_last (response id context) most first stub le;
    }

more_parts : (id context most : ℕ) (first : Bool) (stub : List ℕ) → 0 < most → most < length stub
    → Brings id context most false (drop most stub) → Brings id context most first stub
more_parts id context most first stub pos lt r =
    let len = length-drop most stub in
    let counted : length (drop most stub) ≡ length (concat (r.part ∷ r.others)) =
    ap (λ (x : List ℕ). length x) (sym r.joined) in
    let joined : concat (take most stub ∷ r.part ∷ r.others) ≡ stub = ap (λ (x : List ℕ). take most stub ++ x) r.joined
    ∙ take-append-drop most stub in
    record {
      part = take most stub;
      others = r.part ∷ r.others;
      cut = (length-take-le most stub (omega (arith, lt)), omega (arith, len, counted, lt), r.cut);
      joined = joined;
      bytes_are =
          one_more (response id context) most first stub pos lt
          ∙ ap (λ (n : ℕ). response id context (first_flag first) n (take most stub)
          ++ cut_stub (response id context) most false (drop most stub)) (ap (λ (x : List ℕ). length x) (sym joined))
          ∙ ap (λ (x : List ℕ). response id context (first_flag first)
          (length (concat (take most stub ∷ r.part ∷ r.others))) (take most stub) ++ x) r.bytes_are;
    }

brings_in : (turns id context most : ℕ) (first : Bool) (stub : List ℕ) → 0 < most → length stub ≤ turns
    → Brings id context most first stub
brings_in zero id context most first stub pos le = last_part id context most first stub (omega (arith, le))
brings_in (suc turns) id context most first stub pos le =
    let P : Bool → Type 0 = λ b. leb (length stub) most ≡ b → Brings id context most first stub in
    let split : (b : Bool) → P b = λ b. elim b as P [
      | true ↦ λ is. last_part id context most first stub (leb-true _ _ is)
      | false ↦ λ is.
          let lt : most < length stub = leb-false _ _ is in
          let len = length-drop most stub in
          more_parts id context most first stub pos lt
          (brings_in turns id context most false (drop most stub) pos (omega (arith, len, lt, pos, le)))
    ] in
    split (leb (length stub) most) refl

pub replies_bring_stubs : RepliesBringStubs
replies_bring_stubs id context size stub low =
    brings_in (length stub) id context (most_of size) true stub (omega (arith, low)) (omega arith)
