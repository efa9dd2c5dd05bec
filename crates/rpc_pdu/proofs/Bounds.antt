-- What is read can be written again.
use Rattle.std.proofs.Common.{◌≡◌, ℕ, ◌+◌, ◌*◌, ◌≤◌, ◌<◌, Bool, true, false, List, [], ◌∷◌, length, take, drop, get_or}
use Rattle.std.proofs.Common.{All, sym, ap, arith, refl, inl, inr}
use Rattle.std.specs.List.{AllByRecursion, sum_by}
use Rattle.std.proofs.lemmas.List.Sums.{sum_by-cons}
use Rattle.std.proofs.lemmas.Bool.{cases_lt}
use Rattle.std.proofs.lemmas.List.{get_or-take, get_or_past, length-take, length-drop}
use Rattle.std.proofs.lemmas.List.Elements.{All-from_recursion}
use Rattle.rpc_pdu.specs.declared.syntaxes.Syntax.{Syntax}
use Rattle.rpc_pdu.specs.declared.pdus.Side.{Side}
use Rattle.rpc_pdu.specs.declared.pdus.Side.TheVariants.{Server, Client}
use Rattle.rpc_pdu.specs.declared.pdus.Element.{Element}
use Rattle.rpc_pdu.specs.declared.pdus.Outcome.{Outcome}
use Rattle.rpc_pdu.specs.declared.pdus.Pdu.{Pdu}
use Rattle.rpc_pdu.specs.declared.pdus.Pdu.TheVariants.{Bind, Alter, Request, Cancel, Orphaned, BindAck, AlterResp}
use Rattle.rpc_pdu.specs.declared.pdus.Pdu.TheVariants.{BindNak, Response, Fault}
use Rattle.rpc_pdu.specs.Headers.{element_size, has_object}
use Rattle.rpc_pdu.specs.Grammar.{SyntaxAt, ElementAt, OutcomeAt, EachAt, IsBinding, IsBindingAnswer, IsRequest, IsPdu}
use Rattle.rpc_pdu.specs.Written.{size_of, HasFewTransfers, HasFewParts, IsWhole, IsWholeElement, IsWholeOutcome}
use Rattle.rpc_pdu.specs.Written.{HasWholeIds}
use Rattle.rpc_pdu.proofs.Places.{twenties}

abbrev pub AreBytes : List ℕ → Type 0
AreBytes bytes = (i : ℕ) → get_or bytes i 0 < 256

pub bytes-take : (n : ℕ) (bytes : List ℕ) → AreBytes bytes → AreBytes (take n bytes)
bytes-take n bytes are = λ i.
    elim (cases_lt i n) [
      | inl lt ↦ let same = get_or-take n bytes i 0 lt in let small = are i in omega (arith, same, small)
      | inr le ↦ let past : get_or (take n bytes) i 0 ≡ 0 =
          get_or_past (take n bytes) i 0 (let l = length-take n bytes in omega (arith, l, le)) in omega (arith, past)
    ]

-- ---- numbers of parts

each_few : (bytes : List ℕ) → AreBytes bytes → (elements : List Element) (place : ℕ)
    → EachAt ElementAt element_size bytes place elements → AllByRecursion HasFewTransfers elements
each_few bytes are [] place each = tt
each_few bytes are (e ∷ elements) place each =
    let count = each.0.count in
    let small = are (place + 2) in
    (omega (arith, count, small), each_few bytes are elements (place + element_size e) each.1)

few_elements : (bytes : List ℕ) (place at : ℕ) (elements : List Element) → AreBytes bytes
    → get_or bytes at 0 ≡ length elements → EachAt ElementAt element_size bytes place elements → (length elements ≤ 255)
    × All HasFewTransfers elements
few_elements bytes place at elements are count each = let small =
    are at in (
      omega (arith, count, small),
      All-from_recursion HasFewTransfers elements (each_few bytes are elements place each),
    )

few_outcomes : (bytes : List ℕ) (at : ℕ) (outcomes : List Outcome) → AreBytes bytes
    → get_or bytes at 0 ≡ length outcomes → length outcomes ≤ 255
few_outcomes bytes at outcomes are count = let small = are at in omega (arith, count, small)

pub few : (side : Side) (pdu : Pdu) (bytes : List ℕ) → AreBytes bytes → IsPdu side pdu bytes → HasFewParts pdu
few Server (Bind id xmit recv group elements) bytes are h =
    few_elements bytes 28 24 elements are h.1.count h.1.elements_there
few Server (Alter id xmit recv group elements) bytes are h =
    few_elements bytes 28 24 elements are h.1.count h.1.elements_there
few Client (BindAck id xmit recv group outcomes) bytes are h = few_outcomes bytes h.1.place outcomes are h.1.count
few Client (AlterResp id xmit recv group outcomes) bytes are h = few_outcomes bytes h.1.place outcomes are h.1.count
few side (Request id flags context opnum stub) bytes are h = tt
few side (Response id flags context hint stub) bytes are h = tt
few side (Fault id context status) bytes are h = tt
few side (BindNak id reason) bytes are h = tt
few side (Cancel id) bytes are h = tt
few side (Orphaned id) bytes are h = tt
few Client (Bind id xmit recv group elements) bytes are h = absurd h
few Client (Alter id xmit recv group elements) bytes are h = absurd h
few Server (BindAck id xmit recv group outcomes) bytes are h = absurd h
few Server (AlterResp id xmit recv group outcomes) bytes are h = absurd h

-- ---- UUIDs

whole_syntax : (bytes : List ℕ) (place : ℕ) (s : Syntax) → SyntaxAt bytes place s → IsWhole s
whole_syntax bytes place s at = sym (ap length at.uuid)

each_syntax : (bytes : List ℕ) (syntaxes : List Syntax) (place : ℕ)
    → EachAt SyntaxAt (λ syntax. 20) bytes place syntaxes → AllByRecursion IsWhole syntaxes
each_syntax bytes [] place each = tt
each_syntax bytes (s ∷ syntaxes) place each =
    (whole_syntax bytes place s each.0, each_syntax bytes syntaxes (place + 20) each.1)

each_element : (bytes : List ℕ) (elements : List Element) (place : ℕ)
    → EachAt ElementAt element_size bytes place elements → AllByRecursion IsWholeElement elements
each_element bytes [] place each = tt
each_element bytes (e ∷ elements) place each =
    let first : IsWholeElement e = (
      whole_syntax bytes (place + 4) e.subject each.0.subject,
      All-from_recursion IsWhole e.transfers (each_syntax bytes e.transfers (place + 24) each.0.transfers),
    ) in
    (first, each_element bytes elements (place + element_size e) each.1)

each_outcome : (bytes : List ℕ) (outcomes : List Outcome) (place : ℕ)
    → EachAt OutcomeAt (λ outcome. 24) bytes place outcomes → AllByRecursion IsWholeOutcome outcomes
each_outcome bytes [] place each = tt
each_outcome bytes (o ∷ outcomes) place each =
    (whole_syntax bytes (place + 4) o.syntax each.0.syntax, each_outcome bytes outcomes (place + 24) each.1)

pub whole : (side : Side) (pdu : Pdu) (bytes : List ℕ) → IsPdu side pdu bytes → HasWholeIds pdu
whole Server (Bind id xmit recv group elements) bytes h =
    All-from_recursion IsWholeElement elements (each_element bytes elements 28 h.1.elements_there)
whole Server (Alter id xmit recv group elements) bytes h =
    All-from_recursion IsWholeElement elements (each_element bytes elements 28 h.1.elements_there)
whole Client (BindAck id xmit recv group outcomes) bytes h =
    All-from_recursion IsWholeOutcome outcomes (each_outcome bytes outcomes (h.1.place + 4) h.1.outcomes_there)
whole Client (AlterResp id xmit recv group outcomes) bytes h =
    All-from_recursion IsWholeOutcome outcomes (each_outcome bytes outcomes (h.1.place + 4) h.1.outcomes_there)
whole side (Request id flags context opnum stub) bytes h = tt
whole side (Response id flags context hint stub) bytes h = tt
whole side (Fault id context status) bytes h = tt
whole side (BindNak id reason) bytes h = tt
whole side (Cancel id) bytes h = tt
whole side (Orphaned id) bytes h = tt
whole Client (Bind id xmit recv group elements) bytes h = absurd h
whole Client (Alter id xmit recv group elements) bytes h = absurd h
whole Server (BindAck id xmit recv group outcomes) bytes h = absurd h
whole Server (AlterResp id xmit recv group outcomes) bytes h = absurd h

-- ---- sizes

each_room : {A : Type 0} (At : List ℕ → ℕ → A → Type 0) (size : A → ℕ) (bytes : List ℕ)
    → ((place : ℕ) (x : A) → At bytes place x → place + size x ≤ length bytes)
    → (xs : List A) (place : ℕ) → place ≤ length bytes → EachAt At size bytes place xs
    → place + sum_by size xs ≤ length bytes
each_room At size bytes room [] place le each = let none : sum_by size [] ≡ 0 = refl in omega (arith, le, none)
each_room At size bytes room (x ∷ xs) place le each =
    let more = each_room At size bytes room xs (place + size x) (room place x each.0) each.1 in
    let summed = sum_by-cons size x xs in
    omega (arith, more, summed)

element_room : (bytes : List ℕ) (place : ℕ) (e : Element) → ElementAt bytes place e
    → place + element_size e ≤ length bytes
element_room bytes place e at =
    let there = at.subject.there in
    let more = each_room SyntaxAt (λ syntax. 20) bytes (λ place s at. at.there) e.transfers (place + 24)
    (omega (arith, there)) at.transfers in
    let twenty = twenties e.transfers in
    omega (arith, more, twenty)

outcome_room : (bytes : List ℕ) (place : ℕ) (o : Outcome) → OutcomeAt bytes place o → place + 24 ≤ length bytes
outcome_room bytes place o at = let there = at.syntax.there in omega (arith, there)

outcome_total : (outcomes : List Outcome) → sum_by (λ (outcome : Outcome). 24) outcomes ≡ 24 * length outcomes
outcome_total [] = refl
outcome_total (o ∷ outcomes) = let more = outcome_total outcomes in let one =
    sum_by-cons (λ (outcome : Outcome). 24) o outcomes in omega (arith, more, one)

answer_room : (bytes : List ℕ) (xmit recv group : ℕ) (outcomes : List Outcome)
    → IsBindingAnswer bytes xmit recv group outcomes → 32 + 24 * length outcomes ≤ length bytes
answer_room bytes xmit recv group outcomes is =
    let there = is.there in
    let behind = is.behind in
    let aligned = is.aligned in
    let more = each_room OutcomeAt (λ outcome. 24) bytes (outcome_room bytes) outcomes
    (is.place + 4) there is.outcomes_there in
    let total = outcome_total outcomes in
    omega (arith, behind, aligned, more, total)

binding_room : (bytes : List ℕ) (xmit recv group : ℕ) (elements : List Element)
    → IsBinding bytes xmit recv group elements → 28 + sum_by element_size elements ≤ length bytes
binding_room bytes xmit recv group elements is =
    each_room ElementAt element_size bytes (element_room bytes) elements 28 is.long is.elements_there

stub_room : (bytes stub : List ℕ) (place : ℕ) → 24 ≤ place → place ≤ length bytes → drop place bytes ≡ stub
    → 24 + length stub ≤ length bytes
stub_room bytes stub place low le is = let same = ap length is in let l =
    length-drop place bytes in omega (arith, low, le, same, l)

request_room : (bytes : List ℕ) (flags context opnum : ℕ) (stub : List ℕ) → IsRequest bytes flags context opnum stub
    → (b : Bool) → has_object flags ≡ b → 24 + length stub ≤ length bytes
request_room bytes flags context opnum stub is true e = let o =
    is.object e in stub_room bytes stub 40 (omega arith) o.0 o.1
request_room bytes flags context opnum stub is false e = let o =
    is.plain e in stub_room bytes stub 24 (omega arith) o.0 o.1

pub room : (side : Side) (pdu : Pdu) (bytes : List ℕ) → length bytes ≤ 65535 → IsPdu side pdu bytes
    → size_of pdu ≤ 65535
room Server (Request id flags context opnum stub) bytes le h = let r =
    request_room bytes flags context opnum stub h.1 (has_object flags) refl in omega (arith, le, r)
room Server (Bind id xmit recv group elements) bytes le h = let r =
    binding_room bytes xmit recv group elements h.1 in omega (arith, le, r)
room Server (Alter id xmit recv group elements) bytes le h = let r =
    binding_room bytes xmit recv group elements h.1 in omega (arith, le, r)
room Client (Response id flags context hint stub) bytes le h = let r =
    stub_room bytes stub 24 (omega arith) h.1.long h.1.data_there in omega (arith, le, r)
room Client (BindAck id xmit recv group outcomes) bytes le h = let r =
    answer_room bytes xmit recv group outcomes h.1 in omega (arith, le, r)
room Client (AlterResp id xmit recv group outcomes) bytes le h = let r =
    answer_room bytes xmit recv group outcomes h.1 in omega (arith, le, r)
room side (Fault id context status) bytes le h = omega arith
room side (BindNak id reason) bytes le h = omega arith
room side (Cancel id) bytes le h = omega arith
room side (Orphaned id) bytes le h = omega arith
room Client (Request id flags context opnum stub) bytes le h = absurd h
room Client (Bind id xmit recv group elements) bytes le h = absurd h
room Client (Alter id xmit recv group elements) bytes le h = absurd h
room Server (Response id flags context hint stub) bytes le h = absurd h
room Server (BindAck id xmit recv group outcomes) bytes le h = absurd h
room Server (AlterResp id xmit recv group outcomes) bytes le h = absurd h
