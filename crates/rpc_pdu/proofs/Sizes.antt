-- How many bytes are written.
use Rattle.std.proofs.Common.{◌≡◌, ◌+◌, ◌*◌, List, [], ◌∷◌, length, refl, arith, length-append}
use Rattle.std.specs.List.{flat_map, sum_by}
use Rattle.std.proofs.lemmas.List.Sums.{sum_by-cons}
use Rattle.rpc_pdu.specs.declared.syntaxes.Syntax.{Syntax}
use Rattle.rpc_pdu.specs.declared.pdus.Element.{Element}
use Rattle.rpc_pdu.specs.declared.pdus.Outcome.{Outcome}
use Rattle.rpc_pdu.specs.declared.pdus.Pdu.{Pdu}
use Rattle.rpc_pdu.specs.declared.pdus.Pdu.TheVariants.{Bind, Alter, Request, Cancel, Orphaned, BindAck, AlterResp}
use Rattle.rpc_pdu.specs.declared.pdus.Pdu.TheVariants.{BindNak, Response, Fault}
use Rattle.rpc_pdu.specs.Headers.{syntax_bytes, element_size}
use Rattle.rpc_pdu.specs.Written.{element_bytes, outcome_bytes, body_bytes, size_of, written}

pub length-syntax_bytes : (syntax : Syntax) → length (syntax_bytes syntax) ≡ 20
unfolding syntax_bytes
length-syntax_bytes syntax = refl

pub length-outcome_bytes : (outcome : Outcome) → length (outcome_bytes outcome) ≡ 24
unfolding outcome_bytes syntax_bytes
length-outcome_bytes outcome = refl

length-syntaxes : (syntaxes : List Syntax) → length (flat_map syntax_bytes syntaxes) ≡ 20 * length syntaxes
length-syntaxes [] = refl
length-syntaxes (s ∷ syntaxes) =
    let more = length-syntaxes syntaxes in
    let one = length-syntax_bytes s in
    let joined = length-append (syntax_bytes s) (flat_map syntax_bytes syntaxes) in
    omega (arith, more, one, joined)

pub length-outcomes : (outcomes : List Outcome) → length (flat_map outcome_bytes outcomes) ≡ 24 * length outcomes
length-outcomes [] = refl
length-outcomes (o ∷ outcomes) =
    let more = length-outcomes outcomes in
    let one = length-outcome_bytes o in
    let joined = length-append (outcome_bytes o) (flat_map outcome_bytes outcomes) in
    omega (arith, more, one, joined)

pub length-element_bytes : (element : Element) → length (element_bytes element) ≡ element_size element
unfolding element_bytes syntax_bytes
length-element_bytes element = let more = length-syntaxes element.transfers in omega (arith, more)

pub length-elements : (elements : List Element)
    → length (flat_map element_bytes elements) ≡ sum_by element_size elements
length-elements [] = refl
length-elements (e ∷ elements) =
    let more = length-elements elements in
    let one = length-element_bytes e in
    let joined = length-append (element_bytes e) (flat_map element_bytes elements) in
    let summed = sum_by-cons element_size e elements in
    omega (arith, more, one, joined, summed)

pub length-body_bytes : (pdu : Pdu) → 16 + length (body_bytes pdu) ≡ size_of pdu
unfolding body_bytes
length-body_bytes (Request id flags context opnum stub) = omega arith
length-body_bytes (Response id flags context hint stub) = omega arith
length-body_bytes (Fault id context status) = refl
length-body_bytes (Bind id xmit recv group elements) = let more = length-elements elements in omega (arith, more)
length-body_bytes (BindAck id xmit recv group outcomes) = let more = length-outcomes outcomes in omega (arith, more)
length-body_bytes (BindNak id reason) = refl
length-body_bytes (Alter id xmit recv group elements) = let more = length-elements elements in omega (arith, more)
length-body_bytes (AlterResp id xmit recv group outcomes) = let more = length-outcomes outcomes in omega (arith, more)
length-body_bytes (Cancel id) = refl
length-body_bytes (Orphaned id) = refl

pub length-written : (pdu : Pdu) → length (written pdu) ≡ size_of pdu
unfolding written
length-written pdu = let more = length-body_bytes pdu in omega (arith, more)
