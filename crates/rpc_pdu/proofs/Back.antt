-- What is written reads back.
use Rattle.std.proofs.Common.{◌≡◌, ℕ, suc, ◌+◌, ◌*◌, ◌/◌, ◌%◌, false, ltb, List, [], ◌∷◌, ◌++◌, length, take, drop}
use Rattle.std.proofs.Common.{Some, refl, sym, ap, ◌∙◌, append_assoc, arith, length-append, All}
use Rattle.std.specs.List.{flat_map, AllByRecursion}
use Rattle.std.proofs.Math.Seq.{take-append_seam, drop-append_seam}
use Rattle.std.proofs.lemmas.Bool.{le-ltb}
use Rattle.std.proofs.lemmas.List.Elements.{recursion_from_All}
use Rattle.uuid.proofs.RoundTrips.{swap_twice}
use Rattle.rpc_pdu.specs.declared.syntaxes.Syntax.{Syntax}
use Rattle.rpc_pdu.specs.declared.pdus.Element.{Element}
use Rattle.rpc_pdu.specs.declared.pdus.Outcome.{Outcome}
use Rattle.rpc_pdu.specs.Headers.{u16_bytes, syntax_of, syntax_bytes, syntax_at, element_at, outcome_at}
use Rattle.acct_base.specs.Reading.{Reader, front_at, many}
use Rattle.rpc_pdu.specs.Written.{element_bytes, outcome_bytes, IsWhole, IsWholeElement, IsWholeOutcome}
use Rattle.acct_base.proofs.Many.{many-none, many-one}
use Rattle.rpc_pdu.proofs.Sizes.{length-syntax_bytes}

pub u16_back : (n : ℕ) → n % 256 + 256 * (n / 256) ≡ n
u16_back n = omega arith

pub u32_back : (n : ℕ)
    → n % 65536 % 256 + 256 * (n % 65536 / 256) + 65536 * (n / 65536 % 256 + 256 * (n / 65536 / 256)) ≡ n
u32_back n = omega arith

pub front_back : (n : ℕ) (front rest : List ℕ) → length front ≡ n → front_at n (front ++ rest) ≡ Some (front, rest)
front_back n front rest len =
    let there : ltb (length (front ++ rest)) n ≡ false =
    le-ltb _ _ (let joined = length-append front rest in omega (arith, len, joined)) in
    let first : take n (front ++ rest) ≡ front = ap (λ (k : ℕ). take k (front ++ rest)) (sym len)
    ∙ take-append_seam front rest in
    let after : drop n (front ++ rest) ≡ rest = ap (λ (k : ℕ). drop k (front ++ rest)) (sym len)
    ∙ drop-append_seam front rest in
    rw (there, first, after) refl

many_by : {A : Type 0} (one : Reader A) (bytes_of : A → List ℕ) (P : A → Type 0)
    → ((x : A) → P x → (rest : List ℕ) → one (bytes_of x ++ rest) ≡ Some (x, rest))
    → (xs : List A) → AllByRecursion P xs → (rest : List ℕ)
    → many one (length xs) (flat_map bytes_of xs ++ rest) ≡ Some (xs, rest)
many_by one bytes_of P back [] all rest = many-none one rest
many_by one bytes_of P back (x ∷ xs) all rest =
    let apart : (bytes_of x ++ flat_map bytes_of xs) ++ rest ≡ bytes_of x ++ (flat_map bytes_of xs ++ rest) =
    append_assoc (bytes_of x) (flat_map bytes_of xs) rest in
    let count : length (x ∷ xs) ≡ suc (length xs) = omega arith in
    let first = back x all.0 (flat_map bytes_of xs ++ rest) in
    let others = many_by one bytes_of P back xs all.1 rest in
    rw (count, apart, many-one one (length xs) (bytes_of x ++ (flat_map bytes_of xs ++ rest)), first, others) refl

pub many_back : {A : Type 0} (one : Reader A) (bytes_of : A → List ℕ) (P : A → Type 0)
    → ((x : A) → P x → (rest : List ℕ) → one (bytes_of x ++ rest) ≡ Some (x, rest))
    → (xs : List A) → All P xs → (rest : List ℕ) → many one (length xs) (flat_map bytes_of xs ++ rest) ≡ Some (xs, rest)
many_back one bytes_of P back xs all rest = many_by one bytes_of P back xs (recursion_from_All P xs all) rest

syntax_of_bytes : (syntax : Syntax) → IsWhole syntax → syntax_of (syntax_bytes syntax) ≡ syntax
unfolding syntax_of syntax_bytes
syntax_of_bytes syntax whole = λ i. record { id = swap_twice syntax.id whole i; version = u32_back syntax.version i }

pub syntax_back : (syntax : Syntax) → IsWhole syntax → (rest : List ℕ)
    → syntax_at (syntax_bytes syntax ++ rest) ≡ Some (syntax, rest)
unfolding syntax_at
syntax_back syntax whole rest =
    rw (front_back 20 (syntax_bytes syntax) rest (length-syntax_bytes syntax), syntax_of_bytes syntax whole) refl

pub outcome_back : (outcome : Outcome) → IsWholeOutcome outcome → (rest : List ℕ)
    → outcome_at (outcome_bytes outcome ++ rest) ≡ Some (outcome, rest)
unfolding outcome_at outcome_bytes
outcome_back outcome whole rest =
    let head = u16_bytes outcome.result ++ u16_bytes outcome.reason in
    let apart : (head ++ syntax_bytes outcome.syntax) ++ rest ≡ head ++ (syntax_bytes outcome.syntax ++ rest) =
    append_assoc head (syntax_bytes outcome.syntax) rest in
    rw (
      front_back 4 head (syntax_bytes outcome.syntax ++ rest) refl,
      syntax_back outcome.syntax whole rest,
      u16_back outcome.result,
      u16_back outcome.reason,
    ) refl

pub element_back : (element : Element) → IsWholeElement element → (rest : List ℕ)
    → element_at (element_bytes element ++ rest) ≡ Some (element, rest)
unfolding element_at element_bytes
element_back element whole rest =
    let head = u16_bytes element.context ++ length element.transfers ∷ 0 ∷ [] in
    let transfers = flat_map syntax_bytes element.transfers in
    let apart : (syntax_bytes element.subject ++ transfers) ++ rest ≡ syntax_bytes element.subject
    ++ (transfers ++ rest) = append_assoc (syntax_bytes element.subject) transfers rest in
    rw (
      apart,
      front_back 4 head (syntax_bytes element.subject ++ (transfers ++ rest)) refl,
      syntax_back element.subject whole.0 (transfers ++ rest),
      many_back syntax_at syntax_bytes IsWhole syntax_back element.transfers whole.1 rest,
      u16_back element.context,
    ) refl
