-- Readers that walk over bytes, against values at their places.
use Rattle.std.proofs.Common.{◌≡◌, ℕ, zero, suc, ◌+◌, ◌*◌, ◌≤◌, ◌<◌, false, ltb, List, [], ◌∷◌, length, take, drop}
use Rattle.std.proofs.Common.{get_or, Option, Some, None, refl, sym, ap, subst, ◌∙◌, arith, inl, inr}
use Rattle.std.proofs.lemmas.Bool.{ltb-false, le-ltb}
use Rattle.std.proofs.lemmas.List.{get_or-take, get_or-drop, drop-drop, length-drop, take-take}
use Rattle.std.specs.List.{sum_by}
use Rattle.std.proofs.lemmas.List.Sums.{sum_by-cons}
use Rattle.uuid.specs.Parts.{swap_fields}
use Rattle.rpc_pdu.specs.declared.syntaxes.Syntax.{Syntax}
use Rattle.rpc_pdu.specs.declared.pdus.Element.{Element}
use Rattle.rpc_pdu.specs.declared.pdus.Outcome.{Outcome}
use Rattle.rpc_pdu.specs.Headers.{u16_at, u32_at, syntax_of, syntax_at, element_at, outcome_at, element_size}
use Rattle.acct_base.specs.Reading.{Reader, ◌>>=◌, front_at, many}
use Rattle.rpc_pdu.specs.Grammar.{SyntaxAt, ElementAt, OutcomeAt, EachAt}
use Rattle.rpc_pdu.proofs.HeaderFacts.{chosen}
use Rattle.acct_base.proofs.Many.{many-none, many-one}

-- what one reader reads from a place on stands there, and takes so many bytes
pub record ReadsAt (A : Type 0) (one : Reader A) (At : List ℕ → ℕ → A → Type 0) (size : A → ℕ) : Type 0 where
  pub stands : (bytes : List ℕ) (place : ℕ) (x : A) (after : List ℕ) → one (drop place bytes) ≡ Some (x, after)
      → At bytes place x × (after ≡ drop (place + size x) bytes)
  pub reads : (bytes : List ℕ) (place : ℕ) (x : A) → At bytes place x
      → one (drop place bytes) ≡ Some (x, drop (place + size x) bytes)

pub bound : {A B : Type 0} (read : Option A) (next : A → Option B) (y : B) → (read >>= next) ≡ Some y → (x : A)
    × (read ≡ Some x) × (next x ≡ Some y)
bound None next y e = absurd cc
bound (Some x) next y e = (x, refl, e)

abbrev some_pair : {A B : Type 0} → A → B → Option (A × B)
some_pair a b = Some (a, b)

pair_is : {A B : Type 0} (a x : A) (b y : B) → some_pair a b ≡ some_pair x y → (a ≡ x) × (b ≡ y)
pair_is {A = A} {B = B} a x b y e =
    let p : A × B = (a, b) in
    let q : A × B = (x, y) in
    let same : p ≡ q = cc in
    (ap (λ (r : A × B). r.0) same, ap (λ (r : A × B). r.1) same)

-- so many bytes from a place on
front_stands : (n : ℕ) (bytes : List ℕ) (place : ℕ) (front after : List ℕ)
    → front_at n (drop place bytes) ≡ Some (front, after) → (n ≤ length (drop place bytes))
    × (take n (drop place bytes) ≡ front) × (drop (place + n) bytes ≡ after)
front_stands n bytes place front after e =
    elim (chosen (ltb (length (drop place bytes)) n) _ _ _ e) [
      | inl p ↦ let q = p.1 in absurd cc
      | inr p ↦
          let same = pair_is (take n (drop place bytes)) front (drop n (drop place bytes)) after p.1 in
          (ltb-false _ _ p.0, same.0, sym (drop-drop n place bytes) ∙ same.1)
    ]

front_reads : (n : ℕ) (bytes : List ℕ) (place : ℕ) → place + n ≤ length bytes
    → front_at n (drop place bytes) ≡ Some (take n (drop place bytes), drop (place + n) bytes)
front_reads n bytes place le =
    let there : ltb (length (drop place bytes)) n ≡ false =
    le-ltb _ _ (let l = length-drop place bytes in omega (arith, le, l)) in
    rw (there, drop-drop n place bytes) refl

byte_at : (n : ℕ) (bytes : List ℕ) (place i : ℕ) → i < n
    → get_or (take n (drop place bytes)) i 0 ≡ get_or bytes (place + i) 0
byte_at n bytes place i lt = get_or-take n (drop place bytes) i 0 lt ∙ get_or-drop place bytes i 0

u16_there : (n : ℕ) (bytes : List ℕ) (place i : ℕ) → i + 1 < n
    → u16_at (take n (drop place bytes)) i ≡ u16_at bytes (place + i)
u16_there n bytes place i lt =
    let low = byte_at n bytes place i (omega (arith, lt)) in
    let high = byte_at n bytes place (i + 1) lt in
    let next : place + (i + 1) ≡ place + i + 1 = omega arith in
    rw (low, high, next) refl

u32_there : (n : ℕ) (bytes : List ℕ) (place i : ℕ) → i + 3 < n
    → u32_at (take n (drop place bytes)) i ≡ u32_at bytes (place + i)
u32_there n bytes place i lt =
    let low = u16_there n bytes place i (omega (arith, lt)) in
    let high = u16_there n bytes place (i + 2) (omega (arith, lt)) in
    let next : place + (i + 2) ≡ place + i + 2 = omega arith in
    let moved : u16_at bytes (place + (i + 2)) ≡ u16_at bytes (place + i + 2) = ap (λ (k : ℕ). u16_at bytes k) next in
    let high_there = high ∙ moved in
    omega (arith, low, high_there)

long_from : (n : ℕ) (bytes : List ℕ) (place : ℕ) → 1 ≤ n → n ≤ length (drop place bytes) → place + n ≤ length bytes
long_from n bytes place some le = let l = length-drop place bytes in omega (arith, some, le, l)

-- ---- so many

pub many_reads : {A : Type 0} (one : Reader A) (At : List ℕ → ℕ → A → Type 0) (size : A → ℕ) → ReadsAt A one At size
    → (xs : List A) (bytes : List ℕ) (place : ℕ) → EachAt At size bytes place xs
    → many one (length xs) (drop place bytes) ≡ Some (xs, drop (place + sum_by size xs) bytes)
many_reads one At size is [] bytes place each =
    let none : drop place bytes ≡ drop (place + sum_by size []) bytes = ap (λ (k : ℕ). drop k bytes) (omega arith) in
    many-none one (drop place bytes) ∙ ap (λ (rest : List ℕ). Some ([], rest)) none
many_reads {A = A} one At size is (x ∷ xs) bytes place each =
    let count : length (x ∷ xs) ≡ suc (length xs) = omega arith in
    let first = is.reads bytes place x each.0 in
    let others = many_reads one At size is xs bytes (place + size x) each.1 in
    let total : place + size x + sum_by size xs ≡ place + sum_by size (x ∷ xs) = let s =
    sum_by-cons size x xs in omega (arith, s) in
    let all : many one (suc (length xs)) (drop place bytes)
    ≡ Some (x ∷ xs, drop (place + size x + sum_by size xs) bytes) =
    rw (many-one one (length xs) (drop place bytes), first, others) refl in
    ap (λ (k : ℕ). many one k (drop place bytes)) count ∙ all ∙ ap (λ (k : ℕ). Some (x ∷ xs, drop k bytes)) total

-- so many values stand from a place on
pub record ManyStand (A : Type 0) (At : List ℕ → ℕ → A → Type 0) (size : A
    → ℕ) (n : ℕ) (bytes : List ℕ) (place : ℕ) (xs : List A) (after : List ℕ) : Type 0 where
  pub count : n ≡ length xs
  pub each : EachAt At size bytes place xs
  pub behind : after ≡ drop (place + sum_by size xs) bytes

pub many_stand : {A : Type 0} (one : Reader A) (At : List ℕ → ℕ → A → Type 0) (size : A → ℕ) → ReadsAt A one At size
    → (n : ℕ) (bytes : List ℕ) (place : ℕ) (xs : List A) (after : List ℕ)
    → many one n (drop place bytes) ≡ Some (xs, after) → ManyStand A At size n bytes place xs after
many_stand {A = A} one At size is zero bytes place xs after e =
    let same = pair_is [] xs (drop place bytes) after (sym (many-none one (drop place bytes)) ∙ e) in
    let none : drop place bytes ≡ drop (place + sum_by size []) bytes = ap (λ (k : ℕ). drop k bytes) (omega arith) in
    let start : ManyStand A At size zero bytes place [] (drop place bytes) =
    record { count = refl; each = tt; behind = none } in
    let P : List A → Type 0 = λ ys. ManyStand A At size zero bytes place ys (drop place bytes) in
    let Q : List ℕ → Type 0 = λ ys. ManyStand A At size zero bytes place xs ys in
    subst Q same.1 (subst P same.0 start)
many_stand {A = A} one At size is (suc n) bytes place xs after e =
    let b = bound (one (drop place bytes))
    (λ first. many one n first.1 >>= λ others. Some (first.0 ∷ others.0, others.1)) (xs, after)
    (sym (many-one one n (drop place bytes)) ∙ e) in
    let first = is.stands bytes place b.0.0 b.0.1 b.1 in
    let d = bound (many one n b.0.1) (λ others. Some (b.0.0 ∷ others.0, others.1)) (xs, after) b.2 in
    let others = many_stand one At size is n bytes (place + size b.0.0) d.0.0 d.0.1
    (ap (λ (rest : List ℕ). many one n rest) (sym first.1) ∙ d.1) in
    let same = pair_is (b.0.0 ∷ d.0.0) xs d.0.1 after d.2 in
    let counted = others.count in
    let total : place + size b.0.0 + sum_by size d.0.0 ≡ place + sum_by size (b.0.0 ∷ d.0.0) = let s =
    sum_by-cons size b.0.0 d.0.0 in omega (arith, s) in
    let start : ManyStand A At size (suc n) bytes place (b.0.0 ∷ d.0.0) d.0.1 =
    record {
      count = omega (arith, counted);
      each = (first.0, others.each);
      behind = others.behind
          ∙ ap (λ (k : ℕ). drop k bytes) total;
    } in
    let P : List A → Type 0 = λ ys. ManyStand A At size (suc n) bytes place ys d.0.1 in
    let Q : List ℕ → Type 0 = λ ys. ManyStand A At size (suc n) bytes place xs ys in
    subst Q same.1 (subst P same.0 start)

-- ---- syntaxes

syntax_is : (bytes : List ℕ) (place : ℕ)
    → ((syntax_of (take 20 (drop place bytes))).id ≡ swap_fields (take 16 (drop place bytes)))
    × ((syntax_of (take 20 (drop place bytes))).version ≡ u32_at bytes (place + 16))
unfolding syntax_of
syntax_is bytes place = (
  ap (λ (x : List ℕ). swap_fields x) (take-take 16 20 (drop place bytes) (omega arith)),
  u32_there 20 bytes place 16 (omega arith),
)

syntax_stands : (bytes : List ℕ) (place : ℕ) (syntax : Syntax) (after : List ℕ)
    → syntax_at (drop place bytes) ≡ Some (syntax, after) → SyntaxAt bytes place syntax
    × (after ≡ drop (place + 20) bytes)
unfolding syntax_at
syntax_stands bytes place syntax after e =
    let b = bound (front_at 20 (drop place bytes)) (λ front. Some (syntax_of front.0, front.1)) (syntax, after) e in
    let f = front_stands 20 bytes place b.0.0 b.0.1 b.1 in
    let same = pair_is (syntax_of b.0.0) syntax b.0.1 after b.2 in
    let is : syntax_of (take 20 (drop place bytes)) ≡ syntax = ap syntax_of f.1 ∙ same.0 in
    let parts = syntax_is bytes place in (
      record {
        there = long_from 20 bytes place (omega arith) f.0;
        uuid = sym parts.0 ∙ ap (λ (s : Syntax). s.id) is;
        version = sym parts.1 ∙ ap (λ (s : Syntax). s.version) is;
      },
      sym same.1 ∙ sym f.2,
    )

syntax_reads : (bytes : List ℕ) (place : ℕ) (syntax : Syntax) → SyntaxAt bytes place syntax
    → syntax_at (drop place bytes) ≡ Some (syntax, drop (place + 20) bytes)
unfolding syntax_at
syntax_reads bytes place syntax at =
    let parts = syntax_is bytes place in
    let id = parts.0 ∙ at.uuid in
    let version = parts.1 ∙ at.version in
    let is : syntax_of (take 20 (drop place bytes)) ≡ syntax = λ i. record { id = id i; version = version i } in
    rw (front_reads 20 bytes place at.there) (ap (λ (s : Syntax). Some (s, drop (place + 20) bytes)) is)

pub syntaxes_read_at : ReadsAt Syntax syntax_at SyntaxAt (λ syntax. 20)
syntaxes_read_at = record { stands = syntax_stands; reads = syntax_reads }

pub twenties : (syntaxes : List Syntax) → sum_by (λ (syntax : Syntax). 20) syntaxes ≡ 20 * length syntaxes
twenties [] = refl
twenties (s ∷ syntaxes) = let more = twenties syntaxes in let one =
    sum_by-cons (λ (syntax : Syntax). 20) s syntaxes in omega (arith, more, one)

-- ---- outcomes

outcome_stands : (bytes : List ℕ) (place : ℕ) (outcome : Outcome) (after : List ℕ)
    → outcome_at (drop place bytes) ≡ Some (outcome, after) → OutcomeAt bytes place outcome
    × (after ≡ drop (place + 24) bytes)
unfolding outcome_at
outcome_stands bytes place outcome after e =
    let b = bound (front_at 4 (drop place bytes))
    (λ head. syntax_at head.1 >>= λ syntax. Some
    (record { result = u16_at head.0 0; reason = u16_at head.0 2; syntax = syntax.0 }, syntax.1))
    (outcome, after) e in
    let f = front_stands 4 bytes place b.0.0 b.0.1 b.1 in
    let d = bound (syntax_at b.0.1)
    (λ syntax. Some (record { result = u16_at b.0.0 0; reason = u16_at b.0.0 2; syntax = syntax.0 }, syntax.1))
    (outcome, after) b.2 in
    let s = syntax_stands bytes (place + 4) d.0.0 d.0.1 (ap syntax_at f.2 ∙ d.1) in
    let made : Outcome = record { result = u16_at b.0.0 0; reason = u16_at b.0.0 2; syntax = d.0.0 } in
    let same = pair_is made outcome d.0.1 after d.2 in
    let P : Outcome → Type 0 = λ o. OutcomeAt bytes place o in
    let low : u16_at bytes place ≡ u16_at b.0.0 0 = ap (λ (k : ℕ). u16_at bytes k) (omega arith)
    ∙ sym (u16_there 4 bytes place 0 (omega arith)) ∙ ap (λ (x : List ℕ). u16_at x 0) f.1 in
    let high : u16_at bytes (place + 2) ≡ u16_at b.0.0 2 = sym (u16_there 4 bytes place 2 (omega arith))
    ∙ ap (λ (x : List ℕ). u16_at x 2) f.1 in (
      subst P same.0 (record { result = low; reason = high; syntax = s.0 }),
      sym same.1 ∙ s.1
          ∙ ap (λ (k : ℕ). drop k bytes) (omega arith),
    )

outcome_reads : (bytes : List ℕ) (place : ℕ) (outcome : Outcome) → OutcomeAt bytes place outcome
    → outcome_at (drop place bytes) ≡ Some (outcome, drop (place + 24) bytes)
unfolding outcome_at
outcome_reads bytes place outcome at =
    let syntax = at.syntax in
    let there = syntax.there in
    let low : u16_at (take 4 (drop place bytes)) 0 ≡ outcome.result = u16_there 4 bytes place 0 (omega arith)
    ∙ ap (λ (k : ℕ). u16_at bytes k) (omega arith) ∙ at.result in
    let high : u16_at (take 4 (drop place bytes)) 2 ≡ outcome.reason = u16_there 4 bytes place 2 (omega arith)
    ∙ at.reason in
    let after : drop (place + 4 + 20) bytes ≡ drop (place + 24) bytes = ap (λ (k : ℕ). drop k bytes) (omega arith) in
    let is : Some (
      record {
        result = u16_at (take 4 (drop place bytes)) 0;
        reason = u16_at (take 4 (drop place bytes)) 2;
        syntax = outcome.syntax;
      },
      drop (place + 4 + 20) bytes,
    ) ≡ Some (outcome, drop (place + 24) bytes) =
    λ i. Some (record { result = low i; reason = high i; syntax = outcome.syntax }, after i) in
    rw (front_reads 4 bytes place (omega (arith, there)), syntax_reads bytes (place + 4) outcome.syntax syntax) is

pub outcomes_read_at : ReadsAt Outcome outcome_at OutcomeAt (λ outcome. 24)
outcomes_read_at = record { stands = outcome_stands; reads = outcome_reads }

-- ---- elements

element_stands : (bytes : List ℕ) (place : ℕ) (element : Element) (after : List ℕ)
    → element_at (drop place bytes) ≡ Some (element, after) → ElementAt bytes place element
    × (after ≡ drop (place + element_size element) bytes)
unfolding element_at
element_stands bytes place element after e =
    let b = bound (front_at 4 (drop place bytes))
    (λ head. syntax_at head.1 >>= λ subject. many syntax_at (get_or head.0 2 0) subject.1 >>= λ transfers. Some
    (record { context = u16_at head.0 0; subject = subject.0; transfers = transfers.0 }, transfers.1))
    (element, after) e in
    let f = front_stands 4 bytes place b.0.0 b.0.1 b.1 in
    let d = bound (syntax_at b.0.1)
    (λ subject. many syntax_at (get_or b.0.0 2 0) subject.1 >>= λ transfers. Some
    (record { context = u16_at b.0.0 0; subject = subject.0; transfers = transfers.0 }, transfers.1))
    (element, after) b.2 in
    let s = syntax_stands bytes (place + 4) d.0.0 d.0.1 (ap syntax_at f.2 ∙ d.1) in
    let g = bound (many syntax_at (get_or b.0.0 2 0) d.0.1)
    (λ transfers. Some (record { context = u16_at b.0.0 0; subject = d.0.0; transfers = transfers.0 }, transfers.1))
    (element, after) d.2 in
    let from : d.0.1 ≡ drop (place + 24) bytes = s.1 ∙ ap (λ (k : ℕ). drop k bytes) (omega arith) in
    let t = many_stand syntax_at SyntaxAt (λ syntax. 20) syntaxes_read_at (get_or b.0.0 2 0) bytes
    (place + 24) g.0.0 g.0.1 (ap (λ (rest : List ℕ). many syntax_at (get_or b.0.0 2 0) rest) (sym from) ∙ g.1) in
    let made : Element = record { context = u16_at b.0.0 0; subject = d.0.0; transfers = g.0.0 } in
    let same = pair_is made element g.0.1 after g.2 in
    let P : Element → Type 0 = λ x. ElementAt bytes place x × (g.0.1 ≡ drop (place + element_size x) bytes) in
    let low : u16_at bytes place ≡ u16_at b.0.0 0 = ap (λ (k : ℕ). u16_at bytes k) (omega arith)
    ∙ sym (u16_there 4 bytes place 0 (omega arith)) ∙ ap (λ (x : List ℕ). u16_at x 0) f.1 in
    let count : get_or bytes (place + 2) 0 ≡ length g.0.0 = sym (byte_at 4 bytes place 2 (omega arith))
    ∙ ap (λ (x : List ℕ). get_or x 2 0) f.1 ∙ t.count in
    let twenty = twenties g.0.0 in
    let behind : g.0.1 ≡ drop (place + element_size made) bytes = t.behind
    ∙ ap (λ (k : ℕ). drop k bytes) (omega (arith, twenty)) in
    let start : P made = (record { context = low; count = count; subject = s.0; transfers = t.each }, behind) in
    let found = subst P same.0 start in
    (found.0, sym same.1 ∙ found.1)

element_reads : (bytes : List ℕ) (place : ℕ) (element : Element) → ElementAt bytes place element
    → element_at (drop place bytes) ≡ Some (element, drop (place + element_size element) bytes)
unfolding element_at
element_reads bytes place element at =
    let subject = at.subject in
    let there = subject.there in
    let low : u16_at (take 4 (drop place bytes)) 0 ≡ element.context = u16_there 4 bytes place 0 (omega arith)
    ∙ ap (λ (k : ℕ). u16_at bytes k) (omega arith) ∙ at.context in
    let count : get_or (take 4 (drop place bytes)) 2 0 ≡ length element.transfers =
    byte_at 4 bytes place 2 (omega arith) ∙ at.count in
    let next : drop (place + 4 + 20) bytes ≡ drop (place + 24) bytes = ap (λ (k : ℕ). drop k bytes) (omega arith) in
    let twenty = twenties element.transfers in
    let after : drop (place + 24 + sum_by (λ (syntax : Syntax). 20) element.transfers) bytes
    ≡ drop (place + element_size element) bytes = ap (λ (k : ℕ). drop k bytes) (omega (arith, twenty)) in
    let transfers =
    many_reads syntax_at SyntaxAt (λ syntax. 20) syntaxes_read_at element.transfers bytes
    (place + 24) at.transfers in
    rw (
      front_reads 4 bytes place (omega (arith, there)),
      syntax_reads bytes (place + 4) element.subject subject,
      next,
      count,
      transfers,
      low,
      after,
    ) refl

pub elements_read_at : ReadsAt Element element_at ElementAt element_size
elements_read_at = record { stands = element_stands; reads = element_reads }
