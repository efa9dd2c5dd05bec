-- Bytes that a link was sent one piece after another, and bytes that it gave.
use Rattle.std.proofs.Common.{◌≡◌, ℕ, zero, suc, zero-add, arith, ◌∷◌, ◌+◌, List, ◌++◌, take, drop}
use Rattle.std.proofs.Common.{Option, Some, None, Ok, refl, sym, ◌∙◌, ap, append_assoc, append-nil, []}
use Rattle.std.proofs.lemmas.List.{take_all, take-append-drop, drop-drop, drop_all}
use Rattle.std.specs.Io.KnownBytes.{Appends}
use Rattle.acct_links.specs.Links.{Told, Writes, Sends}

pub Appends-none : (a : Option (List ℕ)) → Appends a a []
Appends-none None = tt
Appends-none (Some xs) = sym (append-nil xs)

pub Appends-then : (a b c : Option (List ℕ)) (x y : List ℕ) → Appends a b x → Appends b c y → Appends a c (x ++ y)
Appends-then None b c x y p q = tt
Appends-then (Some xs) None c x y p q = absurd p
Appends-then (Some xs) (Some ys) None x y p q = absurd q
Appends-then (Some xs) (Some ys) (Some zs) x y p q = q ∙ ap (λ (t : List ℕ). t ++ y) p ∙ append_assoc xs x y

-- a piece more
pub take-more : (i n : ℕ) (bytes : List ℕ) → take (i + n) bytes ≡ take i bytes ++ take n (drop i bytes)
take-more zero n bytes = rw zero-add refl
take-more (suc i) n [] = take_all (suc i + n) [] (omega arith) ∙ sym (take_all n [] (omega arith))
take-more (suc i) n (b ∷ bytes) = let up : suc i + n ≡ suc (i + n) =
    omega arith in rw up (ap (λ (bs : List ℕ). b ∷ bs) (take-more i n bytes))

-- nothing was sent
pub Sends-none : (a : Told) → Sends a a []
Sends-none a = record {
  sent = Appends-none a.sent;
  later = omega arith;
  received = refl;
  left = refl;
  ended = refl;
  read_faults = refl;
}

-- one piece after another
pub Sends-then : (a b c : Told) (x y : List ℕ) → Sends a b x → Sends b c y → Sends a c (x ++ y)
Sends-then a b c x y p q = record {
  sent = Appends-then a.sent b.sent c.sent x y p.sent q.sent;
  later = omega (arith, p.later, q.later);
  received = q.received ∙ p.received;
  left = q.left ∙ p.left;
  ended = q.ended ∙ p.ended;
  read_faults = q.read_faults ∙ p.read_faults;
}

-- what a write took
pub Sends-written : {E : Type 0} (a b : Told) (n : ℕ) (bytes : List ℕ) → Writes {E = E} a b (Ok n) bytes
    → Sends a b (take n bytes)
Sends-written a b n bytes w = record {
  sent = w.sent;
  later = w.cause.later;
  received = w.received;
  left = w.left;
  ended = w.ended;
  read_faults = w.read_faults;
}

-- what is read from a place on, and what is left after it
pub read-splits : (place n : ℕ) (bytes rest : List ℕ) → rest ≡ drop place bytes
    → drop place bytes ≡ take n rest ++ drop (place + n) bytes
read-splits place n bytes rest is =
    sym (take-append-drop n (drop place bytes))
    ∙ ap (λ (xs : List ℕ). take n (drop place bytes) ++ xs) (drop-drop n place bytes)
    ∙ ap (λ (xs : List ℕ). take n xs ++ drop (place + n) bytes) (sym is)

pub none-behind : (place n : ℕ) (bytes rest : List ℕ) → rest ≡ drop place bytes → n ≡ 0 → rest ≡ []
    → drop (place + n) bytes ≡ []
none-behind place n bytes rest is no_more none = sym (drop-drop n place bytes)
    ∙ ap (λ (xs : List ℕ). drop n xs) (sym is ∙ none) ∙ drop_all n [] (omega arith)
