-- What some bytes spell can be written: a law of each shape, from the laws of what it is made of.
use Rattle.std.proofs.Common.{◌≡◌, ℕ, zero, suc, ◌^◌, ◌<◌, Bool, List, [], ◌∷◌, length, get_or, take, drop, refl, sym}
use Rattle.std.proofs.Common.{ap, subst, arith, inl, inr, lit<}
use Rattle.std.specs.Int.{Width, w8, w16, w32, byte_len, from_le_bytes}
use Rattle.std.proofs.lemmas.Bool.{cases_lt}
use Rattle.std.proofs.lemmas.List.{get_or_past}
use Rattle.std.proofs.lemmas.List.Elements.{All-get_or, All-take, All-drop}
use Rattle.ndr_core.specs.Cursor.{Cursor, number_start, second, IsByte, IsBytes}
use Rattle.ndr_core.specs.Codec.{Codec}
use Rattle.ndr_core.specs.Numbers.{Number}
use Rattle.ndr_core.specs.Shapes.{u8, u16, u32, given, chain, made, such, led_by, ignored, followed, padding4, pointer}
use Rattle.ndr_core.specs.Shapes.{varying}
use Rattle.ndr_core.specs.Parts.{cons, times}

-- What some bytes spell can be written.
pub record IsComplete {A : Type 0} (a : Codec A) : Type 0 where
  pub fits : (x : A) (c d : Cursor) → IsBytes c.stub → a.Spells x c d → a.Fits x

-- a byte, or 0 after the end
below : (bytes : List ℕ) (i : ℕ) → IsBytes bytes → get_or bytes i 0 < 256
below bytes i h =
    elim (cases_lt i (length bytes)) [
      | inl lt ↦ All-get_or IsByte bytes i 0 lt h
      | inr le ↦ rw (get_or_past bytes i 0 le) (lit< tt)
    ]

IsBytes-part : (n m : ℕ) (bytes : List ℕ) → IsBytes bytes → IsBytes (take n (drop m bytes))
IsBytes-part n m bytes h = All-take IsByte n (drop m bytes) (All-drop IsByte m bytes h)

below8 : (bytes : List ℕ) → IsBytes bytes → from_le_bytes w8 bytes < 256
below8 bytes fits = omega (arith, below bytes 0 fits)

below16 : (bytes : List ℕ) → IsBytes bytes → from_le_bytes w16 bytes < 2 ^ 16
below16 bytes fits = omega (arith, below bytes 0 fits, below bytes 1 fits)

below32 : (bytes : List ℕ) → IsBytes bytes → from_le_bytes w32 bytes < 2 ^ 32
below32 bytes fits = omega (arith, below bytes 0 fits, below bytes 1 fits, below bytes 2 fits, below bytes 3 fits)

number_complete : (w : Width) (limit : ℕ) → ((bytes : List ℕ) → IsBytes bytes → from_le_bytes w bytes < limit)
    → (n : ℕ) (c d : Cursor) → IsBytes c.stub → Number w n c d → n < limit
number_complete w limit below n c d fits h =
    subst (λ (k : ℕ). k < limit) h.is
    (below (take (byte_len w) (drop (number_start w c) c.stub))
    (IsBytes-part (byte_len w) (number_start w c) c.stub fits))

pub u8_complete : IsComplete u8
u8_complete = record { fits = number_complete w8 256 below8 }

pub u16_complete : IsComplete u16
u16_complete = record { fits = number_complete w16 (2 ^ 16) below16 }

pub u32_complete : IsComplete u32
u32_complete = record { fits = number_complete w32 (2 ^ 32) below32 }

pub pointer_complete : IsComplete pointer
pointer_complete = record { fits = λ b c d bytes h. tt }

pub given_complete : {A : Type 0} (x : A) → IsComplete (given x)
given_complete x = record { fits = λ y c d bytes h. h.0 }

pub such_complete : {A : Type 0} (size : ℕ) (test : A → Bool) {a : Codec A} → IsComplete a
    → IsComplete (such size test a)
such_complete size test p = record { fits = λ x c d bytes h. (p.fits x c d bytes h.0, h.1) }

-- What comes second need be complete only after what fits.
pub chain_complete : {A B : Type 0} {a : Codec A} {b : A → Codec B} → IsComplete a
    → ((x : A) → a.Fits x → IsComplete (b x)) → IsComplete (chain a b)
chain_complete {a = a} p q = record {
  fits = λ x c d bytes h.
      let f = p.fits x.0 c h.0 bytes h.1 in
      (f, (q x.0 f).fits x.1 h.0 d (subst (λ (s : List ℕ). IsBytes s) (sym (a.stays c h.0 x.0 h.1)) bytes) h.2);
}

pub made_complete : {A B : Type 0} (make : A → B) (parts : B → A) {a : Codec A} → IsComplete a
    → ((x : A) → a.Fits x → a.Fits (parts (make x)) × (make (parts (make x)) ≡ make x)) → IsComplete (made make parts a)
made_complete make parts {a = a} p keeps = record {
  fits = λ y c d bytes h. subst (λ z. a.Fits (parts z) × (make (parts z) ≡ z)) h.2
      (keeps h.0 (p.fits h.0 c d bytes h.1));
}

pub led_by_complete : {A B : Type 0} (parts : B → A) {a : Codec A} {f : A → Codec B} → IsComplete a
    → ((x : A) → a.Fits x → IsComplete (f x))
    → ((x : A) (y : B) → a.Fits x → (f x).Fits y → a.Fits (parts y) × (f (parts y)).Fits y)
    → IsComplete (led_by parts a f)
led_by_complete {A = A} {B = B} parts p q keeps =
    made_complete second (λ b. (parts b, b)) (chain_complete p q) (λ (x : A × B) h. (keeps x.0 x.1 h.0 h.1, refl))

pub ignored_complete : {A B : Type 0} (w : A) {a : Codec A} {b : Codec B} → IsComplete a → IsComplete b → a.Fits w
    → IsComplete (ignored w a b)
ignored_complete w p q fits = led_by_complete (λ _. w) p (λ x h. q) (λ x y h k. (fits, k))

pub followed_complete : {A B : Type 0} (w : B) {b : Codec B} {a : Codec A} → IsComplete a → IsComplete b → b.Fits w
    → IsComplete (followed w b a)
followed_complete {A = A} {B = B} w p q fits =
    made_complete (λ (x : A × B). x.0) (λ x. (x, w)) (chain_complete p (λ x h. q)) (λ x h. ((h.0, fits), refl))

pub padding_complete : IsComplete padding4
padding_complete = record { fits = λ u c d bytes h. tt }

pub cons_complete : {A : Type 0} {a : Codec A} {b : Codec (List A)} → IsComplete a → IsComplete b
    → IsComplete (cons a b)
cons_complete {A = A} {a = a} {b = b} p q =
    record {
      fits = λ xs c d bytes h. subst (λ (ys : List A). (cons a b).Fits ys) h.2
          ((chain_complete {a = a} {b = λ _. b} p (λ x f. q)).fits h.0 c d bytes h.1);
    }

pub times_complete : {A : Type 0} (n : ℕ) {a : Codec A} → IsComplete a → IsComplete (times n a)
unfolding times
times_complete zero p = given_complete []
times_complete (suc n) p = cons_complete p (times_complete n p)

pub times_length : {A : Type 0} (n : ℕ) (a : Codec A) (xs : List A) → (times n a).Fits xs → length xs ≡ n
unfolding times
times_length zero a xs h = ap length h
times_length (suc n) a [] h = absurd h
times_length (suc n) a (x ∷ xs) h = ap suc (times_length n a xs h.1)

-- what is read and not kept can only be what is written
pub ignored_same : {A B : Type 0} (w : A) {a : Codec A} {b : Codec B} → IsComplete a → IsComplete b
    → ((x : A) → a.Fits x → x ≡ w) → IsComplete (ignored w a b)
ignored_same w {a = a} p q same =
    led_by_complete (λ _. w) p (λ x h. q) (λ x y h k. (subst (λ z. a.Fits z) (same x h) h, k))

pub varying_complete : (most : ℕ) → IsComplete (varying most)
varying_complete most = ignored_complete 0 (such_complete 4 _ u32_complete) (such_complete 4 _ u32_complete)
    (lit< tt, refl)
