-- The laws of readings that pass a test, stand one after another, or make a value of what is read, for any shapes that
-- they are made of.
use Rattle.std.proofs.Common.{◌≡◌, ℕ, suc, ◌+◌, ◌*◌, ◌%◌, ◌<◌, ◌^◌, lit<, Bool, true, false, List, ◌++◌, Result, Ok}
use Rattle.std.proofs.Common.{Err, refl, sym, ap, subst, ◌∙◌, append_assoc, arith}
use Rattle.std.specs.Int.{w32}
use Rattle.ndr_core.specs.declared.error.NdrError.{NdrError}
use Rattle.ndr_core.specs.declared.error.NdrError.TheVariants.{Count}
use Rattle.ndr_core.specs.Cursor.{Cursor, ◌>>=◌, done, aligned_cursor, broken, test_passed, testing, making, both}
use Rattle.ndr_core.specs.Cursor.{is_there, Written, IsBytes, referents, referent, put_padding, put_pointer}
use Rattle.ndr_core.specs.Codec.{Codec, Grows, behind}
use Rattle.ndr_core.specs.steps.Steps.{ok_is, bind_ok, passed}
use Rattle.ndr_core.specs.Numbers.{Number, narrow32, number_grows, number_bytes, number_spelled, padded-length}

-- ---- a value that passes a test

pub such_found : {A : Type 0} (size : ℕ) (test : A → Bool) (a : Codec A) (c d : Cursor) (x : A)
    → testing size test a.read c ≡ Ok (x, d) → a.Spells x c d × (test x ≡ true)
such_found {A = A} size test a c d x e =
    let f = bind_ok (a.read c) (test_passed size test) (x, d) e in
    let g = passed (test f.0.0) (broken size f.0.1) f.0 (x, d) f.2 in
    subst (λ (p : A × Cursor). a.Spells p.0 c p.1 × (test p.0 ≡ true)) g.1 (a.found c f.0.1 f.0.0 f.1, g.0)

pub such_only : {A : Type 0} (size : ℕ) (test : A → Bool) (a : Codec A) (c d : Cursor) (x : A)
    → a.Spells x c d × (test x ≡ true) → testing size test a.read c ≡ Ok (x, d)
such_only size test a c d x h = let t = h.1 in rw (a.only c d x h.0) (rw t refl)

-- ---- no bytes

pub given_found : {A : Type 0} (a b : A) (c d : Cursor) → done a c ≡ done b d → (b ≡ a) × (d ≡ c)
given_found {A = A} a b c d e =
    let p : (A × Cursor) = (a, c) in
    let g = ok_is (a, c) (b, d) (Count 0) e in
    (sym (ap (λ (z : A × Cursor). z.0) g), sym (ap (λ (z : A × Cursor). z.1) g))

pub given_only : {A : Type 0} (a b : A) (c d : Cursor) → (b ≡ a) × (d ≡ c) → done a c ≡ done b d
given_only a b c d h = rw (h.0, h.1) refl

-- ---- what nothing spells

abbrev refused : {A : Type 0} → NdrError → Result (A × Cursor) NdrError
refused e = Err e

pub unspelled_found : {A : Type 0} (c d : Cursor) (x : A) → refused {A = A} (broken 0 c) ≡ Ok (x, d) → ⊥
unspelled_found c d x e = cc

-- ---- one after the other

pub chain_found : {A B : Type 0} (a : Codec A) (b : A → Codec B) (c d : Cursor) (x : A × B)
    → both a.read (λ y. (b y).read) c ≡ Ok (x, d)
    → (m : Cursor) × a.Spells x.0 c m × (b x.0).Spells x.1 m d
chain_found {A = A} {B = B} a b c d x e =
    let f = bind_ok (a.read c) (λ p. (b p.0).read p.1 >>= λ q. done (p.0, q.0) q.1) (x, d) e in
    let g = bind_ok ((b f.0.0).read f.0.1) (λ q. done (f.0.0, q.0) q.1) (x, d) f.2 in
    let s = a.found c f.0.1 f.0.0 f.1 in
    let t = (b f.0.0).found f.0.1 g.0.1 g.0.0 g.1 in
    subst (λ (y : (A × B) × Cursor). (m : Cursor) × a.Spells y.0.0 c m × (b y.0.0).Spells y.0.1 m y.1)
    (ok_is ((f.0.0, g.0.0), g.0.1) (x, d) (Count 0) g.2) (f.0.1, s, t)

pub chain_only : {A B : Type 0} (a : Codec A) (b : A → Codec B) (c d : Cursor) (x : A × B)
    → (m : Cursor) × a.Spells x.0 c m × (b x.0).Spells x.1 m d
    → both a.read (λ y. (b y).read) c ≡ Ok (x, d)
chain_only a b c d x h = rw (a.only c h.0 x.0 h.1, (b x.0).only h.0 d x.1 h.2) refl

pub grows_on : (o p q : Written) → Grows o p → Grows p q → Grows o q
grows_on o p q g h = (g.0 ++ h.0, h.1 ∙ ap (λ (t : List ℕ). t ++ h.0) g.1 ∙ append_assoc o.bytes g.0 h.0)

-- what is written is spelled, also where more is written after it
pub spelled_before : {A : Type 0} (a : Codec A) (x : A) (o q : Written) (rest : List ℕ) → a.Fits x
    → Grows (a.write x o) q
    → a.Spells x (behind o (q.bytes ++ rest)) (behind (a.write x o) (q.bytes ++ rest))
spelled_before a x o q rest fits g =
    let e : (a.write x o).bytes ++ (g.0 ++ rest) ≡ q.bytes ++ rest =
    sym (append_assoc (a.write x o).bytes g.0 rest) ∙ ap (λ (t : List ℕ). t ++ rest) (sym g.1) in
    subst (λ (s : List ℕ). a.Spells x (behind o s) (behind (a.write x o) s)) e (a.spelled x o (g.0 ++ rest) fits)

-- ---- a value made of what is read

pub made_found : {A B : Type 0} (a : Codec A) (make : A → B) (c d : Cursor) (y : B) → making make a.read c ≡ Ok (y, d)
    → (x : A) × a.Spells x c d × (make x ≡ y)
made_found {A = A} {B = B} a make c d y e =
    let f = bind_ok (a.read c) (λ p. done (make p.0) p.1) (y, d) e in
    let g = ok_is (make f.0.0, f.0.1) (y, d) (Count 0) f.2 in
    let s = subst (λ (z : Cursor). a.Spells f.0.0 c z) (ap (λ (p : B × Cursor). p.1) g) (a.found c f.0.1 f.0.0 f.1) in
    (f.0.0, s, ap (λ (p : B × Cursor). p.0) g)

pub made_only : {A B : Type 0} (a : Codec A) (make : A → B) (c d : Cursor) (y : B)
    → (x : A) × a.Spells x c d × (make x ≡ y) → making make a.read c ≡ Ok (y, d)
made_only a make c d y h = rw (a.only c d h.0 h.1) (ap (λ z. done z d) h.2)

-- ---- pointers

pub pointer_grows : (b : Bool) (o : Written) → Grows o (put_pointer b o)
pointer_grows true o = number_grows w32 (referent o) o
pointer_grows false o = number_grows w32 0 o

pub pointer_bytes : (b : Bool) (o : Written) → IsBytes o.bytes → IsBytes (put_pointer b o).bytes
pointer_bytes true o h = number_bytes w32 (2 ^ 32) narrow32 (referent o) o h
pointer_bytes false o h = number_bytes w32 (2 ^ 32) narrow32 0 o h

referent_fits : (k : ℕ) → 0x20000 + 4 * (k % referents) < 2 ^ 32
referent_fits k = omega arith

referent_there : (k : ℕ) → is_there (0x20000 + 4 * (k % referents)) ≡ true
referent_there k =
    let e : 0x20000 + 4 * (k % referents) ≡ suc (0x1FFFF + 4 * (k % referents)) = omega arith in rw e refl

pub pointer_spelled : (b : Bool) (o : Written) (rest : List ℕ)
    → (n : ℕ) × Number w32 n (behind o ((put_pointer b o).bytes ++ rest))
    (behind (put_pointer b o) ((put_pointer b o).bytes ++ rest)) × (is_there n ≡ b)
pointer_spelled true o rest = (
  referent o,
  number_spelled w32 (2 ^ 32) narrow32 (referent o) o rest
      (referent_fits o.pointers),
  referent_there o.pointers,
)
pointer_spelled false o rest = (0, number_spelled w32 (2 ^ 32) narrow32 0 o rest (lit< tt), refl)

-- ---- padding that is no number's own

pub padding_spelled : (o : Written) (rest : List ℕ)
    → behind (put_padding 4 o) ((put_padding 4 o).bytes ++ rest)
    ≡ aligned_cursor 4 (behind o ((put_padding 4 o).bytes ++ rest))
padding_spelled o rest =
    ap (λ (k : ℕ). let x : Cursor = record { stub = (put_padding 4 o).bytes ++ rest; place = k } in x)
    (padded-length w32 (2 ^ 32) narrow32 o.bytes)

pub padding_found : (c d : Cursor) (u : Unit {0}) → done u (aligned_cursor 4 c) ≡ done u d → d ≡ aligned_cursor 4 c
padding_found c d u e = sym (ap (λ (p : Unit {0} × Cursor). p.1) (ok_is (u, aligned_cursor 4 c) (u, d) (Count 0) e))
