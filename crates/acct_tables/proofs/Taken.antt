-- What a reader of fields takes is what is written of the value, and what is written is read again.
use Rattle.std.proofs.Common.{◌≡◌, ℕ, zero, suc, ◌+◌, ◌*◌, ◌^◌, ◌<◌, ◌≤◌}
use Rattle.std.proofs.Common.{Bool, true, false, cond, ltb, List, [], ◌∷◌, ◌++◌}
use Rattle.std.proofs.Common.{length, get_or, take, drop, All, Option, Some, None, Result, Ok, Err, refl, sym, ap}
use Rattle.std.proofs.Common.{subst, ◌∙◌}
use Rattle.std.proofs.Common.{append_assoc, arith, inl, inr}
use Rattle.std.specs.Prelude.{slice_index, nat_le}
use Rattle.std.specs.Result.{result_ok}
use Rattle.std.specs.Int.{w16, w32, w64, to_le_bytes, to_be_bytes, from_le_bytes, from_be_bytes}
use Rattle.std.specs.List.{flat_map, AllByRecursion}
use Rattle.std.proofs.Math.Seq.{take-append_seam, drop-append_seam}
use Rattle.std.proofs.lemmas.Bool.{cases_lt, ltb-false, le-ltb, eqb-true}
use Rattle.std.proofs.lemmas.List.{take-append-drop, length-append, length-take, get_or-drop, get_or-take, get_or_past}
use Rattle.std.proofs.lemmas.List.{nil_from_length}
use Rattle.std.proofs.lemmas.Bool.Decides.{nat_tests}
use Rattle.std.proofs.lemmas.List.Elements.{All-from_recursion, recursion_from_All}
use Rattle.std.proofs.lemmas.List.Concat.{flat_map-cons}
use Rattle.std.proofs.lemmas.Nat.{le_bytes_2, le_bytes_4, be_bytes_4, be_bytes_8, from_le_bytes-to_le_bytes_2}
use Rattle.std.proofs.lemmas.Nat.{from_le_bytes-to_le_bytes_4, from_be_bytes-to_be_bytes_4}
use Rattle.std.proofs.lemmas.Nat.{from_be_bytes-to_be_bytes_8}
use Rattle.dtyp_sid.specs.declared.errors.BytesError.{BytesError}
use Rattle.dtyp_sid.specs.Sids.{SidValue, IsSid, bytes_of, sid_of_bytes, WrittenBytesAreRead, WrittenBytesHaveLengths}
use Rattle.dtyp_sid.specs.Sids.{ReadBytesAreWritten}
use Rattle.acct_tables.specs.Spelled.{text_bytes, rid_bytes, count_bytes, number_bytes, held_bytes, FitsText, FitsHeld}
use Rattle.acct_base.specs.Reading.{Reader, ◌>>=◌, is_end, front_at, many}
use Rattle.acct_tables.specs.Stored.{only_if, byte_at, unit_at, number_at, rid_at, count_at}
use Rattle.acct_tables.specs.Stored.{text_at, sid_at, domain_number_at, held_at}
use Rattle.acct_tables.specs.declared.row.Held.{Held}
use Rattle.acct_base.proofs.Many.{many-none, many-one}

abbrev pub IsBytes : List ℕ → Type 0
IsBytes bytes = (i : ℕ) → get_or bytes i 0 < 256

pub bytes_from_All : (bytes : List ℕ) → All (λ byte. byte < 2 ^ 8) bytes → IsBytes bytes
bytes_from_All bytes all i =
    elim (cases_lt i (length bytes)) [
      | inl lt ↦ all i 0 lt
      | inr le ↦ rw (get_or_past bytes i 0 le) (omega arith)
    ]

All_from_bytes : (bytes : List ℕ) → IsBytes bytes → AllByRecursion (λ byte. byte < 2 ^ 8) bytes
All_from_bytes [] fits = tt
All_from_bytes (byte ∷ bytes) fits = (fits 0, All_from_bytes bytes (λ i. fits (suc i)))

pub All_bytes : (bytes : List ℕ) → IsBytes bytes → All (λ byte. byte < 256) bytes
All_bytes bytes fits = All-from_recursion (λ byte. byte < 256) bytes (All_from_bytes bytes fits)

pub IsBytes-drop : (n : ℕ) (bytes : List ℕ) → IsBytes bytes → IsBytes (drop n bytes)
IsBytes-drop n bytes h i = rw get_or-drop (h (n + i))

IsBytes-take : (n : ℕ) (bytes : List ℕ) → IsBytes bytes → IsBytes (take n bytes)
IsBytes-take n bytes h i =
    elim (cases_lt i n) [
      | inl lt ↦ rw (get_or-take n bytes i 0 lt) (h i)
      | inr le ↦ rw (get_or_past (take n bytes) i 0 (omega (arith, length-take n bytes))) (omega arith)
    ]

pub bind_some : {A B : Type 0} (o : Option A) (f : A → Option B) (y : B) → (o >>= f) ≡ Some y
    → (x : A) × (o ≡ Some x) × (f x ≡ Some y)
bind_some (Some x) f y e = (x, refl, e)
bind_some None f y e = absurd cc

pub passed : {A : Type 0} (test : Bool) (x y : A) → only_if test x ≡ Some y → (test ≡ true) × (x ≡ y)
passed true x y e = (refl, cc)
passed false x y e = absurd cc

not_short : {A : Type 0} (test : Bool) (x y : A) → cond test None (Some x) ≡ Some y → (test ≡ false) × (x ≡ y)
not_short true x y e = absurd cc
not_short false x y e = (refl, cc)

abbrev done : {A : Type 0} → A → Option A
done x = Some x

pub some_is : {A : Type 0} (x y : A) → done x ≡ done y → x ≡ y
some_is x y e = cc

pub at_end : (bytes : List ℕ) → is_end bytes ≡ true → bytes ≡ []
at_end bytes e = nil_from_length bytes (eqb-true _ _ e)

-- what a reader took from the beginning
pub record Taken {A : Type 0} (write : A → List ℕ) (P : A → Type 0) (bytes : List ℕ) (x : A) (rest : List ℕ) : Type 0
  where
    pub parts : bytes ≡ write x ++ rest
    pub fits : P x
    pub rest_bytes : IsBytes rest

abbrev pub Takes : {A : Type 0} → Reader A → (A → List ℕ) → (A → Type 0) → Type 0
Takes {A} one write P = (bytes : List ℕ) (x : A) (rest : List ℕ) → IsBytes bytes → one bytes ≡ Some (x, rest)
    → Taken write P bytes x rest

abbrev pub Again : {A : Type 0} → Reader A → (A → List ℕ) → (A → Type 0) → Type 0
Again {A} one write P = (x : A) (rest : List ℕ) → P x → one (write x ++ rest) ≡ Some (x, rest)

abbrev itself : List ℕ → List ℕ
itself bytes = bytes

abbrev IsFront : ℕ → List ℕ → Type 0
IsFront n front = (length front ≡ n) × IsBytes front

pub front_takes : (n : ℕ) → Takes (front_at n) itself (IsFront n)
front_takes n bytes front rest fits e =
    let g = not_short (ltb (length bytes) n) (take n bytes, drop n bytes) (front, rest) e in
    let long : n ≤ length bytes = ltb-false _ _ g.0 in
    subst (λ (p : List ℕ × List ℕ). Taken itself (IsFront n) bytes p.0 p.1) g.1 (record {
      parts = sym (take-append-drop n bytes);
      fits = (omega (arith, length-take n bytes), IsBytes-take n bytes fits);
      rest_bytes = IsBytes-drop n bytes fits;
    })

pub front_again : (n : ℕ) (front rest : List ℕ) → length front ≡ n → front_at n (front ++ rest) ≡ Some (front, rest)
front_again n front rest len =
    let there : ltb (length (front ++ rest)) n ≡ false =
    le-ltb _ _ (let joined = length-append front rest in omega (arith, len, joined)) in
    let first : take n (front ++ rest) ≡ front = ap (λ (k : ℕ). take k (front ++ rest)) (sym len)
    ∙ take-append_seam front rest in
    let after : drop n (front ++ rest) ≡ rest = ap (λ (k : ℕ). drop k (front ++ rest)) (sym len)
    ∙ drop-append_seam front rest in
    rw (there, first, after) refl

-- a field that is made of the beginning
made : {A : Type 0} (n : ℕ) (make : List ℕ → A) (write : A → List ℕ) (P : A → Type 0)
    → ((front : List ℕ) → length front ≡ n → IsBytes front → (write (make front) ≡ front) × P (make front))
    → Takes (λ bytes. front_at n bytes >>= λ front. Some (make front.0, front.1)) write P
made n make write P is bytes x rest fits e =
    let b = bind_some (front_at n bytes) (λ front. Some (make front.0, front.1)) (x, rest) e in
    let t = front_takes n bytes b.0.0 b.0.1 fits b.1 in
    let w = is b.0.0 t.fits.0 t.fits.1 in
    subst (λ p. Taken write P bytes p.0 p.1) (some_is _ _ b.2) (record {
      parts = t.parts ∙ ap (λ (front : List ℕ). front ++ b.0.1) (sym w.0);
      fits = w.1;
      rest_bytes = t.rest_bytes;
    })

one_byte : (front : List ℕ) → length front ≡ 1 → slice_index front 0 ∷ [] ≡ front
one_byte [] len = absurd (omega (arith, len))
one_byte (byte ∷ []) len = refl
one_byte (byte ∷ next ∷ front) len = absurd (omega (arith, len))

first_byte : (front : List ℕ) → length front ≡ 1 → IsBytes front → slice_index front 0 < 256
first_byte [] len fits = absurd (omega (arith, len))
first_byte (byte ∷ front) len fits = fits 0

abbrev single : ℕ → List ℕ
single byte = byte ∷ []

pub byte_takes : Takes byte_at single (λ byte. byte < 256)
unfolding byte_at
byte_takes = made 1 (λ front. slice_index front 0) single (λ byte. byte < 256)
    (λ front len fits. (one_byte front len, first_byte front len fits))

pub byte_again : (byte : ℕ) (rest : List ℕ) → byte_at (byte ∷ rest) ≡ Some (byte, rest)
unfolding byte_at
byte_again byte rest =
    ap (λ (o : Option (List ℕ × List ℕ)). o
    >>= λ front. Some (slice_index front.0 0, front.1)) (front_again 1 (byte ∷ []) rest refl)

pub unit_takes : Takes unit_at (to_le_bytes w16) (λ n. n < 2 ^ 16)
unfolding unit_at
unit_takes = made 2 (λ front. from_le_bytes w16 front) (to_le_bytes w16) (λ n. n < 2 ^ 16)
    (λ front len fits. (le_bytes_2 front _ len fits refl, omega (arith, fits 0, fits 1)))

pub unit_again : Again unit_at (to_le_bytes w16) (λ n. n < 2 ^ 16)
unfolding unit_at
unit_again n rest lt = rw (front_again 2 (to_le_bytes w16 n) rest refl, from_le_bytes-to_le_bytes_2 n lt) refl

pub number_takes : Takes number_at number_bytes (λ n. n < 2 ^ 32)
unfolding number_at number_bytes
number_takes = made 4 (λ front. from_le_bytes w32 front) (to_le_bytes w32) (λ n. n < 2 ^ 32)
    (λ front len fits. (le_bytes_4 front _ len fits refl, omega (arith, fits 0, fits 1, fits 2, fits 3)))

pub number_again : Again number_at number_bytes (λ n. n < 2 ^ 32)
unfolding number_at number_bytes
number_again n rest lt = rw (front_again 4 (to_le_bytes w32 n) rest refl, from_le_bytes-to_le_bytes_4 n lt) refl

pub rid_takes : Takes rid_at rid_bytes (λ n. n < 2 ^ 32)
unfolding rid_at rid_bytes
rid_takes = made 4 (λ front. from_be_bytes w32 front) (to_be_bytes w32) (λ n. n < 2 ^ 32)
    (λ front len fits. (be_bytes_4 front _ len fits refl, omega (arith, fits 0, fits 1, fits 2, fits 3)))

pub rid_again : Again rid_at rid_bytes (λ n. n < 2 ^ 32)
unfolding rid_at rid_bytes
rid_again n rest lt = rw (front_again 4 (to_be_bytes w32 n) rest refl, from_be_bytes-to_be_bytes_4 n lt) refl

pub count_takes : Takes count_at count_bytes (λ n. n < 2 ^ 64)
unfolding count_at count_bytes
count_takes = made 8 (λ front. from_be_bytes w64 front) (to_be_bytes w64) (λ n. n < 2 ^ 64)
    (λ front len fits. (
      be_bytes_8 front _ len fits refl,
      omega (
        arith,
        fits 0,
        fits 1,
        fits 2,
        fits 3,
        fits 4,
        fits 5,
        fits 6,
        fits 7,
      ),
    ))

pub count_again : Again count_at count_bytes (λ n. n < 2 ^ 64)
unfolding count_at count_bytes
count_again n rest lt = rw (front_again 8 (to_be_bytes w64 n) rest refl, from_be_bytes-to_be_bytes_8 n lt) refl

abbrev AreMany : {A : Type 0} → (A → Type 0) → ℕ → List A → Type 0
AreMany P n xs = (length xs ≡ n) × AllByRecursion P xs

pub many_takes : {A : Type 0} (one : Reader A) (write : A → List ℕ) (P : A → Type 0) → Takes one write P → (n : ℕ)
    → Takes (many one n) (flat_map write) (AreMany P n)
many_takes {A = A} one write P takes zero bytes xs rest fits e =
    subst (λ (p : List A × List ℕ). Taken (flat_map write) (AreMany P 0) bytes p.0 p.1)
    (some_is ([], bytes) (xs, rest) (sym (many-none one bytes) ∙ e)) (record {
      parts = refl;
      fits = (refl, tt);
      rest_bytes = fits;
    })
many_takes {A = A} one write P takes (suc n) bytes xs rest fits e =
    let a = bind_some (one bytes) (λ first. many one n first.1 >>= λ others. Some (first.0 ∷ others.0, others.1))
    (xs, rest) (sym (many-one one n bytes) ∙ e) in
    let b = bind_some (many one n a.0.1) (λ others. Some (a.0.0 ∷ others.0, others.1)) (xs, rest) a.2 in
    let first = takes bytes a.0.0 a.0.1 fits a.1 in
    let others = many_takes one write P takes n a.0.1 b.0.0 b.0.1 first.rest_bytes b.1 in
    subst (λ (p : List A × List ℕ). Taken (flat_map write) (AreMany P (suc n)) bytes p.0 p.1)
    (some_is (a.0.0 ∷ b.0.0, b.0.1) (xs, rest) b.2) (record {
      parts = first.parts ∙ ap (λ (r : List ℕ). write a.0.0 ++ r) others.parts
          ∙ sym (append_assoc (write a.0.0) (flat_map write b.0.0) b.0.1)
          ∙ ap (λ (w : List ℕ). w ++ b.0.1) (sym (flat_map-cons write a.0.0 b.0.0));
      fits = (ap suc others.fits.0, (first.fits, others.fits.1));
      rest_bytes = others.rest_bytes;
    })

many_by : {A : Type 0} (one : Reader A) (write : A → List ℕ) (P : A → Type 0) → Again one write P
    → (xs : List A) (rest : List ℕ) → AllByRecursion P xs
    → many one (length xs) (flat_map write xs ++ rest) ≡ Some (xs, rest)
many_by one write P again [] rest all = many-none one rest
many_by one write P again (x ∷ xs) rest all =
    let apart : (write x ++ flat_map write xs) ++ rest ≡ write x ++ (flat_map write xs ++ rest) =
    append_assoc (write x) (flat_map write xs) rest in
    let count : length (x ∷ xs) ≡ suc (length xs) = omega arith in
    let first = again x (flat_map write xs ++ rest) all.0 in
    let others = many_by one write P again xs rest all.1 in
    rw (count, apart, many-one one (length xs) (write x ++ (flat_map write xs ++ rest)), first, others) refl

pub many_again : {A : Type 0} (one : Reader A) (write : A → List ℕ) (P : A → Type 0) → Again one write P
    → (xs : List A) (rest : List ℕ) → All P xs → many one (length xs) (flat_map write xs ++ rest) ≡ Some (xs, rest)
many_again one write P again xs rest all = many_by one write P again xs rest (recursion_from_All P xs all)

pub text_takes : Takes text_at text_bytes FitsText
unfolding text_at text_bytes
text_takes bytes units rest fits e =
    let a = bind_some (unit_at bytes) (λ count. many unit_at count.0 count.1) (units, rest) e in
    let count = unit_takes bytes a.0.0 a.0.1 fits a.1 in
    let all = many_takes unit_at (to_le_bytes w16) (λ n. n < 2 ^ 16) unit_takes a.0.0 a.0.1 units rest count.rest_bytes
    a.2 in
    record {
      parts = count.parts ∙ ap (λ (n : ℕ). to_le_bytes w16 n ++ a.0.1) (sym all.fits.0)
          ∙ ap (λ (r : List ℕ). to_le_bytes w16 (length units) ++ r) all.parts
          ∙ sym (append_assoc (to_le_bytes w16 (length units)) (flat_map (to_le_bytes w16) units) rest);
      fits = record {
        count = omega (arith, all.fits.0, count.fits);
        units_fit = All-from_recursion (λ n. n < 2 ^ 16) units all.fits.1;
      };
      rest_bytes = all.rest_bytes;
    }

pub text_again : Again text_at text_bytes FitsText
unfolding text_at text_bytes
text_again units rest fits =
    let apart = append_assoc (to_le_bytes w16 (length units)) (flat_map (to_le_bytes w16) units) rest in
    ap text_at apart
    ∙ rw (unit_again (length units) (flat_map (to_le_bytes w16) units ++ rest) fits.count)
    (many_again unit_at (to_le_bytes w16) (λ n. n < 2 ^ 16) unit_again units rest fits.units_fit)

pub held_takes : Takes held_at held_bytes FitsHeld
unfolding held_at held_bytes
held_takes bytes held rest fits e =
    let a = bind_some (byte_at bytes) (λ low. number_at low.1 >>= λ attributes. Some
    (record { low = low.0; attributes = attributes.0 }, attributes.1)) (held, rest) e in
    let b = bind_some (number_at a.0.1) (λ attributes. Some
    (record { low = a.0.0; attributes = attributes.0 }, attributes.1)) (held, rest) a.2 in
    let low = byte_takes bytes a.0.0 a.0.1 fits a.1 in
    let attributes = number_takes a.0.1 b.0.0 b.0.1 low.rest_bytes b.1 in
    let is : Held = record { low = a.0.0; attributes = b.0.0 } in
    subst (λ (p : Held × List ℕ). Taken held_bytes FitsHeld bytes p.0 p.1) (some_is (is, b.0.1) (held, rest) b.2)
    (record {
      parts = low.parts ∙ ap (λ (r : List ℕ). a.0.0 ∷ r) attributes.parts;
      fits = record { low = low.fits; attributes = attributes.fits };
      rest_bytes = attributes.rest_bytes;
    })

pub held_again : Again held_at held_bytes FitsHeld
unfolding held_at held_bytes
held_again held rest fits =
    rw (byte_again held.low (number_bytes held.attributes ++ rest), number_again held.attributes rest fits.attributes)
    refl

pub domain_number_takes : Takes domain_number_at single (λ n. n ≤ 1)
unfolding domain_number_at
domain_number_takes bytes n rest fits e =
    let a = bind_some (byte_at bytes) (λ number. only_if (nat_le number.0 1) number) (n, rest) e in
    let g = passed (nat_le a.0.0 1) a.0 (n, rest) a.2 in
    let t = byte_takes bytes a.0.0 a.0.1 fits a.1 in
    let few : a.0.0 ≤ 1 = grind (arith, nat_tests, g.0) in
    subst (λ (p : ℕ × List ℕ). Taken single (λ k. k ≤ 1) bytes p.0 p.1) g.1
    (record { parts = t.parts; fits = few; rest_bytes = t.rest_bytes })

pub domain_number_again : (n : ℕ) (rest : List ℕ) → n ≤ 1 → domain_number_at (n ∷ rest) ≡ Some (n, rest)
unfolding domain_number_at
domain_number_again zero rest le = rw (byte_again 0 rest) refl
domain_number_again (suc zero) rest le = rw (byte_again 1 rest) refl
domain_number_again (suc (suc n)) rest le = absurd (omega arith)

pub was_ok : {A E : Type 0} (result : Result A E) (x : A) → result_ok result ≡ Some x → result ≡ Ok x
was_ok (Ok y) x e = cc
was_ok (Err y) x e = absurd cc

module _ (back : WrittenBytesAreRead) (sizes : WrittenBytesHaveLengths) (only : ReadBytesAreWritten) where
  pub sid_takes : Takes sid_at bytes_of IsSid
  unfolding sid_at
  sid_takes bytes sid rest fits e =
      let a = bind_some (result_ok (sid_of_bytes bytes)) (λ sid. Some (sid, drop (8 + 4 * length sid.subs) bytes))
      (sid, rest) e in
      let w = only bytes a.0 (All_bytes bytes fits) (was_ok _ a.0 a.1) in
      let behind : drop (8 + 4 * length a.0.subs) bytes ≡ w.1.0 =
      ap (λ (n : ℕ). drop n bytes) (sym (sizes a.0)) ∙ ap (λ (b : List ℕ). drop (length (bytes_of a.0)) b) w.1.1
      ∙ drop-append_seam (bytes_of a.0) w.1.0 in
      subst (λ (p : SidValue × List ℕ). Taken bytes_of IsSid bytes p.0 p.1) (some_is _ _ a.2) (record {
        parts = w.1.1 ∙ ap (λ (r : List ℕ). bytes_of a.0 ++ r) (sym behind);
        fits = w.0;
        rest_bytes = IsBytes-drop (8 + 4 * length a.0.subs) bytes fits;
      })

  pub sid_again : Again sid_at bytes_of IsSid
  unfolding sid_at
  sid_again sid rest fits =
      let behind : drop (8 + 4 * length sid.subs) (bytes_of sid ++ rest) ≡ rest =
      ap (λ (n : ℕ). drop n (bytes_of sid ++ rest)) (sym (sizes sid)) ∙ drop-append_seam (bytes_of sid) rest in
      ap (λ (r : Result SidValue BytesError). result_ok r
      >>= λ s. Some (s, drop (8 + 4 * length s.subs) (bytes_of sid ++ rest)))
      (back sid rest fits)
      ∙ ap (λ (r : List ℕ). Some (sid, r)) behind
