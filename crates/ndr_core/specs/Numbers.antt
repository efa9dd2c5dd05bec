-- What a number in a stub is, and the laws of numbers.
use Rattle.std.proofs.Common.{lit<, [], ◌∷◌, ◌%◌, ◌/◌, ◌≡◌, ℕ, ◌+◌, ◌-◌, ◌^◌, ◌<◌, ◌≤◌, false, ltb, List, ◌++◌, length}
use Rattle.std.proofs.Common.{take, drop, replicate, Ok, refl, sym, ap, append_assoc, arith, length-append}
use Rattle.std.specs.Int.{Width, w8, w16, w32, byte_len, from_le_bytes, to_le_bytes}
use Rattle.std.proofs.lemmas.Bool.{ltb-false, le-ltb}
use Rattle.std.proofs.lemmas.List.Elements.{All-nil, All-cons, All-append, All-replicate}
use Rattle.std.proofs.lemmas.List.{take_at, drop_at, length-replicate}
use Rattle.std.proofs.lemmas.Nat.{from_le_bytes-to_le_bytes_2, from_le_bytes-to_le_bytes_4}
use Rattle.ndr_core.specs.declared.error.NdrError.TheVariants.{Short, Count}
use Rattle.ndr_core.specs.Cursor.{Cursor, aligned, done, number_start, number_end, after_number, number_there}
use Rattle.ndr_core.specs.Cursor.{number_at, Written, IsByte, IsBytes, padded, put_number}
use Rattle.ndr_core.specs.steps.Steps.{ok_is, reached}
use Rattle.ndr_core.specs.Codec.{Grows, behind}

-- The number n stands at c, after padding, and ends at d.
pub record Number (w : Width) (n : ℕ) (c d : Cursor) : Type 0 where
  pub whole : number_end w c ≤ length c.stub
  pub is : number_there w c ≡ n
  pub ends : d ≡ after_number w c

-- A width of the format: its numbers are below the limit, and written so that they are read again.
pub record IsNarrow (w : Width) (limit : ℕ) : Type 0 where
  pub len : (n : ℕ) → length (to_le_bytes w n) ≡ byte_len w
  pub again : (n : ℕ) → n < limit → from_le_bytes w (to_le_bytes w n) ≡ n
  pub bytes : (n : ℕ) → IsBytes (to_le_bytes w n)
  pub up : (p : ℕ) → p ≤ aligned (byte_len w) p

bytes8 : (n : ℕ) → IsBytes (to_le_bytes w8 n)
bytes8 n = All-cons IsByte _ [] (omega arith) (All-nil IsByte)

bytes16 : (n : ℕ) → IsBytes (to_le_bytes w16 n)
bytes16 n = All-cons IsByte (n % 256) (n / 256 % 256 ∷ []) (omega arith)
    (All-cons IsByte (n / 256 % 256) [] (omega arith) (All-nil IsByte))

bytes32 : (n : ℕ) → IsBytes (to_le_bytes w32 n)
bytes32 n =
    All-cons IsByte (n % 256) (n / 256 % 256 ∷ n / 65536 % 256 ∷ n / 16777216 % 256 ∷ []) (omega arith)
    (All-cons IsByte (n / 256 % 256) (n / 65536 % 256 ∷ n / 16777216 % 256 ∷ []) (omega arith)
    (All-cons IsByte (n / 65536 % 256) (n / 16777216 % 256 ∷ []) (omega arith)
    (All-cons IsByte (n / 16777216 % 256) [] (omega arith) (All-nil IsByte))))

pub narrow8 : IsNarrow w8 256
narrow8 = record { len = λ n. refl; again = λ n lt. omega arith; bytes = bytes8; up = λ p. omega arith }

pub narrow16 : IsNarrow w16 (2 ^ 16)
narrow16 = record { len = λ n. refl; again = from_le_bytes-to_le_bytes_2; bytes = bytes16; up = λ p. omega arith }

pub narrow32 : IsNarrow w32 (2 ^ 32)
narrow32 = record { len = λ n. refl; again = from_le_bytes-to_le_bytes_4; bytes = bytes32; up = λ p. omega arith }

pub number_found : (w : Width) (c d : Cursor) (n : ℕ) → number_at w c ≡ Ok (n, d) → Number w n c d
number_found w c d n e =
    let a = reached (ltb (length c.stub) (number_end w c)) (Short (number_start w c))
    (done (number_there w c) (after_number w c)) (n, d) e in
    let b = ok_is (number_there w c, after_number w c) (n, d) (Count 0) a.1 in
    record {
      whole = ltb-false _ _ a.0;
      is = ap (λ (p : ℕ × Cursor). p.0) b;
      ends = sym (ap (λ (p : ℕ × Cursor). p.1) b);
    }

pub number_only : (w : Width) (c d : Cursor) (n : ℕ) → Number w n c d → number_at w c ≡ Ok (n, d)
number_only w c d n h =
    let long : ltb (length c.stub) (number_end w c) ≡ false = le-ltb _ _ h.whole in
    rw long (rw h.is (ap (λ (x : Cursor). Ok (n, x)) (sym h.ends)))

pub number_grows : (w : Width) (n : ℕ) (o : Written) → Grows o (put_number w n o)
number_grows w n o = (
  replicate
      (aligned (byte_len w) (length o.bytes) - length o.bytes) 0 ++ to_le_bytes w n,
  append_assoc o.bytes
      (replicate (aligned (byte_len w) (length o.bytes) - length o.bytes) 0) (to_le_bytes w n),
)

-- zeros up to a multiple are bytes
pub padded_bytes : (size : ℕ) (bytes : List ℕ) → IsBytes bytes → IsBytes (padded size bytes)
padded_bytes size bytes h =
    All-append IsByte bytes _ h (All-replicate IsByte (aligned size (length bytes) - length bytes) 0 (lit< tt))

pub number_bytes : (w : Width) (limit : ℕ) (narrow : IsNarrow w limit) (n : ℕ) (o : Written) → IsBytes o.bytes
    → IsBytes (put_number w n o).bytes
number_bytes w limit narrow n o h =
    All-append IsByte (padded (byte_len w) o.bytes) (to_le_bytes w n) (padded_bytes (byte_len w) o.bytes h)
    (narrow.bytes n)

pub padded-length : (w : Width) (limit : ℕ) (narrow : IsNarrow w limit) (bytes : List ℕ)
    → length (padded (byte_len w) bytes) ≡ aligned (byte_len w) (length bytes)
padded-length w limit narrow bytes = simp (length-append, length-replicate) (omega (arith, narrow.up (length bytes)))

pub number_spelled : (w : Width) (limit : ℕ) (narrow : IsNarrow w limit) (n : ℕ) (o : Written) (rest : List ℕ)
    → n < limit
    → Number w n (behind o ((put_number w n o).bytes ++ rest))
    (behind (put_number w n o) ((put_number w n o).bytes ++ rest))
number_spelled w limit narrow n o rest h =
    let p = padded-length w limit narrow o.bytes in
    let l = narrow.len n in
    let front : drop (aligned (byte_len w) (length o.bytes))
    ((padded (byte_len w) o.bytes ++ to_le_bytes w n) ++ rest) ≡ to_le_bytes w n ++ rest =
    rw append_assoc (drop_at (padded (byte_len w) o.bytes) (to_le_bytes w n ++ rest)
    (aligned (byte_len w) (length o.bytes)) p) in
    let text : take (byte_len w)
    (drop (aligned (byte_len w) (length o.bytes)) ((padded (byte_len w) o.bytes ++ to_le_bytes w n) ++ rest))
    ≡ to_le_bytes w n = rw front (take_at (to_le_bytes w n) rest (byte_len w) l) in
    let total : length (padded (byte_len w) o.bytes ++ to_le_bytes w n)
    ≡ aligned (byte_len w) (length o.bytes) + byte_len w = rw length-append (omega (arith, p, l)) in
    record {
      whole = rw length-append (omega (arith, total));
      is = rw text (narrow.again n h);
      ends = ap (λ (k : ℕ). let x : Cursor =
          record { stub = (padded (byte_len w) o.bytes ++ to_le_bytes w n) ++ rest; place = k } in x) total;
    }
