-- Where reading and writing stand in a stub, and what the primitives of the transfer syntax read and write there (C706,
-- chapter 14).
use Rattle.std.specs.Prelude.{◌≡◌, ℕ, zero, suc, ◌+◌, ◌-◌, ◌*◌, ◌/◌, Bool, true, false, ◌==◌, ◌||◌, IsTrue, ◌≤◌, List}
use Rattle.std.specs.Prelude.{length, take, drop, Result, Ok, Err, nat_lt, nat_le, if◌then◌else◌, ◌%◌, ◌<◌, All, ◌++◌}
use Rattle.std.specs.Prelude.{replicate}
use Rattle.std.specs.Int.{Width, w32, byte_len, from_le_bytes, to_le_bytes}
use Rattle.ndr_core.specs.declared.error.NdrError.{NdrError}
use Rattle.ndr_core.specs.declared.error.NdrError.TheVariants.{Short, Count}

-- ======== reading

-- A stub that is read, from a place on.
pub record Cursor : Type 0 where
  pub stub : List ℕ
  pub place : ℕ

-- The value that stands at a cursor and the cursor after it, or the bad place.
abbrev pub Reader : Type 0 → Type 0
Reader A = Cursor → Result (A × Cursor) NdrError

-- How a reading call keeps to a reading: one family of words. Each says of a value that it is the one that stands
-- there, with the cursor after it, and of a refusal that it is the reading's; where a refusal leaves the cursor none
-- says. Reads: memory never runs out.
abbrev pub Reads : {A : Type 0} → Result A NdrError → Cursor → Result (A × Cursor) NdrError → Type 0
Reads (Ok x) after read = read ≡ Ok (x, after)
Reads (Err e) after read = read ≡ Err e

-- ReadsBy: as Reads, of a value that is seen by a function.
abbrev pub ReadsBy : {A B : Type 0} → (A → B) → Result A NdrError → Cursor → Result (B × Cursor) NdrError → Type 0
ReadsBy see (Ok x) after read = read ≡ Ok (see x, after)
ReadsBy see (Err e) after read = read ≡ Err e

-- ---- alignment, always from the stub's start

-- The least multiple of the size that is at least the place.
abbrev pub aligned : ℕ → ℕ → ℕ
aligned size place = (place + (size - 1)) / size * size

-- The sizes of the primitives.
abbrev pub IsSize : ℕ → Type 0
IsSize n = IsTrue ((n == 1) || (n == 2) || (n == 4) || (n == 8))

abbrev pub aligned_cursor : ℕ → Cursor → Cursor
aligned_cursor size c = record { stub = c.stub; place = aligned size c.place }

-- ---- numbers

abbrev pub number_start : Width → Cursor → ℕ
number_start w c = aligned (byte_len w) c.place

abbrev pub number_end : Width → Cursor → ℕ
number_end w c = number_start w c + byte_len w

abbrev pub after_number : Width → Cursor → Cursor
after_number w c = record { stub = c.stub; place = number_end w c }

-- The little-endian number that stands after the padding.
abbrev pub number_there : Width → Cursor → ℕ
number_there w c = from_le_bytes w (take (byte_len w) (drop (number_start w c) c.stub))

-- A number that is whole; else its place, after alignment, is bad.
abbrev pub number_at : Width → Reader ℕ
number_at w c =
    if nat_lt (length c.stub) (number_end w c) then Err (Short (number_start w c))
    else Ok (number_there w c, after_number w c)

-- ---- one reading after another

infixl 10 ◌>>=◌
abbrev pub ◌>>=◌ : {A B : Type 0} → Result A NdrError → (A → Result B NdrError) → Result B NdrError
(Ok x) >>= f = f x
(Err e) >>= f = Err e

abbrev pub done : {A : Type 0} → A → Cursor → Result (A × Cursor) NdrError
done a c = Ok (a, c)

-- The bad place of a number of this size that was read last.
abbrev pub broken : ℕ → Cursor → NdrError
broken size after = Count (after.place - size)

-- A value that passes a test; else the number that was read last, of this size, is bad.
abbrev pub test_passed : {A : Type 0} → ℕ → (A → Bool) → A × Cursor → Result (A × Cursor) NdrError
test_passed size test p = if test p.0 then Ok p else Err (broken size p.1)

abbrev pub testing : {A : Type 0} → ℕ → (A → Bool) → Reader A → Reader A
testing size test r c = r c >>= test_passed size test

-- A value made of what is read.
abbrev pub making : {A B : Type 0} → (A → B) → Reader A → Reader B
making make r c = r c >>= λ p. done (make p.0) p.1

-- One value and then another, which may depend on the first.
abbrev pub both : {A B : Type 0} → Reader A → (A → Reader B) → Reader (A × B)
both {A = A} {B = B} r f c = r c >>= λ p. f p.0 p.1 >>= λ q. done (p.0, q.0) q.1

abbrev pub second : {A B : Type 0} → A × B → B
second p = p.1

-- ---- what the calls read that are no plain number

abbrev pub is_zero : ℕ → Bool
is_zero n = n == 0

-- A referent: the pointer isn't null.
abbrev pub is_there : ℕ → Bool
is_there zero = false
is_there (suc n) = true

abbrev pub pointer_at : Reader Bool
pointer_at = making is_there (number_at w32)

-- The offset 0, and then the actual count, which is at most so many.
abbrev pub offset_at : Reader ℕ
offset_at = testing 4 is_zero (number_at w32)

abbrev pub count_at : ℕ → Reader ℕ
count_at most = testing 4 (λ n. nat_le n most) (number_at w32)

abbrev pub varying_at : ℕ → Reader ℕ
varying_at most = making second (both offset_at (λ _. count_at most))

-- ---- bytes, one after the other

-- what is left of the stub
abbrev pub left : Cursor → List ℕ
left c = drop c.place c.stub

-- So many bytes; where fewer are left, the place after the last one is bad.
abbrev pub bytes_at : ℕ → Reader (List ℕ)
bytes_at count c =
    if nat_lt (length (left c)) count then Err (Short (c.place + length (left c)))
    else Ok (take count (left c), record { stub = c.stub; place = c.place + count })

-- ======== writing

-- The stub so far, and the number of pointers in it that aren't null. The number begins anew after the last referent.
pub record Written : Type 0 where
  pub bytes : List ℕ
  pub pointers : ℕ

-- A stub is bytes.
abbrev pub IsByte : ℕ → Type 0
IsByte n = n < 256

abbrev pub IsBytes : List ℕ → Type 0
IsBytes bytes = All IsByte bytes

-- Zeros up to a multiple of the size, from the stub's start.
abbrev pub padded : ℕ → List ℕ → List ℕ
padded size bytes = bytes ++ replicate (aligned size (length bytes) - length bytes) 0

abbrev pub put_padding : ℕ → Written → Written
put_padding size o = record { bytes = padded size o.bytes; pointers = o.pointers }

-- Padding to the number's size, and the number, the low byte first.
abbrev pub put_number : Width → ℕ → Written → Written
put_number w n o = record { bytes = padded (byte_len w) o.bytes ++ to_le_bytes w n; pointers = o.pointers }

-- There are so many referents: 0x00020000, 0x00020004 and so on, up to 0xFFFFFFFC.
abbrev pub referents : ℕ
referents = 0x3FFF8000

-- The referent of the next pointer that isn't null.
abbrev pub referent : Written → ℕ
referent o = 0x20000 + 4 * (o.pointers % referents)

-- Null is 0.
abbrev pub put_pointer : Bool → Written → Written
put_pointer false o = put_number w32 0 o
put_pointer true o = record
    { bytes = padded 4 o.bytes ++ to_le_bytes w32 (referent o); pointers = (o.pointers + 1) % referents }

-- The offset 0, and then the actual count.
abbrev pub put_varying : ℕ → Written → Written
put_varying count o = put_number w32 count (put_number w32 0 o)

-- Bytes, one after the other, with no padding.
abbrev pub put_bytes : List ℕ → Written → Written
put_bytes bytes o = record { bytes = o.bytes ++ bytes; pointers = o.pointers }
