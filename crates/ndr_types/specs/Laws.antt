-- Which values a shape has, and the laws of a shape beside those of ndr_core.
use Rattle.std.specs.Prelude.{◌≡◌, ℕ, ◌+◌, ◌^◌, ◌<◌, ◌≤◌, ◌↔◌, All, List, length, Result, Ok, Err}
use Rattle.ndr_core.specs.declared.error.NdrError.{NdrError}
use Rattle.ndr_core.specs.declared.error.NdrError.TheVariants.{Short, Count, Memory}
use Rattle.ndr_core.specs.Cursor.{Cursor, IsBytes}
use Rattle.ndr_core.specs.Codec.{Codec}
use Rattle.ndr_core.specs.Again.{HasOneReading, IsReadAgain}

-- What some bytes spell can be written.
abbrev pub IsWritable : {A : Type 0} → Codec A → Type 0
IsWritable {A = A} shape =
    (value : A) (start end : Cursor) → IsBytes start.stub → shape.Spells value start end → shape.Fits value

-- A value is read, and ends there, exactly where it is spelled, whatever the padding and the referents are. Elsewhere
-- reading gives the first field in reading order that has no reading.
abbrev pub IsReadWhereSpelled : {A : Type 0} → Codec A → Type 0
IsReadWhereSpelled {A = A} shape =
    (value : A) (start end : Cursor) → (shape.read start ≡ Ok (value, end)) ↔ shape.Spells value start end

-- A value ends so many bytes at least after the place where reading began, a bad place stands there or after it, and
-- no reading runs out of memory.
abbrev pub Onward : {A : Type 0} → ℕ → ℕ → Result (A × Cursor) NdrError → Type 0
Onward place size (Ok x) = place + size ≤ x.1.place
Onward place size (Err (Short bad)) = place ≤ bad
Onward place size (Err (Count bad)) = place ≤ bad
Onward place size (Err Memory) = ⊥

abbrev pub GoesOnward : {A : Type 0} → Codec A → Type 0
GoesOnward shape = (start : Cursor) → Onward start.place 0 (shape.read start)

-- The values of a shape, which can be written, are those of a kind.
abbrev pub HasValues : {A : Type 0} → Codec A → (A → Type 0) → Type 0
HasValues {A = A} shape P = (value : A) → shape.Fits value ↔ P value

-- a list of at most so many values of a kind
abbrev pub IsListOf : {A : Type 0} → ℕ → (A → Type 0) → List A → Type 0
IsListOf most P xs = (length xs ≤ most) × (length xs < 2 ^ 32) × All P xs

-- The laws of a shape whose values are those of a kind, as one bundle.
pub record IsLawfulShape {A : Type 0} (shape : Codec A) (P : A → Type 0) : Type 0 where
  -- a value is read exactly where it is spelled
  pub read : IsReadWhereSpelled shape
  -- what is written is read again
  pub again : IsReadAgain shape
  -- no stub has two readings at one place
  pub one : HasOneReading shape
  -- what some stub spells can be written
  pub writable : IsWritable shape
  -- what can be written are the values of the kind
  pub values : HasValues shape P
  -- neither an end nor a bad place stands before the place where reading began
  pub onward : GoesOnward shape
