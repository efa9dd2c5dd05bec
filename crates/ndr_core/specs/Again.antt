-- Two laws of a shape: what is written is read again, and no stub has two readings.
use Rattle.std.specs.Prelude.{◌≡◌, ℕ, List, ◌++◌, Ok}
use Rattle.ndr_core.specs.Cursor.{Cursor, Written}
use Rattle.ndr_core.specs.Codec.{Codec, behind}

-- What is written for a value is read again as that value and no further, whatever stands before and after it.
abbrev pub IsReadAgain : {A : Type 0} → Codec A → Type 0
IsReadAgain {A = A} shape = (value : A) (o : Written) (rest : List ℕ) → shape.Fits value
    → shape.read (behind o ((shape.write value o).bytes ++ rest))
    ≡ Ok (value, behind (shape.write value o) ((shape.write value o).bytes ++ rest))

-- Two values that stand at one place of a stub are the same, and end at the same place.
abbrev pub HasOneReading : {A : Type 0} → Codec A → Type 0
HasOneReading {A = A} shape =
    (left right : A) (start end other : Cursor) → shape.Spells left start end → shape.Spells right start other
    → (left ≡ right) × (end ≡ other)
