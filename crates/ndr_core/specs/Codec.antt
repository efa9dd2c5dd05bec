-- What a shape of the transfer syntax is, as one record: how it is read, what spells a value of it, which values it
-- has, how they are written, and the laws that tie these together.
use Rattle.std.specs.Prelude.{◌≡◌, ℕ, List, ◌++◌, length, Ok}
use Rattle.ndr_core.specs.Cursor.{Cursor, Reader, Written, IsBytes}

-- o with more bytes after it
abbrev pub Grows : Written → Written → Type 0
Grows o p = (more : List ℕ) × (p.bytes ≡ o.bytes ++ more)

-- where the reading stands after what is written so far, in this stub
abbrev pub behind : Written → List ℕ → Cursor
behind o stub = record { stub = stub; place = length o.bytes }

pub record Codec (A : Type 0) : Type 1 where
  -- the value at a cursor and the cursor after it, or the bad place
  pub read : Reader A
  -- the value stands from one cursor to another, whatever its padding and referents are
  pub Spells : A → Cursor → Cursor → Type 0
  -- the value is one of the shape's, and has a spelling that can be written
  pub Fits : A → Type 0
  -- its one written spelling
  pub write : A → Written → Written
  -- what is read is spelled
  pub found : (c d : Cursor) (a : A) → read c ≡ Ok (a, d) → Spells a c d
  -- what is spelled is read, so no stub has two readings
  pub only : (c d : Cursor) (a : A) → Spells a c d → read c ≡ Ok (a, d)
  -- reading stays in its stub
  pub stays : (c d : Cursor) (a : A) → Spells a c d → d.stub ≡ c.stub
  -- writing appends
  pub grows : (a : A) (o : Written) → Grows o (write a o)
  -- what is written is bytes
  pub bytes : (a : A) (o : Written) → IsBytes o.bytes → IsBytes (write a o).bytes
  -- what is written is spelled, whatever stands after it
  pub spelled : (a : A) (o : Written) (rest : List ℕ) → Fits a
      → Spells a (behind o ((write a o).bytes ++ rest)) (behind (write a o) ((write a o).bytes ++ rest))
