-- Bytes that are read or written at once are as many smalls, one after the other.
use Rattle.std.specs.Prelude.{◌≡◌, ℕ, List, length}
use Rattle.ndr_core.specs.Cursor.{Cursor, bytes_at, Written, IsBytes, put_bytes}
use Rattle.ndr_core.specs.Shapes.{u8}
use Rattle.ndr_core.specs.Parts.{times}

-- They are read as the smalls are, and with their bad place.
abbrev pub AreReadAtOnce : Type 0
AreReadAtOnce = (count : ℕ) (c : Cursor) → (times count u8).read c ≡ bytes_at count c

abbrev pub AreWrittenAtOnce : Type 0
AreWrittenAtOnce =
    (bytes : List ℕ) (o : Written) → IsBytes bytes → (times (length bytes) u8).write bytes o ≡ put_bytes bytes o
