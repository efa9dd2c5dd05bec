-- Reading calls that may run out of memory, and those that fill a slice: further words of the family of Reads.
use Rattle.std.specs.Prelude.{◌≡◌, List, Result, Ok, Err}
use Rattle.ndr_core.specs.declared.error.NdrError.{NdrError}
use Rattle.ndr_core.specs.declared.error.NdrError.TheVariants.{Short, Count, Memory}
use Rattle.ndr_core.specs.Cursor.{Cursor}

-- ReadsIfRoom: value and refusal as of Reads, and running out of memory may come anywhere.
abbrev pub ReadsIfRoom : {A : Type 0} → Result A NdrError → Cursor → Result (A × Cursor) NdrError → Type 0
ReadsIfRoom (Ok x) after read = read ≡ Ok (x, after)
ReadsIfRoom (Err Memory) after read = Unit {0}
ReadsIfRoom (Err (Short place)) after read = read ≡ Err (Short place)
ReadsIfRoom (Err (Count place)) after read = read ≡ Err (Count place)

-- ReadsOnto: the value is what fills the slice; refusal as of Reads, which says nothing of the slice; memory never
-- runs out.
abbrev pub ReadsOnto : {A : Type 0} → Result (Unit {0}) NdrError → List A → Cursor → Result (List A × Cursor) NdrError
    → Type 0
ReadsOnto (Ok u) filled after read = read ≡ Ok (filled, after)
ReadsOnto (Err e) filled after read = read ≡ Err e
