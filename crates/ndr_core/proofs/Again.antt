-- The two laws hold of every shape.
use Rattle.std.proofs.Common.{sym, ap, ◌∙◌}
use Rattle.ndr_core.specs.declared.error.NdrError.TheVariants.{Count}
use Rattle.ndr_core.specs.Cursor.{Cursor}
use Rattle.ndr_core.specs.Codec.{Codec}
use Rattle.ndr_core.specs.steps.Steps.{ok_is}
use Rattle.ndr_core.specs.Again.{IsReadAgain, HasOneReading}

pub read_again : {A : Type 0} (shape : Codec A) → IsReadAgain shape
read_again shape value o rest fits = shape.only _ _ value (shape.spelled value o rest fits)

pub one_reading : {A : Type 0} (shape : Codec A) → HasOneReading shape
one_reading {A = A} shape left right start end other l r =
    let e = ok_is (left, end) (right, other) (Count 0)
    (sym (shape.only start end left l) ∙ shape.only start other right r) in
    (ap (λ (p : A × Cursor). p.0) e, ap (λ (p : A × Cursor). p.1) e)
