-- A value is read exactly where it is spelled: of every shape. And the bundle of a shape's laws, from those that are
-- proved shape by shape.
use Rattle.ndr_core.specs.Codec.{Codec}
use Rattle.ndr_core.proofs.Again.{one_reading, read_again}
use Rattle.ndr_core.proofs.Complete.{IsComplete}
use Rattle.ndr_types.proofs.Onward.{Takes, goes_onward}
use Rattle.ndr_types.specs.Laws.{HasValues, IsLawfulShape, IsReadWhereSpelled, IsWritable}

pub spelled_read : {A : Type 0} (shape : Codec A) → IsReadWhereSpelled shape
spelled_read shape value start end = (shape.found start end value, shape.only start end value)

pub writable : {A : Type 0} {shape : Codec A} → IsComplete shape → IsWritable shape
writable p value start end bytes spelled = p.fits value start end bytes spelled

pub lawful : {A : Type 0} {P : A → Type 0} (shape : Codec A) → IsComplete shape → HasValues shape P → Takes 0 shape
    → IsLawfulShape shape P
lawful shape complete values onward = record {
  read = spelled_read shape;
  again = read_again shape;
  one = one_reading shape;
  writable = writable complete;
  values = values;
  onward = goes_onward onward;
}
