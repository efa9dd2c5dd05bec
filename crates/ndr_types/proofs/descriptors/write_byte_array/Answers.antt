-- What stands in a slice of bytes are bytes, and so many smalls are written as they stand.
use Rattle.std.proofs.Common.{w8}
use Rattle.std.proofs.lemmas.List.Elements.{All-from_get_or}
use Rattle.std.proofs.Math.Facts.{Fits-lt-pow}
use Rattle.ndr_core.specs.Cursor.{IsByte, IsBytes}
use Rattle.ndr_types.proofs.ByteArrays.{array_write}
use Rattle.ndr_types.proofs.descriptors.write_byte_array.Goals as goal

pub returns : goal.returns
returns c =
    let bytes : IsBytes c.args.bytes.now =
    All-from_get_or IsByte c.args.bytes.now 0 (λ i inside. Fits-lt-pow {w = w8} (c.type_inv.bytes i)) in
    rw (array_write c.args.bytes.now c.args.to.now bytes) c.bytes.ensures.ok
