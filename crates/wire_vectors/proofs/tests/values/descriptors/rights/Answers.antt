-- Each of the five is a right: GENERIC_ALL is bit 28, DELETE 16, READ_CONTROL 17, WRITE_DAC 18, the auditing list's 24.
use Rattle.std.proofs.Common.{refl, arith}
use Rattle.wire_vectors.proofs.tests.values.descriptors.rights.Goals as goal

pub is_granted-requires : goal.is_granted-requires
is_granted-requires c = (28, omega arith, refl)

pub is_granted-requires-2 : goal.is_granted-requires-2
is_granted-requires-2 c = (16, omega arith, refl)

pub is_granted-requires-3 : goal.is_granted-requires-3
is_granted-requires-3 c = (17, omega arith, refl)

pub is_granted-requires-4 : goal.is_granted-requires-4
is_granted-requires-4 c = (18, omega arith, refl)

pub is_granted-requires-5 : goal.is_granted-requires-5
is_granted-requires-5 c = (24, omega arith, refl)
