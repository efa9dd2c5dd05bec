-- SAMR has an operation 57, and `connect2` brings what it takes: the zero handle and an access of 32 bits.
use Rattle.std.proofs.Common.{refl}
use Rattle.acct_layouts.specs.CallShapes.{CanBeSpelled}
use Rattle.acct_layouts.specs.Table.{samr_layout}
use Rattle.acct_operations.specs.Table.{operation, work_of}
use Rattle.account_vectors.proofs.tests.machine.calls.connect2.Goals as goal

pub returns : goal.returns
unfolding operation work_of CanBeSpelled samr_layout
returns c = (refl, (refl, c.ranges.access.fits))
