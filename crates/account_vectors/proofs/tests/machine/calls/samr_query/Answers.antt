-- SAMR has an operation 3, and `samr_query` brings what it takes: a handle of 128 bits, and bits.
use Rattle.std.proofs.Common.{refl}
use Rattle.acct_layouts.specs.CallShapes.{CanBeSpelled}
use Rattle.acct_layouts.specs.Table.{samr_layout}
use Rattle.acct_operations.specs.Table.{operation, work_of}
use Rattle.account_vectors.proofs.tests.machine.calls.samr_query.Goals as goal

pub returns : goal.returns
unfolding operation work_of CanBeSpelled samr_layout
returns c = (refl, (c.ranges.number.fits, c.ranges.info.fits))
