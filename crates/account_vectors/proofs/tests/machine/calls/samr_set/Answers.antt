-- SAMR has an operation 2, and `samr_set` brings what it takes: a handle of 128 bits, bits and bytes.
use Rattle.std.proofs.Common.{refl}
use Rattle.acct_layouts.specs.CallShapes.{CanBeSpelled}
use Rattle.acct_layouts.specs.Table.{samr_layout}
use Rattle.acct_operations.specs.Table.{operation, work_of}
use Rattle.account_vectors.proofs.tests.machine.calls.samr_set.Goals as goal

pub returns : goal.returns
unfolding operation work_of CanBeSpelled samr_layout
returns c = (refl, (c.ranges.number.fits, (c.ranges.info.fits, c.requires.few, c.requires.small)))
