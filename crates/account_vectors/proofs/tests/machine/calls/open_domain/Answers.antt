-- SAMR has an operation 7, and `open_domain` brings what it takes: a handle of 128 bits, an access and a SID.
use Rattle.std.proofs.Common.{refl}
use Rattle.acct_layouts.specs.CallShapes.{CanBeSpelled}
use Rattle.acct_layouts.specs.Table.{samr_layout}
use Rattle.acct_operations.specs.Table.{operation, work_of}
use Rattle.account_vectors.proofs.tests.machine.calls.open_domain.Goals as goal

pub returns : goal.returns
unfolding operation work_of CanBeSpelled samr_layout
returns c = (refl, (c.ranges.number.fits, (c.ranges.access.fits, c.keeps_limits.ensures)))
