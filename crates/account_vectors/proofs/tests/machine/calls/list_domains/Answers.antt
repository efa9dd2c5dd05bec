-- SAMR has an operation 6, and `list_domains` brings what it takes: a handle of 128 bits, where a page goes on, no
-- filter and a length.
use Rattle.std.proofs.Common.{arith, refl}
use Rattle.acct_layouts.specs.CallShapes.{CanBeSpelled}
use Rattle.acct_layouts.specs.Table.{samr_layout}
use Rattle.acct_operations.specs.Table.{operation, work_of}
use Rattle.account_vectors.proofs.tests.machine.calls.list_domains.Goals as goal

pub returns : goal.returns
unfolding operation work_of CanBeSpelled samr_layout
returns c = (refl, (c.ranges.number.fits, (omega arith, refl, omega arith)))
