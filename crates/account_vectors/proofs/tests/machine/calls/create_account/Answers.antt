-- LSA has an operation 10, and `create_account` brings what it takes: a handle of 128 bits, an access and a SID.
use Rattle.std.proofs.Common.{arith, refl}
use Rattle.acct_layouts.specs.CallShapes.{CanBeSpelled}
use Rattle.acct_layouts.specs.Table.{lsa_layout}
use Rattle.acct_operations.specs.Table.{operation, work_of}
use Rattle.account_vectors.proofs.tests.machine.calls.create_account.Goals as goal

pub returns : goal.returns
unfolding operation work_of CanBeSpelled lsa_layout
returns c = (refl, (c.ranges.number.fits, (omega arith, c.keeps_limits.ensures)))
