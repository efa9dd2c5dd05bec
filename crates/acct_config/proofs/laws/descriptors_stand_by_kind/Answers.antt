-- The descriptor at the place of a kind is that of the kind's table.
use Rattle.acct_config.proofs.Broken.{by_kind}
use Rattle.acct_config.proofs.laws.descriptors_stand_by_kind.Goals as goal

pub returns : goal.returns
returns c = by_kind
