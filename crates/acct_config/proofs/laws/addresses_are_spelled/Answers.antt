-- The texts that are addresses are exactly those of the grammar, `tcp:` or `unix:`.
use Rattle.acct_config.proofs.AddressSpelling.{addresses_spelled}
use Rattle.acct_config.proofs.laws.addresses_are_spelled.Goals as goal

pub returns : goal.returns
returns c = addresses_spelled
