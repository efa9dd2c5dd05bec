-- The text of the configuration is read.
use Rattle.acct_commands.proofs.Configured.{configuration-is-taken}
use Rattle.acct_commands.proofs.generating.configuration_is_taken.Goals as goal

pub returns : goal.returns
returns c = configuration-is-taken
