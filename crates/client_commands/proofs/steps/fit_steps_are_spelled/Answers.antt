-- The calls of steps that fit can be written.
use Rattle.client_commands.proofs.Spelled.{fit_steps_are_spelled_is}
use Rattle.client_commands.proofs.steps.fit_steps_are_spelled.Goals as goal

pub returns : goal.returns
returns c = fit_steps_are_spelled_is
