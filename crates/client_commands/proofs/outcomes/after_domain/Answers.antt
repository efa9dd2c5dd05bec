-- Outs of another kind than one SID are unfit after the step that asks for a domain.
use Rattle.client_commands.proofs.Unfitting.{no_sid}
use Rattle.client_commands.proofs.outcomes.after_domain.Goals as goal

pub returns-in_default : goal.returns-in_default
returns-in_default c = record {
  value = no_sid c.args.server c.args.task c.args.outs.now c.in_default.not-OneSid;
  fit = λ _. tt;
}
