-- Outs of another kind than RIDs with their uses are unfit after a look-up of names.
use Rattle.client_commands.proofs.Unfitting.{no_uses}
use Rattle.client_commands.proofs.outcomes.after_look_up.Goals as goal

pub returns-in_default : goal.returns-in_default
returns-in_default c = record {
  value = no_uses c.args.domain c.args.task.now c.args.outs.now c.in_default.not-RidUses;
  fit = tt;
}
