-- From sound rows each legal history leaves a sound state: operations keep the rows sound, and grants are valid; the
-- rows of the outbox keep them sound.
use Rattle.acct_machine.proofs.Sounds.{are-sound}
use Rattle.acct_machine.proofs.laws.kept_states_are_sound.Goals as goal

pub returns : goal.returns
returns c =
    are-sound c.grants_are_valid.ensures c.connections_are_numbered.ensures.state c.operations_are_right.ensures
    c.operations_keep_rows.ensures c.outs_stay_sound.ensures c.removed_outs_stay_sound.ensures c.puts_are_found.ensures
