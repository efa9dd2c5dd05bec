-- A domain's SID has a slot for a RID, so that aliases may be seeded under it, and the seed aliases ascend.
use Rattle.acct_rows.proofs.Seeded.{has_slot, seed_aliases_ascend}
use Rattle.acct_rows.proofs.rows.tables.Tables.seed.Goals as goal

pub seed_aliases-requires : goal.seed_aliases-requires
seed_aliases-requires c = has_slot c.args.sid c.requires.sid

pub from_rows-requires-4-clause-ascending : goal.from_rows-requires-4-clause-ascending
from_rows-requires-4-clause-ascending c = rw (c.in_ok-aliases.ensures) (seed_aliases_ascend c.args.sid)
