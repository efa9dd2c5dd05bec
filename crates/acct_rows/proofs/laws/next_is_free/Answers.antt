-- No account of sound rows has the next RID of its domain.
use Rattle.acct_rows.proofs.Moves.{next_free}
use Rattle.acct_rows.proofs.laws.next_is_free.Goals as goal

pub returns : goal.returns
returns c = next_free
