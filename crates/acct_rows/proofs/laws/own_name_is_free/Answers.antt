-- The name that an account has is free for it.
use Rattle.acct_rows.proofs.Moves.{own_name_free}
use Rattle.acct_rows.proofs.laws.own_name_is_free.Goals as goal

pub returns : goal.returns
returns c = own_name_free
