-- A name that is found as the account's own, in whatever case, is free for the account.
use Rattle.acct_rows.proofs.Moves.{found_name_free}
use Rattle.acct_rows.proofs.laws.name_found_is_free.Goals as goal

pub returns : goal.returns
returns c = found_name_free
