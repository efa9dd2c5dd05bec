-- A name that finds no account of the domain is free.
use Rattle.acct_rows.proofs.Moves.{unused_name_free}
use Rattle.acct_rows.proofs.laws.unused_name_is_free.Goals as goal

pub returns : goal.returns
returns c = unused_name_free
