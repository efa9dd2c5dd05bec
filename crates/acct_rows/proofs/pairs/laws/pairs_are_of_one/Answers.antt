-- Sound rows with the same pairs are the same rows, since bytes that are written are read back.
use Rattle.acct_rows.proofs.Again.{one_rows}
use Rattle.acct_rows.proofs.pairs.laws.pairs_are_of_one.Goals as goal

pub returns : goal.returns
returns c =
    one_rows c.written_bytes_are_read.ensures c.written_bytes_have_lengths.ensures c.read_bytes_are_written.ensures
