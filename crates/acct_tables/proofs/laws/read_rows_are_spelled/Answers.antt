-- The row that is read of a pair is the one that the pair spells, since no other bytes are read than are written.
use Rattle.acct_tables.proofs.ReadRows as known
use Rattle.acct_tables.proofs.laws.read_rows_are_spelled.Goals as goal

pub returns : goal.returns
returns c = known.rows_are_spelled c.written_bytes_are_read.ensures c.written_bytes_have_lengths.ensures
    c.read_bytes_are_written.ensures
