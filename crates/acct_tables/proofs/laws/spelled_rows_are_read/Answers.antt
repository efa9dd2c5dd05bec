-- The row that a pair spells is the one that is read of it, since bytes that are written are read back.
use Rattle.acct_tables.proofs.SpelledRows as known
use Rattle.acct_tables.proofs.laws.spelled_rows_are_read.Goals as goal

pub returns : goal.returns
returns c = known.spelled_rows_are_read c.written_bytes_are_read.ensures c.written_bytes_have_lengths.ensures
    c.read_bytes_are_written.ensures
