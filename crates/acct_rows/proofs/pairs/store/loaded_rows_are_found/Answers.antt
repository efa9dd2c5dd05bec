-- What is looked up among pairs is found among the rows that are loaded of them, since written bytes are read back.
use Rattle.acct_rows.proofs.Found.{loaded_rows_are_found}
use Rattle.acct_rows.proofs.pairs.store.loaded_rows_are_found.Goals as goal

pub returns : goal.returns
returns c =
    loaded_rows_are_found c.written_bytes_are_read.ensures c.written_bytes_have_lengths.ensures
    c.read_bytes_are_written.ensures c.equal_sids_are_one.ensures
