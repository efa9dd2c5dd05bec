-- What is read at the beginning of bytes is a SID, and the bytes begin with its written ones.
use Rattle.dtyp_sid.proofs.SidBytes.{read_written_back}
use Rattle.dtyp_sid.proofs.laws.read_bytes_are_written.Goals as goal

pub returns : goal.returns
returns c = read_written_back
