-- A SID that is written is read as the same SID, whatever bytes follow.
use Rattle.dtyp_sid.proofs.SidBytes.{read_written}
use Rattle.dtyp_sid.proofs.laws.written_bytes_are_read.Goals as goal

pub returns : goal.returns
returns c = read_written
