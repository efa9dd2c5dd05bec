-- A SID has eight written bytes, and four more for each sub-authority.
use Rattle.dtyp_sid.proofs.SidBytes.{length-bytes_of}
use Rattle.dtyp_sid.proofs.laws.written_bytes_have_lengths.Goals as goal

pub returns : goal.returns
returns c = length-bytes_of
