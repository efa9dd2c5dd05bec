-- The count told of a full history is that of all its connections or calls, or of bytes of stubs past the limit.
use Rattle.door_workers.proofs.Fullness.{full-of-conns, full-of-calls}
use Rattle.door_workers.proofs.laws.full_counts.Goals as goal

pub returns-clause-conns : goal.returns-clause-conns
returns-clause-conns c = full-of-conns c.limits_are_kept.ensures

pub returns-clause-calls : goal.returns-clause-calls
returns-clause-calls c = full-of-calls c.limits_are_kept.ensures
