-- Each descriptor that was passed keeps the limits of its parts.
use Rattle.std.proofs.Common.{All, take}
use Rattle.dtyp_access.specs.Parts.{IsDescriptor}
use Rattle.acct_config.proofs.read.keep_limits.Given as goal

abbrev pub invariant-loop-descriptor : goal.invariant-loop-descriptor
invariant-loop-descriptor l = All IsDescriptor (take l.descriptor-index l.descriptors)
