-- The copies so far, followed by the descriptors left, are the whole list of descriptors.
use Rattle.std.proofs.Common.{◌≡◌, ◌++◌, drop}
use Rattle.acct_config.proofs.config.copy_descriptors.Given as goal

abbrev pub invariant-loop-descriptor : goal.invariant-loop-descriptor
invariant-loop-descriptor l = l.copy ++ drop l.descriptor-index l.descriptors ≡ l.descriptors
