-- Each entry that was passed has flags, a mask and a SID within the limits of an entry.
use Rattle.std.proofs.Common.{All, take}
use Rattle.dtyp_access.specs.Parts.{IsAce}
use Rattle.dtyp_access.proofs.limits.aces_limits.Given as goal

abbrev pub invariant-loop-ace : goal.invariant-loop-ace
invariant-loop-ace l = All IsAce (take l.ace-index l.aces)
