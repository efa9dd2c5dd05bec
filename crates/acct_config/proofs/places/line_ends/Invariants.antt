-- The count is that of the bytes so far.
use Rattle.std.proofs.Common.{◌≡◌, ◌≤◌, take}
use Rattle.acct_config.specs.Places.{line_ends}
use Rattle.acct_config.proofs.places.line_ends.Given as goal

abbrev pub invariant-loop-byte : goal.invariant-loop-byte
invariant-loop-byte l = (l.count ≡ line_ends (take l.byte-index l.text)) × (l.count ≤ l.byte-index)
