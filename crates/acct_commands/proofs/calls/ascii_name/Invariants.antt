-- The units so far are the first so many bytes of the text, a unit for each.
use Rattle.std.proofs.Common.{◌≡◌, take}
use Rattle.acct_commands.proofs.calls.ascii_name.Given as goal

abbrev pub invariant-loop-byte : goal.invariant-loop-byte
invariant-loop-byte l = l.units.items ≡ take l.byte-index l.text
