-- The units so far are those that the characters yielded so far have in UTF-16.
use Rattle.std.proofs.Common.{◌≡◌}
use Rattle.acct_calls.specs.Names.{units_of}
use Rattle.acct_calls.proofs.name.Name.from_text.Given as goal

abbrev pub invariant-loop-c : goal.invariant-loop-c
invariant-loop-c l = l.units.items ≡ units_of l.yielded
