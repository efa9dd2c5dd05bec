-- The copies so far are the first so many names of the list.
use Rattle.std.proofs.Common.{◌≡◌, take}
use Rattle.acct_calls.proofs.names.Names.copy.Given as goal

abbrev pub invariant-loop-name : goal.invariant-loop-name
invariant-loop-name l = l.names.items ≡ take l.name-index l.self
