-- The bytes of the first so many privileges were added after what was there.
use Rattle.std.proofs.Common.{◌≡◌, ◌++◌, take}
use Rattle.std.specs.List.{flat_map}
use Rattle.acct_tables.specs.Spelled.{held_bytes}
use Rattle.acct_tables.proofs.writing.push_privileges.Given as goal

abbrev pub invariant-loop-held : goal.invariant-loop-held
invariant-loop-held l = l.out.items ≡ l.fn.out.items ++ flat_map held_bytes (take l.held-index l.privileges)
