-- The names of the privileges so far are pushed.
use Rattle.std.proofs.Common.{◌≡◌, ◌++◌, map, take}
use Rattle.lsad_rights.specs.Listings.{held_name}
use Rattle.lsad_rights.proofs.held_rights.push_privileges.Given as goal

abbrev pub invariant-loop-held : goal.invariant-loop-held
invariant-loop-held l = l.names ≡ l.fn.names ++ map held_name (take l.held-index l.held-items)
