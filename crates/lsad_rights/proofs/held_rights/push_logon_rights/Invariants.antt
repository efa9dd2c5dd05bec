-- The names so far, and those of the rights to come, are those of all.
use Rattle.std.proofs.Common.{◌≡◌, ◌++◌, map, drop}
use Rattle.std.specs.List.{filter}
use Rattle.lsad_rights.specs.Listings.{logon_names}
use Rattle.lsad_rights.specs.Rights.{has_right, right_name}
use Rattle.lsad_rights.proofs.held_rights.push_logon_rights.Given as goal

abbrev pub invariant-loop-right : goal.invariant-loop-right
invariant-loop-right l =
    l.names ++ map right_name (filter (has_right l.account.access) (drop l.right-index l.right-items))
    ≡ l.fn.names ++ logon_names l.account
