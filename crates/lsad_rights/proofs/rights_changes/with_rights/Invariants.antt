-- The account with the names so far and those to come is the one with all of them.
use Rattle.std.proofs.Common.{◌≡◌, drop}
use Rattle.lsad_rights.specs.RightsChanges.{with_rights}
use Rattle.lsad_rights.proofs.rights_changes.with_rights.Given as goal

abbrev pub invariant-loop-name : goal.invariant-loop-name
invariant-loop-name l = with_rights (drop l.name-index l.names) l.later ≡ with_rights l.names l.initial.later
