-- The account without the names so far and those to come is the one without any of them.
use Rattle.std.proofs.Common.{◌≡◌, drop}
use Rattle.lsad_rights.specs.RightsChanges.{without_rights}
use Rattle.lsad_rights.proofs.rights_changes.without_rights.Given as goal

abbrev pub invariant-loop-name : goal.invariant-loop-name
invariant-loop-name l = without_rights (drop l.name-index l.names) l.later ≡ without_rights l.names l.initial.later
