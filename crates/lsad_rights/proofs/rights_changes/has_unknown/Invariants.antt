-- None of the names so far is none of a right: what is to come decides.
use Rattle.std.proofs.Common.{◌≡◌, drop}
use Rattle.std.specs.List.{list_any}
use Rattle.lsad_rights.specs.RightsChanges.{is_no_right}
use Rattle.lsad_rights.proofs.rights_changes.has_unknown.Given as goal

abbrev pub invariant-loop-name : goal.invariant-loop-name
invariant-loop-name l = list_any is_no_right (drop l.name-index l.names) ≡ list_any is_no_right l.names
