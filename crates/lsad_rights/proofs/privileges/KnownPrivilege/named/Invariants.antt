-- None of the privileges so far has the name.
use Rattle.std.proofs.Common.{◌≡◌, drop}
use Rattle.std.specs.List.{find}
use Rattle.lsad_rights.specs.Rights.{is_named, privileges}
use Rattle.lsad_rights.proofs.privileges.KnownPrivilege.named.Given as goal

abbrev pub invariant-loop-privilege : goal.invariant-loop-privilege
invariant-loop-privilege l =
    find (is_named l.name) (drop l.privilege-index l.privilege-items) ≡ find (is_named l.name) privileges
