-- None of the rights so far has the name.
use Rattle.std.proofs.Common.{◌≡◌, drop}
use Rattle.std.specs.List.{find}
use Rattle.lsad_rights.specs.Rights.{is_right_named, logon_rights}
use Rattle.lsad_rights.proofs.logon_rights.LogonRight.named.Given as goal

abbrev pub invariant-loop-right : goal.invariant-loop-right
invariant-loop-right l =
    find (is_right_named l.name) (drop l.right-index l.right-items) ≡ find (is_right_named l.name) logon_rights
