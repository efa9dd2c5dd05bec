-- The privileges so far are shown.
use Rattle.std.proofs.Common.{◌≡◌, map, take}
use Rattle.lsad_rights.specs.Accounts.{privilege_shown}
use Rattle.lsad_rights.proofs.accounts.held_shown.Given as goal

abbrev pub invariant-loop-privilege : goal.invariant-loop-privilege
invariant-loop-privilege l = l.shown ≡ map privilege_shown (take l.privilege-index l.held)
