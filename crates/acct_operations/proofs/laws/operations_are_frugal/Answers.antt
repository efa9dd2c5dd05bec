-- What takes no memory, or some for a handle alone, plans accordingly.
use Rattle.std.proofs.Common.{◌≡◌, true, false, Option, refl}
use Rattle.std.specs.Prelude.{◌&&◌}
use Rattle.acct_calls.specs.declared.calls.Args.{Args}
use Rattle.acct_rows.specs.Rows.{Lists}
use Rattle.acct_tables.specs.declared.object.Object.{Object}
use Rattle.acct_rules.specs.Planned.{has_change, takes_room}
use Rattle.acct_rules.specs.Profiles.{is_never}
use Rattle.dtyp_access.specs.declared.descriptor.Descriptor.{Descriptor}
use Rattle.acct_operations.specs.declared.table.Work.{Work}
use Rattle.acct_operations.specs.declared.table.Work.TheVariants as works
use Rattle.acct_operations.specs.Frugal.{taken_by, is_for_handle, is_no_more}
use Rattle.acct_operations.specs.Table.{operation}
use Rattle.acct_operations.proofs.laws.operations_are_frugal.Goals as goal

-- the last case is checked at each of the others
allowed : (work : Work) → is_no_more (taken_by work) (operation work).profile.memory ≡ true
unfolding operation
allowed works.SamrCloseHandle = refl
allowed _ = refl

never : (work : Work) (r : Lists) (described : Option Descriptor) (object : Object) (asked : Args)
    → (is_never (taken_by work) && takes_room ((operation work).rule r described object asked).planned) ≡ false
unfolding operation
never works.SamrCloseHandle r described object asked = refl
never _ r described object asked = refl

changes : (work : Work) (r : Lists) (described : Option Descriptor) (object : Object) (asked : Args)
    → (is_for_handle (taken_by work) && has_change ((operation work).rule r described object asked).planned.plan)
    ≡ false
unfolding operation
changes works.SamrConnect2 r described object asked = refl
changes _ r described object asked = refl

pub returns : goal.returns
returns c = record { allowed = allowed; never = never; changes = changes }
