-- What holds of each operation of the table.
use Rattle.std.specs.Prelude.{◌≡◌, ℕ, true, false, ◌&&◌, Option, Some}
use Rattle.dtyp_access.specs.declared.descriptor.Descriptor.{Descriptor}
use Rattle.acct_calls.specs.declared.calls.Args.{Args}
use Rattle.acct_calls.specs.declared.calls.Call.{Call}
use Rattle.acct_calls.specs.declared.calls.Face.{Face}
use Rattle.acct_layouts.specs.CallShapes.{CanBeSpelled}
use Rattle.acct_rows.specs.Rows.{Lists}
use Rattle.acct_tables.specs.declared.object.Object.{Object}
use Rattle.acct_rules.specs.Operations.{IsRight, KeepsRows}
use Rattle.acct_rules.specs.Planned.{has_change, takes_room}
use Rattle.acct_rules.specs.Profiles.{is_never}
use Rattle.acct_operations.specs.declared.table.Work.{Work}
use Rattle.acct_operations.specs.Table.{operation, work_of, has_operation}
use Rattle.acct_operations.specs.Frugal.{taken_by, is_for_handle, is_no_more}

-- Each operation is right, and is found by its interface and opnum; what is found by an interface and an opnum has
-- them.
pub record AreRight : Type 0 where
  pub right : (work : Work) → IsRight (operation work)
  pub found : (work : Work) → work_of (operation work).profile.face (operation work).profile.opnum ≡ Some work
  pub face : (face : Face) (opnum : ℕ) (work : Work) → work_of face opnum ≡ Some work
      → (operation work).profile.face ≡ face
  pub opnum : (face : Face) (opnum : ℕ) (work : Work) → work_of face opnum ≡ Some work
      → (operation work).profile.opnum ≡ opnum

-- Each takes less memory than a legal history allows it. What takes none plans nothing that takes room, and what takes
-- it for a handle alone changes no row.
pub record AreFrugal : Type 0 where
  pub allowed : (work : Work) → is_no_more (taken_by work) (operation work).profile.memory ≡ true
  pub never : (work : Work) (r : Lists) (described : Option Descriptor) (object : Object) (asked : Args)
      → (is_never (taken_by work) && takes_room ((operation work).rule r described object asked).planned) ≡ false
  pub changes : (work : Work) (r : Lists) (described : Option Descriptor) (object : Object) (asked : Args)
      → (is_for_handle (taken_by work) && has_change ((operation work).rule r described object asked).planned.plan)
      ≡ false

abbrev pub KeepRows : Type 0
KeepRows = (work : Work) → KeepsRows (operation work)

-- Each call that some served stub spells has its operation.
abbrev pub CallsHaveOperations : Type 0
CallsHaveOperations = (call : Call) → CanBeSpelled call → has_operation call.face call.opnum ≡ true
