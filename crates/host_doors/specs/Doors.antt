-- What a door of the system is when it is made.
use Rattle.std.specs.Prelude.{◌≡◌, ℕ, false, None}
use Rattle.host_doors.specs.declared.doors.HostDoor.{HostDoor}
use Rattle.host_doors.specs.Counts.{left_of}

-- a door of the listener with this number that gives so many links, has given none, keeps none, and has failed at none
pub record IsDoor {R T S : Type 0} (number links : ℕ) (door : HostDoor R T S) : Type 0 where
  pub listener : door.listener ≡ number
  pub left : door.left ≡ left_of links
  pub going : door.is_closed ≡ false
  pub kept : door.kept ≡ None
  pub faults : door.fault_count ≡ 0
