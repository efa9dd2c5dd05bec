-- The lane of an entry is its connection, which the entry of its opening opens; an out row is taken out in the home
-- lane. And what no turn changes.
use Rattle.hist_lock.specs.Lanes.{Mark, opens, within, home}
use Rattle.acct_machine.specs.State.{Start}
use Rattle.acct_machine.specs.declared.entry.Entry.{Entry}
use Rattle.acct_machine.specs.declared.entry.Entry.TheVariants.{Opened, Called, Gone, Hooked}
use Rattle.door_workers.specs.declared.kept.Begun.{Begun}

abbrev pub lane_of : Entry → Mark
lane_of (Opened conn listener) = opens conn
lane_of (Called conn call verdict bytes) = within conn
lane_of (Gone conn) = within conn
lane_of (Hooked number) = home

-- where a history began, as plain data
abbrev pub begun_of : Start → Begun
begun_of start = record {
  config = start.config;
  rows = record { lists = start.rows; spare = 0 };
  faults = start.faults;
}

abbrev pub start_of : Begun → Start
start_of begun = record { config = begun.config; rows = begun.rows.lists; faults = begun.faults }
