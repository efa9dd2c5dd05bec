-- Removing the keys of the values left gives what removing all of them gives, and no room is lost.
use Rattle.std.proofs.Common.{◌≡◌, ◌≤◌, drop}
use Rattle.acct_tables.specs.Keyed.{without_all}
use Rattle.acct_tables.proofs.table.Table.remove_all.Given as goal

abbrev pub invariant-loop-value : goal.invariant-loop-value
invariant-loop-value g l = record {
  values : without_all g.O.Order.key_of (drop l.value-index l.gone) l.self.0
      ≡ without_all g.O.Order.key_of l.gone l.initial.self.0;
  room : l.initial.self.1 ≤ l.self.1;
}
