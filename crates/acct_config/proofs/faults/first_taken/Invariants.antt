-- No listener before has the name of a later one.
use Rattle.std.proofs.Common.{◌≡◌, map, drop}
use Rattle.toml.specs.View.{view}
use Rattle.acct_config.specs.Faults.{first_taken}
use Rattle.acct_config.proofs.faults.first_taken.Given as goal

abbrev pub invariant-loop-i : goal.invariant-loop-i
invariant-loop-i l = first_taken l.i (map view (drop l.i l.tables)) ≡ first_taken 0 (map view l.tables)
