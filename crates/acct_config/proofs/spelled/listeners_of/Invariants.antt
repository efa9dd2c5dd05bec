-- The listeners so far, followed by those of the tables left, are the listeners of all the tables.
use Rattle.std.proofs.Common.{◌≡◌, ◌++◌, map, drop}
use Rattle.toml.specs.View.{view}
use Rattle.acct_config.specs.Spelled.{listener_of}
use Rattle.acct_config.proofs.spelled.listeners_of.Given as goal

abbrev pub invariant-loop-table : goal.invariant-loop-table
invariant-loop-table l = l.made ++ map listener_of (map view (drop l.table-index l.tables))
    ≡ map listener_of (map view l.tables)
