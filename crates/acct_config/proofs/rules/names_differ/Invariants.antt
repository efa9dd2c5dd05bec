-- No listener passed shares its name with a later one: the names differ exactly if those left do.
use Rattle.std.proofs.Common.{◌≡◌, map, drop}
use Rattle.toml.specs.View.{view}
use Rattle.acct_config.specs.Rules.{listener_name}
use Rattle.acct_config.specs.Values.{are_distinct}
use Rattle.acct_config.proofs.rules.names_differ.Given as goal

abbrev pub invariant-loop-i : goal.invariant-loop-i
invariant-loop-i l = are_distinct (map listener_name (map view (drop l.i l.tables)))
    ≡ are_distinct (map listener_name (map view l.tables))
