-- The entries so far, followed by those that the texts left spell, are those that all the texts spell.
use Rattle.std.proofs.Common.{◌≡◌, ◌++◌, map, drop}
use Rattle.std.specs.List.{filter_map}
use Rattle.toml.specs.View.{view}
use Rattle.acct_config.specs.Spelled.{ace_at}
use Rattle.acct_config.proofs.spelled.aces_of.Given as goal

abbrev pub invariant-loop-text : goal.invariant-loop-text
invariant-loop-text l = l.aces.items ++ filter_map ace_at (map view (drop l.text-index l.texts))
    ≡ filter_map ace_at (map view l.texts)
