-- The SIDs so far, followed by those that the texts left spell, are those that all the texts spell.
use Rattle.std.proofs.Common.{◌≡◌, ◌++◌, map, drop}
use Rattle.std.specs.List.{filter_map}
use Rattle.toml.specs.View.{view}
use Rattle.acct_config.specs.Rules.{sid_of}
use Rattle.acct_config.proofs.spelled.sids_of.Given as goal

abbrev pub invariant-loop-text : goal.invariant-loop-text
invariant-loop-text l = l.sids.items ++ filter_map sid_of (map view (drop l.text-index l.texts))
    ≡ filter_map sid_of (map view l.texts)
