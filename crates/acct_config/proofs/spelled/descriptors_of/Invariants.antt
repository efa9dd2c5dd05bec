-- The descriptors so far, followed by those of the kinds left, are the descriptors of all the kinds.
use Rattle.std.proofs.Common.{◌≡◌, ◌++◌, map, drop}
use Rattle.toml.specs.View.{view}
use Rattle.acct_config.specs.Rules.{descriptor_table}
use Rattle.acct_config.specs.Spelled.{descriptor_of}
use Rattle.acct_config.proofs.spelled.descriptors_of.Given as goal

abbrev pub invariant-loop-kind : goal.invariant-loop-kind
invariant-loop-kind l =
    l.made ++ map (λ kind. descriptor_of (descriptor_table (view l.document) kind)) (drop l.kind-index l.kinds)
    ≡ map (λ kind. descriptor_of (descriptor_table (view l.document) kind)) l.kinds
