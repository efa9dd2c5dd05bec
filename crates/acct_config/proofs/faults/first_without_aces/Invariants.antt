-- The entries of each kind before are entries.
use Rattle.std.proofs.Common.{◌≡◌, not, drop}
use Rattle.std.specs.List.{find}
use Rattle.toml.specs.View.{view}
use Rattle.acct_config.specs.Rules.{aces_are_entries}
use Rattle.acct_config.proofs.faults.first_without_aces.Given as goal

abbrev pub invariant-loop-kind : goal.invariant-loop-kind
invariant-loop-kind l =
    find (λ kind. not (aces_are_entries (view l.document) kind)) (drop l.kind-index l.kinds)
    ≡ find (λ kind. not (aces_are_entries (view l.document) kind)) l.kinds
