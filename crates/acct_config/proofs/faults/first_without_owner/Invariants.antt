-- The descriptor table of each kind before has an owner.
use Rattle.std.proofs.Common.{◌≡◌, not, drop}
use Rattle.std.specs.List.{find}
use Rattle.toml.specs.View.{view}
use Rattle.acct_config.specs.Rules.{owner_is_sid}
use Rattle.acct_config.proofs.faults.first_without_owner.Given as goal

abbrev pub invariant-loop-kind : goal.invariant-loop-kind
invariant-loop-kind l =
    find (λ kind. not (owner_is_sid (view l.document) kind)) (drop l.kind-index l.kinds)
    ≡ find (λ kind. not (owner_is_sid (view l.document) kind)) l.kinds
