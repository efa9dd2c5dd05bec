-- At the key of each kind before is a descriptor table, or nothing.
use Rattle.std.proofs.Common.{◌≡◌, not, drop}
use Rattle.std.specs.List.{find}
use Rattle.toml.specs.View.{view}
use Rattle.acct_config.specs.Kinds.{kind_name}
use Rattle.acct_config.specs.Document.{optional, is_descriptor}
use Rattle.acct_config.proofs.misfits.first_no_descriptor.Given as goal

abbrev pub invariant-loop-kind : goal.invariant-loop-kind
invariant-loop-kind l =
    find (λ kind. not (optional is_descriptor (kind_name kind) (view l.descriptors))) (drop l.kind-index l.kinds)
    ≡ find (λ kind. not (optional is_descriptor (kind_name kind) (view l.descriptors))) l.kinds
