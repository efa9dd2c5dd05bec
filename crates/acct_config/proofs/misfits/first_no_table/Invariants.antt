-- At the key of each kind before is a table, or nothing.
use Rattle.std.proofs.Common.{◌≡◌, not, drop}
use Rattle.std.specs.List.{find}
use Rattle.toml.specs.View.{view}
use Rattle.acct_config.specs.Kinds.{kind_name}
use Rattle.acct_config.specs.Document.{optional}
use Rattle.acct_config.specs.Faults.{is_table}
use Rattle.acct_config.proofs.misfits.first_no_table.Given as goal

abbrev pub invariant-loop-kind : goal.invariant-loop-kind
invariant-loop-kind l =
    find (λ kind. not (optional is_table (kind_name kind) (view l.descriptors))) (drop l.kind-index l.kinds)
    ≡ find (λ kind. not (optional is_table (kind_name kind) (view l.descriptors))) l.kinds
