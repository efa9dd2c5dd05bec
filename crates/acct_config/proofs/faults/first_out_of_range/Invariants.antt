-- Each limit before is in its range.
use Rattle.std.proofs.Common.{◌≡◌, not, drop}
use Rattle.std.specs.List.{find}
use Rattle.toml.specs.View.{view}
use Rattle.acct_config.specs.Rules.{is_in_range}
use Rattle.acct_config.proofs.faults.first_out_of_range.Given as goal

abbrev pub invariant-loop-limit : goal.invariant-loop-limit
invariant-loop-limit l =
    find (λ limit. not (is_in_range (view l.document) limit)) (drop l.limit-index l.limits)
    ≡ find (λ limit. not (is_in_range (view l.document) limit)) l.limits
