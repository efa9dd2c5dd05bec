-- At the key of each limit before is a number, or nothing.
use Rattle.std.proofs.Common.{◌≡◌, not, drop}
use Rattle.std.specs.List.{find}
use Rattle.toml.specs.View.{view}
use Rattle.acct_config.specs.Document.{limit_key, optional, is_number}
use Rattle.acct_config.proofs.misfits.first_no_number.Given as goal

abbrev pub invariant-loop-limit : goal.invariant-loop-limit
invariant-loop-limit l =
    find (λ limit. not (optional is_number (limit_key limit) (view l.limits))) (drop l.limit-index l.each)
    ≡ find (λ limit. not (optional is_number (limit_key limit) (view l.limits))) l.each
