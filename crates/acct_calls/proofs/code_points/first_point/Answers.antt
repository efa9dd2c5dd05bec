-- `first_point` joins a high surrogate and a low one after it; any other first unit is a code point by itself.
use Rattle.std.proofs.Common.{refl, ap, ◌∙◌, ◌-◌, ◌&&◌, length, false, take, drop, arith}
use Rattle.std.specs.Char.Utf16.{is_high_surrogate}
use Rattle.std.proofs.lemmas.Bool.{and_right}
use Rattle.acct_calls.proofs.Points.{not_pair, starts_low-at, starts_low_empty, code_points_first}
use Rattle.acct_calls.proofs.Points.{code_points_first_pair}
use Rattle.acct_calls.proofs.code_points.first_point.Goals as goal
use Rattle.acct_calls.proofs.code_points.first_point.Goals.{in_default-rest, in-len1-up-rest+else-high-ge55296}
use Rattle.acct_calls.proofs.code_points.first_point.Goals.{else-high-ge55296-via-then-high-ge55296+then-high-lt56320+then-low-ge56320+else-low-lt57344}
use Rattle.acct_calls.proofs.code_points.first_point.Goals.{else-high-ge55296-via-then-high-ge55296+then-high-lt56320+else-low-ge56320}
use Rattle.acct_calls.proofs.code_points.first_point.Goals.{else-high-ge55296-via-then-high-ge55296+else-high-lt56320}
use Rattle.acct_calls.proofs.code_points.first_point.Goals.{else-high-ge55296-via-else-high-ge55296}

pub returns-then-low-lt57344-clause-points : goal.returns-then-low-lt57344-clause-points
returns-then-low-lt57344-clause-points c =
    code_points_first_pair c.args.units.now _ _ c.from-high.result c.from-low.result c.in-len1-up.len_at_least
    c.from-high.ensures refl c.in-len1-up-rest.len_at_least c.from-low.ensures refl
    (record { high_from = omega arith; high_below = omega arith; low_from = omega arith; low_below = omega arith })

pub returns-clause-points : goal.returns-clause-points
returns-clause-points c =
    let units = c.args.units.now in
    let rest = take (length units - 1) (drop 1 units) in
    let high = c.from-high.result in
    code_points_first units rest high c.in-len1-up.len_at_least c.from-high.ensures refl
    (elim c.if-rest-lt1.branch [
      | in_default-rest w ↦
          ap (λ b. is_high_surrogate high && b) (starts_low_empty rest (omega arith))
          ∙ and_right (is_high_surrogate high) false refl
      | in-len1-up-rest+else-high-ge55296 w ↦
          ap (λ b. is_high_surrogate high && b)
          (starts_low-at rest w.from-low.result w.in-len1-up-rest.len_at_least w.from-low.ensures)
          ∙ not_pair high w.from-low.result (λ pair.
          elim w.else-high-ge55296.branch [
            | else-high-ge55296-via-then-high-ge55296+then-high-lt56320+then-low-ge56320+else-low-lt57344 w' ↦ omega
                arith
            | else-high-ge55296-via-then-high-ge55296+then-high-lt56320+else-low-ge56320 w' ↦ omega arith
            | else-high-ge55296-via-then-high-ge55296+else-high-lt56320 w' ↦ omega arith
            | else-high-ge55296-via-else-high-ge55296 w' ↦ omega arith
          ])
    ])
