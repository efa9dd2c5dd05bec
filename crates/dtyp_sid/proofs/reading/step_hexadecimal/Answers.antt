-- The number of fewer than 12 hexadecimal digits is below 2^44, so with one digit more it is still a `u64`.
use Rattle.std.proofs.Common.{arith, ◌<◌}
use Rattle.std.specs.Char.{digit_value}
use Rattle.dtyp_sid.proofs.Hexadecimals.{below_2_44}
use Rattle.dtyp_sid.proofs.reading.step_hexadecimal.Goals as goal

pub overflow_mul-result : goal.overflow_mul-result
overflow_mul-result c =
    omega (arith, below_2_44 c.args.count c.args.number c.if-count-lt12.true c.requires.number)

pub overflow_add-result-then-count-lt12 : goal.overflow_add-result-then-count-lt12
overflow_add-result-then-count-lt12 c =
    let digit = c.in_ok-digit.ensures in
    let below : digit_value c.from.result < 16 = digit.value.0 in
    omega (
      arith,
      below_2_44 c.args.count c.args.number c.if-count-lt12.true c.requires.number,
      digit.value.1,
      c.from-then-count-lt12.ensures,
    )
