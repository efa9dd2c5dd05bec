-- The digits so far spell a number below 2^32, as they are at most eight, so no step of `hexadecimal_of` overflows.
use Rattle.std.proofs.Common.{arith, ◌<◌, ◌≤◌}
use Rattle.std.specs.Char.{digit_value}
use Rattle.acct_config.proofs.Digits.{below_2_32}
use Rattle.acct_config.proofs.words.hexadecimal_of.Goals as goal

pub overflow_mul-number : goal.overflow_mul-number
overflow_mul-number c =
    let few : c.loop-byte.byte-index ≤ 8 = omega (arith, c.loop-byte-test.true, c.loop-byte.invariant.short) in
    omega (arith, below_2_32 c.loop-byte.byte-index c.loop-byte.number few c.loop-byte.invariant.small)

pub overflow_add-number : goal.overflow_add-number
overflow_add-number c =
    let few : c.loop-byte.byte-index ≤ 8 = omega (arith, c.loop-byte-test.true, c.loop-byte.invariant.short) in
    let digit = c.in-Some.ensures in
    let below : digit_value c.from.result < 16 = digit.value.0 in
    omega (
      arith,
      below_2_32 c.loop-byte.byte-index c.loop-byte.number few c.loop-byte.invariant.small,
      digit.value.1,
      c.from-in-Some.ensures,
    )

pub overflow_cast-result : goal.overflow_cast-result
overflow_cast-result c =
    let few : c.loop-byte.byte-index ≤ 8 =
    omega (arith, c.loop-byte.auto.byte-index-end, c.loop-byte.invariant.short) in
    omega (arith, below_2_32 c.loop-byte.byte-index c.loop-byte.number few c.loop-byte.invariant.small)
