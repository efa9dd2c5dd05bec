-- Numbers of few hexadecimal digits.
use Rattle.std.proofs.Common.{ℕ, ◌^◌, ◌<◌, ◌≤◌, arith, lit<}
use Rattle.std.proofs.Math.Nat.{pow-le-pow_right}

-- a number of at most eight hexadecimal digits has 32 bits
pub below_2_32 : (count number : ℕ) → count ≤ 8 → number < 16 ^ count → number < 2 ^ 32
below_2_32 count number few below =
    let most : 16 ^ count ≤ 16 ^ 8 = pow-le-pow_right (lit< tt) few in
    omega arith
