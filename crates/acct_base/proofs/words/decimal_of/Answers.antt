-- As many digits as there are give a number below the power of ten for as many as may be.
use Rattle.std.proofs.Common.{◌<◌, ◌≤◌, ◌^◌, ℕ, length, IfSome, Option, Some, None, arith}
use Rattle.std.proofs.Math.Nat.{pow-le-pow_right}
use Rattle.acct_base.proofs.words.decimal_of.Goals as goal

wider : (k most : ℕ) (o : Option ℕ) → k ≤ most → IfSome o (λ number. number < 10 ^ k)
    → IfSome o (λ number. number < 10 ^ most)
wider k most None le small = tt
wider k most (Some number) le small =
    let more : 10 ^ k ≤ 10 ^ most = pow-le-pow_right (omega arith) le in
    omega (arith, small, more)

pub returns-clause-small : goal.returns-clause-small
returns-clause-small c =
    wider (length c.args.text.now) c.args.most c.decimal.result (omega (arith, c.if-most-text.false))
    c.decimal.ensures.small
