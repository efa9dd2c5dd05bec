-- While each key is below the next, the pairs ascend just where those from the next on do; the last by itself does.
use Rattle.std.proofs.Common.{◌≡◌, ◌-◌, ◌+◌, List, ℕ, suc, false, sym, ap, ◌∙◌, drop, arith}
use Rattle.std.specs.Ordering.{is_ge}
use Rattle.acct_keeper.specs.declared.pairs.Pair.{Pair}
use Rattle.acct_keeper.specs.Pairs.{compare, is_ascending}
use Rattle.acct_keeper.proofs.Neighbours.{ascends-next, ascends-last, below-not-above}
use Rattle.acct_keeper.proofs.places.is_ascending.Goals as goal

pub loop-i-preserved : goal.loop-i-preserved
loop-i-preserved c =
    let i = c.loop-i.i in
    let x = c.index-pairs-i.result in
    let y = c.index-pairs-i-in-loop-i.result in
    let back : i ≡ i + 1 - 1 = omega arith in
    let next : i ≡ suc (i - 1) = omega (arith, c.loop-i.auto.i) in
    let left : c.as_slice-left.result.now ≡ x.key =
    c.as_slice-left.ensures ∙ ap (λ (p : Pair). p.key) (sym c.index-pairs-i.is) in
    let right : c.as_slice-right.result.now ≡ y.key =
    c.as_slice-right.ensures ∙ ap (λ (p : Pair). p.key) (sym c.index-pairs-i-in-loop-i.is) in
    let order : c.cmp.result ≡ compare x.key y.key =
    c.cmp.ensures ∙ ap (λ (k : List ℕ). compare k c.as_slice-right.result.now) left
    ∙ ap (λ (k : List ℕ). compare x.key k) right in
    let not_above : is_ge (compare x.key y.key) ≡ false =
    sym (ap is_ge order) ∙ sym c.is_ge.ensures ∙ c.if-is_ge.false in
    c.loop-i.invariant ∙ ascends-next c.args.pairs.now (i - 1) i x y next c.loop-i-test.true c.index-pairs-i.is
    c.index-pairs-i-in-loop-i.is (below-not-above (compare x.key y.key) not_above)
    ∙ ap (λ n. is_ascending (drop n c.args.pairs.now)) back

pub returns : goal.returns
returns c = sym (c.loop-i.invariant ∙ ascends-last c.args.pairs.now (c.loop-i.i - 1)
    (omega (arith, c.loop-i-test.false)))
