-- What the sink took so far is the prefix of the bytes up to the place reached, one piece after the other.
use Rattle.std.proofs.Common.{◌≡◌, ◌∙◌, take, drop, List, ℕ, arith, subst}
use Rattle.std.specs.Io.KnownBytes.{Appends}
use Rattle.acct_keeper.proofs.Bytes.{Appends-then, take-more}
use Rattle.acct_keeper.proofs.writing.write_all.Goals as goal

pub loop-at-preserved : goal.loop-at-preserved
loop-at-preserved g c = record {
  within = omega (arith, c.in_ok-at.ensures.bound, c.rest_of.ensures.length);
  held =
      let t = g.T.Sink in
      let rest : c.rest_of.result.now ≡ drop c.loop-at.at c.args.bytes.now = c.rest_of.ensures.value in
      let piece : Appends (t.held c.loop-at.out) (t.held c.write.new.self)
      (take c.in_ok-at.field-0 (drop c.loop-at.at c.args.bytes.now)) =
      subst (λ (bs : List ℕ). Appends (t.held c.loop-at.out) (t.held c.write.new.self) (take c.in_ok-at.field-0 bs))
      rest c.in_ok-at.ensures.bytes in
      rw take-more (Appends-then (t.held c.args.out.now) (t.held c.loop-at.out) (t.held c.write.new.self)
      (take c.loop-at.at c.args.bytes.now) (take c.in_ok-at.field-0 (drop c.loop-at.at c.args.bytes.now))
      c.loop-at.invariant.held piece);
  faults = c.in_ok-at.ensures.count ∙ c.loop-at.invariant.faults;
}
