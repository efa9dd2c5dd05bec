-- What `send` has written so far is a prefix of the bytes, and each write of the link adds a piece of the rest.
use Rattle.std.proofs.Common.{◌≡◌, ◌∙◌, take, drop, List, ℕ, arith, subst}
use Rattle.acct_links.specs.Links.{Sends}
use Rattle.acct_links.proofs.Sending.{Sends-then, Sends-written, take-more}
use Rattle.acct_links.proofs.links.send.Goals as goal

pub loop-at-preserved : goal.loop-at-preserved
loop-at-preserved g c =
    let t = g.L.Link in
    let now = t.told c.loop-at.link in
    let new = t.told c.write.new.self in
    let n = c.in_ok-at.field-0 in
    let rest : c.rest_of.result.now ≡ drop c.loop-at.at c.args.bytes.now = c.rest_of.ensures.value in
    let piece : Sends now new (take n (drop c.loop-at.at c.args.bytes.now)) =
    subst (λ (bs : List ℕ). Sends now new (take n bs)) rest
    (Sends-written now new n c.rest_of.result.now c.in_ok-at.ensures.writes) in
    record {
      within = omega (arith, c.in_ok-at.ensures.bound, c.rest_of.ensures.length);
      sends = rw take-more (Sends-then (t.told c.args.link.now) now new (take c.loop-at.at c.args.bytes.now)
          (take n (drop c.loop-at.at c.args.bytes.now)) c.loop-at.invariant.sends piece);
      faults = c.in_ok-at.ensures.writes.count ∙ c.loop-at.invariant.faults;
    }
