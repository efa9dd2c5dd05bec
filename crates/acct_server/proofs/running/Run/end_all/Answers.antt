-- In each turn the entries so far, with the ends of the peers ahead that are served, are the whole history.
use Rattle.std.proofs.Common.{◌≡◌, ◌++◌, map, length, ap, ◌∙◌, arith}
use Rattle.acct_machine.specs.declared.entry.Entry.TheVariants.{Gone}
use Rattle.acct_server.specs.Replayed.{served_from}
use Rattle.acct_server.specs.steps.Running.{Running}
use Rattle.acct_server.proofs.Closing.{closing-goes_on, closing-count}
use Rattle.acct_server.proofs.running.Run.end_all.Goals as goal

pub loop-i-preserved : goal.loop-i-preserved
loop-i-preserved g c =
    let old = c.loop-i.self in
    let new = c.end_if_served.new.self in
    let same : length c.self.inside.peers.items ≡ length c.args.self.now.peers =
    ap (λ (r : Running). length r.peers) c.self.view_is in
    let all = c.args.self.now.machine.history ++ map Gone (served_from 1 c.args.self.now.peers) in record {
      history = closing-goes_on c.loop-i.i old.machine.history new.machine.history all old.peers new.peers
          (omega (arith, same)) c.end_if_served.ensures.history c.end_if_served.ensures.peers
          c.loop-i.invariant.history;
      start = c.end_if_served.ensures.start ∙ c.loop-i.invariant.start;
      count = closing-count c.loop-i.i old.peers new.peers c.end_if_served.ensures.peers ∙ c.loop-i.invariant.count;
    }
