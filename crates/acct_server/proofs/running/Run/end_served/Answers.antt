-- A connection that is served is live in the machine and stands among the peers, so `end_live` may end it.
use Rattle.std.proofs.Common.{◌≡◌, true, sym, subst}
use Rattle.acct_machine.specs.State.{is_live}
use Rattle.acct_machine.specs.Machine.{state_of}
use Rattle.link_sessions.specs.Connections.{is_served}
use Rattle.acct_server.specs.Replayed.{peer_of}
use Rattle.acct_server.specs.steps.Running.{Running}
use Rattle.acct_server.proofs.Placing.{served-some}
use Rattle.acct_server.proofs.running.Run.end_served.Goals as goal

pub end_live-requires-clause-live : goal.end_live-requires-clause-live
end_live-requires-clause-live g c =
    let conn = c.args.conn in
    let served = subst (λ (r : Running). is_served (peer_of conn r.peers) ≡ true) (sym c.self.view_is)
    c.requires.served in
    subst (λ (r : Running). is_live conn (state_of r.machine).conns ≡ true) c.self.view_is
    (c.self.invariant.lives conn served)

pub end_live-requires-clause-there : goal.end_live-requires-clause-there
end_live-requires-clause-there g c = served-some (peer_of c.args.conn c.args.self.now.peers) c.requires.served
