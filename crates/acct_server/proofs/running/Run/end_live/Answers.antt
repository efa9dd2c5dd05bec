-- Once the machine and the peer have a connection's end, each peer that is served is still live in the machine.
use Rattle.std.proofs.Common.{List, sym, subst}
use Rattle.std.specs.Prelude.{IsSome}
use Rattle.acct_machine.specs.Step.{state_at}
use Rattle.link_sessions.specs.declared.connections.Peer.{Peer}
use Rattle.link_sessions.specs.declared.connections.Peer.TheVariants.{Ended}
use Rattle.acct_server.specs.Replayed.{peer_of}
use Rattle.acct_server.specs.steps.Running.{Running, Ties}
use Rattle.acct_server.proofs.Heard.{peer-set}
use Rattle.acct_server.proofs.Placing.{some-there, ties-ended}
use Rattle.acct_server.proofs.running.Run.end_live.Goals as goal

pub invariant_of-self : goal.invariant_of-self
invariant_of-self g c =
    let conn = c.args.conn in
    let peers = c.self.inside.peers.items in
    let some = subst (λ (r : Running). IsSome (peer_of conn r.peers)) (sym c.self.view_is) c.requires.there in
    let there = some-there (peer_of conn peers) some in
    subst (λ (ps : List Peer). Ties ps (state_at c.gone.new.self.past.start c.gone.new.self.past.history))
    (sym (peer-set conn peers there.0 Ended there.1))
    (ties-ended conn peers there.0 (state_at c.self.inside.machine.past.start c.self.inside.machine.past.history)
    (state_at c.gone.new.self.past.start c.gone.new.self.past.history) there.1 c.self.invariant c.gone.ensures.live)
