-- The acts of a piece fit, a refusal is the last of them, and no stream that was heard grew by more than the piece.
use Rattle.std.proofs.Common.{◌≡◌, ◌^◌, ◌+◌, ◌-◌, List, Option, Some, All, length, slice_get, slice_set, sym, ap}
use Rattle.std.proofs.Common.{◌∙◌, subst}
use Rattle.rpc_session.specs.declared.sessions.Act.{Act}
use Rattle.rpc_session.specs.Sessions.{on, is_going}
use Rattle.rpc_session.specs.Acts.{IsFit}
use Rattle.link_sessions.specs.declared.connections.Peer.{Peer}
use Rattle.link_sessions.specs.declared.connections.Peer.TheVariants as peer
use Rattle.link_sessions.specs.Connections.{is_served}
use Rattle.acct_server.specs.Replayed.{peer_of}
use Rattle.acct_server.specs.steps.Running.{Running, HeardPeer, AllHeard, IsClosing}
use Rattle.acct_server.proofs.Placing.{peer-here}
use Rattle.acct_server.proofs.Heard.{open-here, heard-here, piece-acts-fit, piece-closes, all-heard}
use Rattle.acct_server.proofs.running.Run.hear.Goals as goal

pub returns-clause-fits : goal.returns-clause-fits
returns-clause-fits g c =
    let now = c.args.self.now.peers in
    let same : c.self.inside.peers.items ≡ now = ap (λ (r : Running). r.peers) c.self.view_is in
    let stands = open-here c.args.conn now c.self.inside.peers.items c.in-Some-Open.field-0.now c.index_mut.result.now
    c.in-Open.stream same c.in-Some-Open.ensures.value c.index_mut.ensures.value c.in-Open.is in
    let heard = subst (λ (p : Option Peer). HeardPeer (2 ^ 32) c.args.conn p) stands (c.requires.heard c.args.conn) in
    subst (λ (as' : List Act). All IsFit as') (sym c.in_ok-heard-in-Open.ensures.acts)
    (piece-acts-fit c.streams_are_cut_anywhere.ensures c.calls_fit.ensures (2 ^ 32) c.args.conn c.in-Open.stream
    c.args.bytes.now heard)

pub returns-clause-closed : goal.returns-clause-closed
returns-clause-closed g c = λ i.
    let now = c.args.self.now.peers in
    let same : c.self.inside.peers.items ≡ now = ap (λ (r : Running). r.peers) c.self.view_is in
    let stands = open-here c.args.conn now c.self.inside.peers.items c.in-Some-Open.field-0.now c.index_mut.result.now
    c.in-Open.stream same c.in-Some-Open.ensures.value c.index_mut.ensures.value c.in-Open.is in
    let left = heard-here c.args.conn now c.self.inside.peers.items c.in-Open.stream c.heard.new.stream c.args.bytes.now
    same stands c.in_ok-heard-in-Open.ensures.leaves in
    let heard = subst (λ (p : Option Peer). HeardPeer (2 ^ 32) c.args.conn p) stands (c.requires.heard c.args.conn) in
    let new = peer.Open (on c.in-Open.stream c.args.bytes.now).leaves in
    let here : peer_of c.args.conn (slice_set c.self.inside.peers.items (c.args.conn - 1)
    (peer.Open c.heard.new.stream)) ≡ Some new =
    ap (λ (ps : List Peer). peer_of c.args.conn ps) left
    ∙ peer-here c.args.conn now new (peer.Open c.in-Open.stream) stands in
    let closes = piece-closes c.streams_are_cut_anywhere.ensures c.refusals_are_last.ensures (2 ^ 32) c.args.conn
    c.in-Open.stream c.args.bytes.now heard i in
    subst (λ (p : Option Peer). IsClosing (is_served p) i (length c.in_ok-heard-in-Open.field-0.items)
    (slice_get c.in_ok-heard-in-Open.field-0.items i)) (sym here)
    (subst (λ (as' : List Act). IsClosing (is_going (on c.in-Open.stream c.args.bytes.now).leaves) i (length as')
    (slice_get as' i)) (sym c.in_ok-heard-in-Open.ensures.acts) closes)

pub returns-clause-hears : goal.returns-clause-hears
returns-clause-hears g c = λ most all.
    let now = c.args.self.now.peers in
    let same : c.self.inside.peers.items ≡ now = ap (λ (r : Running). r.peers) c.self.view_is in
    let stands = open-here c.args.conn now c.self.inside.peers.items c.in-Some-Open.field-0.now c.index_mut.result.now
    c.in-Open.stream same c.in-Some-Open.ensures.value c.index_mut.ensures.value c.in-Open.is in
    let left = heard-here c.args.conn now c.self.inside.peers.items c.in-Open.stream c.heard.new.stream c.args.bytes.now
    same stands c.in_ok-heard-in-Open.ensures.leaves in
    subst (λ (ps : List Peer). AllHeard (most + length c.args.bytes.now) ps) (sym left)
    (all-heard c.streams_are_cut_anywhere.ensures most c.args.conn c.in-Open.stream c.args.bytes.now now stands all)
