-- `Run::end` leaves its peer ended, and enters and prints that it is gone where it was still served.
use Rattle.std.proofs.Common.{◌≡◌, ◌-◌, ◌++◌, ◌∷◌, Bool, if◌then◌else◌, List, ℕ, [], map, Option, Some, slice_set, sym}
use Rattle.std.proofs.Common.{ap, ◌∙◌, subst}
use Rattle.std.specs.List.{flat_map}
use Rattle.acct_machine.specs.declared.entry.Entry.TheVariants.{Gone}
use Rattle.acct_machine.specs.Shown.{Past}
use Rattle.link_sessions.specs.declared.connections.Peer.{Peer}
use Rattle.link_sessions.specs.declared.connections.Peer.TheVariants as peer
use Rattle.acct_server.specs.Replayed.{IsGone, line_bytes, peer_of, with_peer, number_of}
use Rattle.acct_server.specs.steps.Running.{Running, Ties, AllHeard}
use Rattle.acct_server.proofs.Heard.{ended-at, still-there, peer-set, all-heard-ended}
use Rattle.acct_server.proofs.Placing.{ties-set}
use Rattle.acct_machine.specs.Step.{state_at}
use Rattle.acct_server.proofs.Moves.{end-does}
use Rattle.acct_server.proofs.running.Run.end.Goals as goal

pub returns-clause-does : goal.returns-clause-does
returns-clause-does g c =
    let stands : peer_of c.args.conn c.args.self.now.peers ≡ Some (peer.Open c.in-Some-Open.stream) =
    sym c.in-Some-Open.ensures.value ∙ ap (λ (p : Peer). Some p) c.in-Some-Open.field-0-is in
    let left : slice_set c.self.inside.peers.items (c.args.conn - 1) peer.Ended
    ≡ with_peer c.args.conn peer.Ended c.args.self.now.peers =
    ap (λ (ps : List Peer). slice_set ps (c.args.conn - 1) peer.Ended) (ap (λ (r : Running). r.peers) c.self.view_is)
    ∙ ended-at c.args.conn c.args.self.now.peers c.end_if_served.new.self.peers (peer.Open c.in-Some-Open.stream)
    stands c.end_if_served.ensures.peers in
    let a = c.args in
    let h = c.in-Some-Open.stream in
    let new : Running = record {
      machine = c.self.inside.machine.past;
      peers =
          slice_set c.self.inside.peers.items (a.conn - 1) peer.Ended;
    } in
    let machine : c.self.inside.machine.past ≡ c.end_if_served.new.self.machine =
    ap (λ (r : Running). r.machine) c.self.view_is in
    end-does a.self.now new a.conn h c.push_gone.new.lines.items stands
    (ap (λ (m : Past). m.history) machine ∙ c.end_if_served.ensures.history
    ∙ ap (λ (o : Option Peer). a.self.now.machine.history ++ map Gone (number_of a.conn o)) stands)
    (ap (λ (m : Past). m.start) machine ∙ c.end_if_served.ensures.start)
    left
    (c.in_ok-push_gone.ensures ∙ ap (λ (bs : List ℕ). bs ++ flat_map line_bytes
    (map IsGone (gone_if c.is_going.result))) c.new-lines.ensures.items
    ∙ ap (λ (b : Bool). flat_map line_bytes (map IsGone (gone_if b))) c.is_going.ensures)
  where
    gone_if : Bool → List ℕ
    gone_if served = if served then c.args.conn ∷ [] else []

pub invariant_of-self : goal.invariant_of-self
invariant_of-self g c =
    let stands : peer_of c.args.conn c.args.self.now.peers ≡ Some (peer.Open c.in-Some-Open.stream) =
    sym c.in-Some-Open.ensures.value ∙ ap (λ (p : Peer). Some p) c.in-Some-Open.field-0-is in
    let same : c.self.inside.peers.items ≡ c.end_if_served.new.self.peers =
    ap (λ (r : Running). r.peers) c.self.view_is in
    let there = still-there c.args.conn c.args.self.now.peers c.end_if_served.new.self.peers
    (peer.Open c.in-Some-Open.stream) stands c.end_if_served.ensures.peers in
    let here : peer_of c.args.conn c.self.inside.peers.items ≡ Some there.0 =
    ap (λ (ps : List Peer). peer_of c.args.conn ps) same ∙ there.1 in
    subst (λ (ps : List Peer). Ties ps (state_at c.self.inside.machine.past.start c.self.inside.machine.past.history))
    (sym (peer-set c.args.conn c.self.inside.peers.items there.0 peer.Ended here))
    (ties-set c.args.conn c.self.inside.peers.items there.0
    (state_at c.self.inside.machine.past.start c.self.inside.machine.past.history) here c.self.invariant)

pub returns-clause-hears : goal.returns-clause-hears
returns-clause-hears g c = λ most all.
    let stands : peer_of c.args.conn c.args.self.now.peers ≡ Some (peer.Open c.in-Some-Open.stream) =
    sym c.in-Some-Open.ensures.value ∙ ap (λ (p : Peer). Some p) c.in-Some-Open.field-0-is in
    let left : slice_set c.self.inside.peers.items (c.args.conn - 1) peer.Ended
    ≡ with_peer c.args.conn peer.Ended c.args.self.now.peers =
    ap (λ (ps : List Peer). slice_set ps (c.args.conn - 1) peer.Ended) (ap (λ (r : Running). r.peers) c.self.view_is)
    ∙ ended-at c.args.conn c.args.self.now.peers c.end_if_served.new.self.peers (peer.Open c.in-Some-Open.stream)
    stands c.end_if_served.ensures.peers in
    subst (λ (ps : List Peer). AllHeard most ps) (sym left)
    (all-heard-ended most c.args.conn c.args.self.now.peers (peer.Open c.in-Some-Open.stream) stands all)
