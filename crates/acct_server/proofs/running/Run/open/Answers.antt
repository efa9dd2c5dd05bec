-- `Run::open` adds the next connection with nothing heard; where the history is full the run stays as it was.
use Rattle.std.proofs.Common.{◌≡◌, ◌+◌, [], ◌∷◌, ◌++◌, List, Some, None, length, ap, ◌∙◌, sym, arith, subst}
use Rattle.std.proofs.lemmas.Bool.Decides.{nat_tests}
use Rattle.std.proofs.lemmas.Grind.{common_steps}
use Rattle.acct_machine.specs.declared.machine.Opened.TheVariants as opens
use Rattle.link_sessions.specs.declared.connections.Peer.{Peer}
use Rattle.link_sessions.specs.declared.connections.Peer.TheVariants.{Open}
use Rattle.link_sessions.specs.Connections.{nothing_heard}
use Rattle.acct_server.specs.Replayed.{on_open, listener_from}
use Rattle.acct_server.specs.steps.Running.{Running, standing, DoesLine, AllHeard}
use Rattle.acct_server.proofs.Configuring.{few_listeners}
use Rattle.acct_server.proofs.Heard.{all-heard-pushed}
use Rattle.acct_server.proofs.Moves.{open-does, open-full}
use Rattle.acct_server.proofs.Opening.{turn-opens}
use Rattle.acct_server.proofs.running.Run.open.Goals as goal

pub listener_place-requires : goal.listener_place-requires
listener_place-requires g c = rw c.as_slice-listeners.ensures (few_listeners _ c.config.ensures.right.listener_count)

pub returns-in-Conn-clause-does : goal.returns-in-Conn-clause-does
returns-in-Conn-clause-does g c =
    let old : Running = record { machine = c.self.inside.machine.past; peers = c.self.inside.peers.items } in
    let new : Running = record { machine = c.open_conn.new.self.past; peers = c.push_reserved.new.self.items } in
    let made = turn-opens old.machine new.machine c.in-Some.listener (opens.Conn c.in-Conn.field-0)
    c.in-Conn.ensures.turn c.open_conn.ensures.start in
    let found : listener_from 0 c.args.name.now old.machine.start.config.listeners ≡ Some c.in-Some.listener = cc in
    let next : c.args.conn ≡ length old.peers + 1 = grind (arith, nat_tests) in
    let same : c.in-Conn.field-0 ≡ c.args.conn = made.1 ∙ ap (λ n. n + 1) c.self.invariant.count ∙ sym next in
    let added : new.peers ≡ old.peers ++ Open (nothing_heard c.args.conn) ∷ [] = grind (arith, common_steps) in
    subst (λ (r : Running). DoesLine (λ verdicts. on_open (standing r) c.args.conn c.args.name.now) r c.new.result.items
    None new) c.self.view_is
    (open-does old new c.args.conn c.in-Conn.field-0 c.in-Some.listener c.args.name.now c.new.result.items found next
    same made.0 made.2 added c.new.ensures.items)

pub returns-in-Conn-clause-hears : goal.returns-in-Conn-clause-hears
returns-in-Conn-clause-hears g c = λ most all.
    let peers = c.self.inside.peers.items in
    let before : peers ≡ c.args.self.now.peers = ap (λ (r : Running). r.peers) c.self.view_is in
    let added : c.push_reserved.new.self.items ≡ peers ++ Open (nothing_heard c.args.conn) ∷ [] =
    grind (arith, common_steps) in
    let first : c.args.conn ≡ length peers + 1 = grind (arith, nat_tests) in
    subst (λ (ps : List Peer). AllHeard most ps) (sym added)
    (all-heard-pushed most c.args.conn peers first (subst (λ (ps : List Peer). AllHeard most ps) (sym before) all))

pub returns-in_ok-full_line-in-Full-clause-does : goal.returns-in_ok-full_line-in-Full-clause-does
returns-in_ok-full_line-in-Full-clause-does g c =
    let old : Running = record { machine = c.self.inside.machine.past; peers = c.self.inside.peers.items } in
    let new : Running = record { machine = c.open_conn.new.self.past; peers = c.reserve.new.self.items } in
    let made = turn-opens old.machine new.machine c.in-Some.listener (opens.Full c.in-Full.count)
    c.in-Full.ensures.turn c.open_conn.ensures.start in
    let found : listener_from 0 c.args.name.now old.machine.start.config.listeners ≡ Some c.in-Some.listener = cc in
    let next : c.args.conn ≡ length old.peers + 1 = grind (arith, nat_tests) in
    let kept : new.peers ≡ old.peers = grind (arith, common_steps) in
    let same : new ≡ old = λ i. record { machine = made.1 i; peers = kept i } in
    subst (λ (r : Running). DoesLine (λ verdicts. on_open (standing r) c.args.conn c.args.name.now) r
    c.in_ok-full_line-in-Full.field-0.items (Some c.in-Full.count) new) c.self.view_is
    (open-full old new c.args.conn c.in-Some.listener c.in-Full.count c.args.name.now
    c.in_ok-full_line-in-Full.field-0.items found next made.0 same c.in_ok-full_line-in-Full.ensures)
