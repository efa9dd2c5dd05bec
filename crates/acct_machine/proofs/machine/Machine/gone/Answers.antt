-- There is room for the end of a live connection: entered, it leaves one less live, the same calls and the same rows.
use Rattle.std.proofs.Common.{refl, ◌≡◌, ℕ, ◌≤◌, ◌<◌, List, [], ◌∷◌, ◌++◌, true, sym, ap, subst, arith, length}
use Rattle.std.specs.Vec.{vec_capacity}
use Rattle.std.proofs.lemmas.Grind.{common_steps}
use Rattle.acct_rows.specs.Rows.{Lists}
use Rattle.acct_machine.specs.declared.entry.Entry.{Entry}
use Rattle.acct_machine.specs.declared.entry.Entry.TheVariants.{Gone}
use Rattle.acct_machine.specs.State.{State, is_live}
use Rattle.acct_machine.specs.Step.{state_at}
use Rattle.acct_machine.specs.Shown.{Past, Shown, begins, IsKept}
use Rattle.acct_machine.specs.Machine.{state_of, OneLessLive, SameCalls}
use Rattle.acct_machine.specs.Outbox.{HoldsRows}
use Rattle.acct_machine.proofs.Kept.{shown, one_less-push, same_calls-gone, shown-more, kept-more, state-shown}
use Rattle.acct_machine.proofs.Kept.{room-to-end, begins-same}
use Rattle.acct_machine.proofs.Storing.{stored-quiet}
use Rattle.acct_machine.proofs.machine.Machine.gone.Goals as goal

-- the connection is live, by the parts
is-live-inside : (old : Past) (s : State) (rows : Lists) (since : ℕ) (history : List Entry)
    (calls bytes capacity conn : ℕ)
    → shown s rows since history ≡ old → IsKept (begins s rows since) history s calls bytes capacity
    → is_live conn (state_of old).conns ≡ true → is_live conn s.conns ≡ true
is-live-inside old s rows since history calls bytes capacity conn view kept alive =
    subst (λ (x : State). is_live conn x.conns ≡ true)
    (state-shown old s rows since history calls bytes capacity view kept)
    alive

pub invariant_of-self : goal.invariant_of-self
invariant_of-self g c =
    let past : shown c.self.inside.store c.self.inside.opening.lists c.self.inside.since c.self.inside.history.items
    ≡ c.args.self.now.past =
    ap (λ (m : Shown). m.past) c.self.view_is in
    let s : State = c.self.inside.store in
    let new : State = c.end_conn.new.self in
    let history : c.enter.new.history.items ≡ c.self.inside.history.items ++ Gone c.args.conn ∷ [] =
    c.enter.ensures.entered in
    let inside : is_live c.args.conn s.conns ≡ true =
    is-live-inside c.args.self.now.past s c.self.inside.opening.lists c.self.inside.since c.self.inside.history.items _
    _ _ c.args.conn
    past c.self.invariant.0 c.requires in
    let alive : is_live c.args.conn
    (state_at (begins s c.self.inside.opening.lists c.self.inside.since) c.self.inside.history.items).conns ≡ true =
    subst (λ (x : State). is_live c.args.conn x.conns ≡ true) (sym c.self.invariant.0.state) inside in
    let grows : vec_capacity c.self.inside.history ≤ vec_capacity c.enter.new.history = c.enter.ensures.room in (
      kept-more s new c.self.inside.opening.lists c.self.inside.since c.self.inside.history.items _ _ _ _ _ _ _ _
          c.self.invariant.0 alive
          c.end_conn.ensures history (omega arith) (omega arith) (omega (arith, grows)),
      stored-quiet _ s.rows new.rows _ (begins s c.self.inside.opening.lists c.self.inside.since)
          (begins new c.self.inside.opening.lists c.self.inside.since) c.self.inside.history.items _ (Gone c.args.conn)
          c.self.invariant.1 refl (ap (λ (x : State). x.rows) c.end_conn.ensures)
          (begins-same s new c.self.inside.opening.lists c.self.inside.since (Gone c.args.conn) c.end_conn.ensures) history,
    )

pub enter-requires : goal.enter-requires
enter-requires g c =
    let past : shown c.self.inside.store c.self.inside.opening.lists c.self.inside.since c.self.inside.history.items
    ≡ c.args.self.now.past =
    ap (λ (m : Shown). m.past) c.self.view_is in
    let room : length c.self.inside.history.items < vec_capacity c.self.inside.history =
    room-to-end (begins c.self.inside.store c.self.inside.opening.lists c.self.inside.since) c.self.inside.history.items
    c.self.inside.store _ _ _ c.args.conn c.self.invariant.0
    (is-live-inside c.args.self.now.past c.self.inside.store c.self.inside.opening.lists c.self.inside.since
    c.self.inside.history.items
    _ _ _
    c.args.conn past c.self.invariant.0 c.requires) in
    grind (arith, common_steps)

pub returns-clause-live : goal.returns-clause-live
returns-clause-live g c =
    let past : shown c.self.inside.store c.self.inside.opening.lists c.self.inside.since c.self.inside.history.items
    ≡ c.args.self.now.past =
    ap (λ (m : Shown). m.past) c.self.view_is in
    let history : c.enter.new.history.items ≡ c.self.inside.history.items ++ Gone c.args.conn ∷ [] =
    c.enter.ensures.entered in
    subst (λ (m : Past). OneLessLive (state_of c.args.self.now.past) (state_of m) c.args.conn)
    (shown-more c.args.self.now.past c.self.inside.store c.end_conn.new.self c.self.inside.opening.lists
    c.self.inside.since _ _ _
    past c.end_conn.ensures history)
    (one_less-push c.args.self.now.past.start c.args.self.now.past.history c.args.conn)

pub returns-clause-calls : goal.returns-clause-calls
returns-clause-calls g c =
    let past : shown c.self.inside.store c.self.inside.opening.lists c.self.inside.since c.self.inside.history.items
    ≡ c.args.self.now.past =
    ap (λ (m : Shown). m.past) c.self.view_is in
    let history : c.enter.new.history.items ≡ c.self.inside.history.items ++ Gone c.args.conn ∷ [] =
    c.enter.ensures.entered in
    subst (λ (m : Past). SameCalls c.args.self.now.past m)
    (shown-more c.args.self.now.past c.self.inside.store c.end_conn.new.self c.self.inside.opening.lists
    c.self.inside.since _ _ _
    past c.end_conn.ensures history)
    (same_calls-gone c.args.self.now.past.start c.args.self.now.past.history c.args.conn)

pub returns-clause-legal : goal.returns-clause-legal
returns-clause-legal g c = (invariant_of-self g c).0.legal

pub returns-clause-stored : goal.returns-clause-stored
returns-clause-stored g c =
    let kept = invariant_of-self g c in
    subst (λ (x : State). HoldsRows (g.K.Keeper.held c.self.inside.keeper) x.rows) (sym kept.0.state) kept.1.pairs
