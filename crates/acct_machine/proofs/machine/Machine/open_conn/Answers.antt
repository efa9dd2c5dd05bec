-- Below the limit an opening has room, gets the next number and is live and fresh; at the limit nothing is opened.
use Rattle.std.proofs.Common.{refl, rules, ℕ, ◌≡◌, ◌+◌, ◌≤◌, ◌<◌, ◌^◌, Some, None, [], ◌∷◌, ◌++◌, sym, ◌∙◌, ap}
use Rattle.std.proofs.Common.{subst, arith, length}
use Rattle.std.specs.Vec.{vec_capacity}
use Rattle.std.proofs.lemmas.Grind.{common_steps}
use Rattle.acct_machine.specs.declared.entry.Entry.TheVariants.{Opened}
use Rattle.acct_machine.specs.State.{State, Start}
use Rattle.acct_machine.specs.Step.{step}
use Rattle.acct_machine.specs.Legal.{May, Legal, conns_full}
use Rattle.acct_machine.specs.Shown.{Past, Shown, begins}
use Rattle.acct_machine.specs.Machine.{state_of, with_entry, OneMoreLive, SameCalls}
use Rattle.acct_machine.proofs.Counting.{takes-conn, no-conn, most-conns}
use Rattle.acct_machine.specs.Outbox.{HoldsRows}
use Rattle.acct_machine.proofs.Kept.{begins-same}
use Rattle.acct_machine.proofs.Kept.{shown, may-opened, one_more-push, same_calls-opened, shown-more, kept-more}
use Rattle.acct_machine.proofs.Kept.{state-shown, opened-kept, room-to-open}
use Rattle.acct_machine.proofs.Storing.{stored-quiet}
use Rattle.acct_machine.proofs.machine.Machine.open_conn.Goals as goal

pub invariant_of-self : goal.invariant_of-self
invariant_of-self g c =
    let past : shown c.self.inside.store c.self.inside.opening.lists c.self.inside.since c.self.inside.history.items
    ≡ c.args.self.now.past =
    ap (λ (m : Shown). m.past) c.self.view_is in
    let conn = c.count-count.result + 1 in
    let s : State = c.self.inside.store in
    let new : State = c.add_conn.new.self in
    let history : c.enter.new.history.items ≡ c.self.inside.history.items ++ Opened conn c.args.listener ∷ [] =
    c.enter.ensures.entered in
    let is : new ≡ step s (Opened conn c.args.listener) = grind (arith, common_steps) in
    let count : conn ≡ length s.conns + 1 = grind (arith, common_steps) in
    let start : Start = begins s c.self.inside.opening.lists c.self.inside.since in
    let below : length s.conns < start.config.limits.max_conns = grind (arith, common_steps) in
    let small : conn < 2 ^ 32 = omega (arith, count, below, most-conns start.config c.self.invariant.0.right) in
    let fits : c.args.listener < length s.config.listeners =
    subst (λ (m : Past). c.args.listener < length m.start.config.listeners) (sym past)
    c.requires.configured in
    let taken : conns_full start c.self.inside.history.items ≡ None =
    takes-conn start c.self.inside.history.items (length s.conns)
    (opened-kept start c.self.inside.history.items s _ _ _ c.self.invariant.0) below in
    let may : May start c.self.inside.history.items (Opened conn c.args.listener) =
    may-opened start c.self.inside.history.items s conn c.args.listener c.self.invariant.0.state count small fits
    taken in
    let grows : vec_capacity c.self.inside.history ≤ vec_capacity c.enter.new.history = c.enter.ensures.room in (
      kept-more s new c.self.inside.opening.lists c.self.inside.since c.self.inside.history.items _ _ _ _ _ _ _ _
          c.self.invariant.0 may is
          history (omega arith) (omega arith) (omega (arith, grows)),
      stored-quiet _ s.rows new.rows _ start (begins new c.self.inside.opening.lists c.self.inside.since)
          c.self.inside.history.items _ (Opened conn c.args.listener) c.self.invariant.1 refl
          (ap (λ (x : State). x.rows) is)
          (begins-same s new c.self.inside.opening.lists c.self.inside.since (Opened conn c.args.listener) is) history,
    )

pub returns-clause-fresh : goal.returns-clause-fresh
returns-clause-fresh g c =
    let past : shown c.self.inside.store c.self.inside.opening.lists c.self.inside.since c.self.inside.history.items
    ≡ c.args.self.now.past =
    ap (λ (m : Shown). m.past) c.self.view_is in
    let conn = c.count-count.result + 1 in
    let history : c.enter.new.history.items ≡ c.self.inside.history.items ++ Opened conn c.args.listener ∷ [] =
    c.enter.ensures.entered in
    let is : c.add_conn.new.self ≡ step c.self.inside.store (Opened conn c.args.listener) =
    grind (arith, common_steps) in
    let new : with_entry c.args.self.now.past (Opened conn c.args.listener) ≡ shown c.add_conn.new.self
    c.self.inside.opening.lists c.self.inside.since c.enter.new.history.items =
    shown-more c.args.self.now.past c.self.inside.store c.add_conn.new.self c.self.inside.opening.lists
    c.self.inside.since _ _ _
    past is history in
    c.connections_are_opened_once.ensures c.args.self.now.past.start conn c.args.listener
    c.args.self.now.past.history []
    (subst (λ (m : Past). Legal m.start m.history) (sym new) (invariant_of-self g c).0.legal)

pub returns-clause-live : goal.returns-clause-live
returns-clause-live g c =
    let past : shown c.self.inside.store c.self.inside.opening.lists c.self.inside.since c.self.inside.history.items
    ≡ c.args.self.now.past =
    ap (λ (m : Shown). m.past) c.self.view_is in
    let conn = c.count-count.result + 1 in
    let s : State = c.self.inside.store in
    let history : c.enter.new.history.items ≡ c.self.inside.history.items ++ Opened conn c.args.listener ∷ [] =
    c.enter.ensures.entered in
    let is : c.add_conn.new.self ≡ step s (Opened conn c.args.listener) = grind (arith, common_steps) in
    let count : conn ≡ length s.conns + 1 = grind (arith, common_steps) in
    let is_here : state_of c.args.self.now.past ≡ s =
    state-shown c.args.self.now.past s c.self.inside.opening.lists c.self.inside.since c.self.inside.history.items _ _ _
    past
    c.self.invariant.0 in
    let number : conn ≡ length (state_of c.args.self.now.past).conns + 1 =
    omega (arith, count, ap (λ (x : State). length x.conns) is_here) in
    let legal : Legal c.args.self.now.past.start c.args.self.now.past.history =
    subst (λ (m : Past). Legal m.start m.history) past c.self.invariant.0.legal in
    subst (λ (m : Past). OneMoreLive (state_of c.args.self.now.past) (state_of m) conn)
    (shown-more c.args.self.now.past s c.add_conn.new.self c.self.inside.opening.lists c.self.inside.since _ _ _ past is
    history)
    (one_more-push c.connections_are_numbered.ensures.state c.args.self.now.past.start c.args.self.now.past.history conn
    c.args.listener legal number)

pub returns-clause-calls : goal.returns-clause-calls
returns-clause-calls g c =
    let past : shown c.self.inside.store c.self.inside.opening.lists c.self.inside.since c.self.inside.history.items
    ≡ c.args.self.now.past =
    ap (λ (m : Shown). m.past) c.self.view_is in
    let conn = c.count-count.result + 1 in
    let s : State = c.self.inside.store in
    let history : c.enter.new.history.items ≡ c.self.inside.history.items ++ Opened conn c.args.listener ∷ [] =
    c.enter.ensures.entered in
    let is : c.add_conn.new.self ≡ step s (Opened conn c.args.listener) = grind (arith, common_steps) in
    subst (λ (m : Past). SameCalls c.args.self.now.past m)
    (shown-more c.args.self.now.past s c.add_conn.new.self c.self.inside.opening.lists c.self.inside.since _ _ _ past is
    history)
    (same_calls-opened c.args.self.now.past.start c.args.self.now.past.history conn c.args.listener)

pub returns-clause-legal : goal.returns-clause-legal
returns-clause-legal g c = (invariant_of-self g c).0.legal

pub enter-requires : goal.enter-requires
enter-requires g c =
    let s : State = c.self.inside.store in
    let start : Start = begins s c.self.inside.opening.lists c.self.inside.since in
    let below : length s.conns < start.config.limits.max_conns = grind (arith, common_steps) in
    let room : length c.self.inside.history.items < vec_capacity c.self.inside.history =
    room-to-open start c.self.inside.history.items s _ _ _ c.self.invariant.0 below in
    grind (arith, common_steps)

pub returns-then-count-config-clause-opens : goal.returns-then-count-config-clause-opens
returns-then-count-config-clause-opens g c =
    let past : shown c.self.inside.store c.self.inside.opening.lists c.self.inside.since c.self.inside.history.items
    ≡ c.args.self.now.past =
    ap (λ (m : Shown). m.past) c.self.view_is in
    let s : State = c.self.inside.store in
    let start : Start = begins s c.self.inside.opening.lists c.self.inside.since in
    let above : start.config.limits.max_conns ≤ length s.conns = grind (arith, common_steps) in
    let full : conns_full start c.self.inside.history.items ≡ Some (length s.conns) =
    no-conn start c.self.inside.history.items (length s.conns)
    (opened-kept start c.self.inside.history.items s _ _ _ c.self.invariant.0) above in
    let count : length s.conns ≡ c.count-count.result = grind (arith, common_steps) in
    let shows : conns_full c.args.self.now.past.start c.args.self.now.past.history ≡ Some c.count-count.result =
    subst (λ (m : Past). conns_full m.start m.history ≡ Some c.count-count.result) past
    (full ∙ ap (λ (n : ℕ). Some n) count) in
    (shows, search rules)

pub returns-clause-opens : goal.returns-clause-opens
returns-clause-opens g c =
    let past : shown c.self.inside.store c.self.inside.opening.lists c.self.inside.since c.self.inside.history.items
    ≡ c.args.self.now.past =
    ap (λ (m : Shown). m.past) c.self.view_is in
    let conn = c.count-count.result + 1 in
    let s : State = c.self.inside.store in
    let start : Start = begins s c.self.inside.opening.lists c.self.inside.since in
    let history : c.enter.new.history.items ≡ c.self.inside.history.items ++ Opened conn c.args.listener ∷ [] =
    c.enter.ensures.entered in
    let is : c.add_conn.new.self ≡ step s (Opened conn c.args.listener) = grind (arith, common_steps) in
    let below : length s.conns < start.config.limits.max_conns = grind (arith, common_steps) in
    let taken : conns_full start c.self.inside.history.items ≡ None =
    takes-conn start c.self.inside.history.items (length s.conns)
    (opened-kept start c.self.inside.history.items s _ _ _ c.self.invariant.0) below in
    let is_here : state_of c.args.self.now.past ≡ s =
    state-shown c.args.self.now.past s c.self.inside.opening.lists c.self.inside.since c.self.inside.history.items _ _ _
    past
    c.self.invariant.0 in
    let count : conn ≡ length s.conns + 1 = grind (arith, common_steps) in (
      subst (λ (m : Past). conns_full m.start m.history ≡ None) past taken,
      omega (arith, count, ap (λ (x : State). length x.conns) is_here),
      sym (shown-more c.args.self.now.past s c.add_conn.new.self c.self.inside.opening.lists c.self.inside.since _ _ _
          past is
          history),
    )

pub returns-clause-stored : goal.returns-clause-stored
returns-clause-stored g c =
    let kept = invariant_of-self g c in
    subst (λ (x : State). HoldsRows (g.K.Keeper.held c.self.inside.keeper) x.rows) (sym kept.0.state) kept.1.pairs
