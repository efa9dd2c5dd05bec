-- There is room for the entry of a row that leaves: entered, it leaves the connections and their calls as they were.
use Rattle.std.proofs.Common.{refl, ◌≡◌, ℕ, ◌+◌, ◌≤◌, true, List, [], ◌∷◌, ◌++◌, Some, sym, ◌∙◌, ap, subst}
use Rattle.std.proofs.Common.{arith, length, rules}
use Rattle.std.specs.Vec.{vec_capacity}
use Rattle.std.proofs.lemmas.Grind.{common_steps}
use Rattle.acct_config.specs.declared.config.Config.{Config}
use Rattle.acct_keeper.specs.Faults.{one_more}
use Rattle.acct_machine.specs.declared.entry.Entry.{Entry}
use Rattle.acct_machine.specs.declared.entry.Entry.TheVariants.{Hooked}
use Rattle.acct_machine.specs.State.{State, Start}
use Rattle.acct_machine.specs.Step.{step}
use Rattle.acct_machine.specs.Legal.{most_entries}
use Rattle.acct_machine.specs.Outbox.{has_hook, least_in, HoldsRows, IsStored}
use Rattle.acct_machine.specs.Shown.{Past, Shown, begins, IsKept}
use Rattle.acct_machine.specs.Machine.{state_of, SameLive, SameCalls}
use Rattle.acct_machine.proofs.Kept.{shown, shown-more, opened-kept, begins-same}
use Rattle.acct_machine.proofs.Leaving.{left-kept, kept-wider, same_live-hooked, same_calls-hooked}
use Rattle.acct_machine.proofs.Storing.{stored-hooked, stored-missed}
use Rattle.acct_machine.proofs.machine.Machine.hooked.Goals as goal

pub hook_room-more-requires-clause-conns : goal.hook_room-more-requires-clause-conns
hook_room-more-requires-clause-conns g c =
    let s : State = c.self.inside.store in
    let start : Start = begins s c.self.inside.opening.lists c.self.inside.since in
    let history : List Entry = c.self.inside.history.items in
    let opened = opened-kept start history s _ _ _ c.self.invariant.0 in
    let within = (c.limits_are_kept.ensures start history c.self.invariant.0.legal).conns in
    subst (λ (x : Config). c.count.result ≤ x.limits.max_conns) (sym c.config.ensures.all)
    (omega (arith, opened, within, c.count.ensures))

pub enter-requires : goal.enter-requires
enter-requires g c =
    let s : State = c.self.inside.store in
    let start : Start = begins s c.self.inside.opening.lists c.self.inside.since in
    let history : List Entry = c.self.inside.history.items in
    let opened = opened-kept start history s _ _ _ c.self.invariant.0 in
    let within = c.limits_are_kept.ensures start history c.self.invariant.0.legal in
    let rooms : c.hook_room-more.result + c.self.inside.calls + length s.conns ≡ most_entries s.config.limits + 1 =
    subst (λ (x : Config). c.hook_room-more.result + c.self.inside.calls + length s.conns
    ≡ most_entries x.limits + 1) c.config.ensures.all (omega (arith, c.hook_room-more.ensures, c.count.ensures)) in
    let some : 1 ≤ c.hook_room-more.result =
    omega (arith, opened, within.conns, within.calls, c.self.invariant.0.calls_are, rooms) in
    let fits : length c.reserve.new.self.items + c.hook_room-more.result ≤ vec_capacity c.reserve.new.self =
    grind (arith, common_steps) in
    omega (arith, some, fits)

pub invariant_of-self-in-Ok : goal.invariant_of-self-in-Ok
invariant_of-self-in-Ok g c =
    let s : State = c.self.inside.store in
    let new : State = c.take_out.new.self in
    let start : Start = begins s c.self.inside.opening.lists c.self.inside.since in
    let history : List Entry = c.self.inside.history.items in
    let longer : c.enter.new.history.items ≡ history ++ Hooked c.args.number ∷ [] =
    c.enter.ensures.entered ∙ ap (λ (h : List Entry). h ++ Hooked c.args.number ∷ []) c.reserve.ensures.items in
    let is : new ≡ step s (Hooked c.args.number) = c.in-Ok.ensures.ok in
    let least : least_in s.rows.outs ≡ Some c.args.number = search rules in
    let rooms : c.hook_room-more.result + c.self.inside.calls + length s.conns ≡ most_entries s.config.limits + 1 =
    subst (λ (x : Config). c.hook_room-more.result + c.self.inside.calls + length s.conns
    ≡ most_entries x.limits + 1) c.config.ensures.all (omega (arith, c.hook_room-more.ensures, c.count.ensures)) in
    let here : length c.reserve.new.self.items + c.hook_room-more.result ≤ vec_capacity c.reserve.new.self =
    grind (arith, common_steps) in
    let same : length c.reserve.new.self.items ≡ length history =
    ap (λ (h : List Entry). length h) c.reserve.ensures.items in
    let fits : length history + c.hook_room-more.result ≤ vec_capacity c.enter.new.history =
    omega (arith, here, same, c.enter.ensures.room) in (
      left-kept s new c.self.inside.opening.lists c.self.inside.since history _ _ _ _ c.hook_room-more.result _
          c.args.number c.self.invariant.0 least is longer rooms fits,
      stored-hooked _ _ s.rows new.rows _ _ start (begins new c.self.inside.opening.lists c.self.inside.since) history _
          (Hooked c.args.number) c.self.invariant.1 refl
          (λ holds. subst (λ (x : State). HoldsRows (g.K.Keeper.held c.take_out.new.keeper) x.rows) (sym is)
          (c.in-Ok.ensures.commits.ok holds)) c.in-Ok.ensures.commits.count
          (begins-same s new c.self.inside.opening.lists c.self.inside.since (Hooked c.args.number) is) longer,
    )

pub invariant_of-self-in-Err-Failed : goal.invariant_of-self-in-Err-Failed
invariant_of-self-in-Err-Failed g c =
    let s : State = c.self.inside.store in
    let start : Start = begins s c.self.inside.opening.lists c.self.inside.since in
    let history : List Entry = c.self.inside.history.items in
    let left : List Entry = c.reserve.new.self.items in
    let before : ℕ = g.K.Keeper.faults c.self.inside.keeper in
    let now : ℕ = g.K.Keeper.faults c.take_out.new.keeper in
    let past : shown s c.self.inside.opening.lists c.self.inside.since history ≡ c.args.self.now.past =
    ap (λ (m : Shown). m.past) c.self.view_is in
    let told : has_hook s.config ≡ true =
    subst (λ (m : Past). has_hook m.start.config ≡ true) (sym past) c.requires in
    let count : now ≡ one_more before = search rules in
    subst (λ (x : State). IsKept (begins x c.self.inside.opening.lists c.self.inside.since) left x c.self.inside.calls
    c.self.inside.bytes (vec_capacity c.reserve.new.self)
    × IsStored (g.K.Keeper.held c.take_out.new.keeper) x.rows now
    (begins x c.self.inside.opening.lists c.self.inside.since) left) (sym {A = State} c.in-Err-Failed.ensures.err) (
      kept-wider start history left s c.self.inside.calls c.self.inside.bytes _ _ c.self.invariant.0
          c.reserve.ensures.items c.reserve.ensures.capacity,
      subst (λ (h : List Entry). IsStored (g.K.Keeper.held c.take_out.new.keeper) s.rows now start h)
          (sym c.reserve.ensures.items)
          (stored-missed (g.K.Keeper.held c.self.inside.keeper) (g.K.Keeper.held c.take_out.new.keeper) s.rows before
          now start history c.self.invariant.1 told c.in-Err-Failed.ensures.commits.err count
          c.take_out.ensures.commits.later),
    )

pub returns-in-Ok-clause-live : goal.returns-in-Ok-clause-live
returns-in-Ok-clause-live g c =
    let s : State = c.self.inside.store in
    let past : shown s c.self.inside.opening.lists c.self.inside.since c.self.inside.history.items
    ≡ c.args.self.now.past =
    ap (λ (m : Shown). m.past) c.self.view_is in
    let longer : c.enter.new.history.items ≡ c.self.inside.history.items ++ Hooked c.args.number ∷ [] =
    c.enter.ensures.entered ∙ ap (λ (h : List Entry). h ++ Hooked c.args.number ∷ []) c.reserve.ensures.items in
    subst (λ (m : Past). SameLive (state_of c.args.self.now.past) (state_of m))
    (shown-more c.args.self.now.past s c.take_out.new.self c.self.inside.opening.lists c.self.inside.since _ _ _ past
    c.in-Ok.ensures.ok longer)
    (same_live-hooked c.args.self.now.past.start c.args.self.now.past.history c.args.number)

pub returns-in-Ok-clause-calls : goal.returns-in-Ok-clause-calls
returns-in-Ok-clause-calls g c =
    let s : State = c.self.inside.store in
    let past : shown s c.self.inside.opening.lists c.self.inside.since c.self.inside.history.items
    ≡ c.args.self.now.past =
    ap (λ (m : Shown). m.past) c.self.view_is in
    let longer : c.enter.new.history.items ≡ c.self.inside.history.items ++ Hooked c.args.number ∷ [] =
    c.enter.ensures.entered ∙ ap (λ (h : List Entry). h ++ Hooked c.args.number ∷ []) c.reserve.ensures.items in
    subst (λ (m : Past). SameCalls c.args.self.now.past m)
    (shown-more c.args.self.now.past s c.take_out.new.self c.self.inside.opening.lists c.self.inside.since _ _ _ past
    c.in-Ok.ensures.ok longer)
    (same_calls-hooked c.args.self.now.past.start c.args.self.now.past.history c.args.number)

pub returns-in-Ok-clause-legal : goal.returns-in-Ok-clause-legal
returns-in-Ok-clause-legal g c = (invariant_of-self-in-Ok g c).0.legal

pub returns-in-Ok-clause-stored : goal.returns-in-Ok-clause-stored
returns-in-Ok-clause-stored g c =
    let kept = invariant_of-self-in-Ok g c in
    subst (λ (x : State). HoldsRows (g.K.Keeper.held c.take_out.new.keeper) x.rows) (sym kept.0.state) kept.1.pairs
