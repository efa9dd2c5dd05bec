-- A call within the limits may be entered: the history stays legal, the reply is its verdict's, the rows are stored.
use Rattle.std.proofs.Common.{◌≡◌, ℕ, ◌+◌, ◌^◌, ◌<◌, ◌≤◌, List, []}
use Rattle.std.proofs.Common.{◌∷◌, ◌++◌, true, sym, ◌∙◌, ap, subst, arith, length}
use Rattle.std.specs.Vec.{vec_capacity}
use Rattle.std.proofs.lemmas.Grind.{common_steps}
use Rattle.acct_calls.specs.declared.calls.Call.{Call}
use Rattle.acct_calls.specs.declared.replies.Reply.{Reply}
use Rattle.acct_rows.specs.Rows.{Lists, HasRoom}
use Rattle.acct_machine.specs.declared.entry.Verdict.{Verdict}
use Rattle.acct_machine.specs.declared.entry.Verdict.TheVariants.{Ran}
use Rattle.acct_machine.specs.declared.entry.Entry.{Entry}
use Rattle.acct_machine.specs.declared.entry.Entry.TheVariants.{Called}
use Rattle.acct_machine.specs.State.{State, Start, is_live, last_serial}
use Rattle.acct_machine.proofs.Serials.{serial-at}
use Rattle.acct_machine.specs.Step.{acted, state_at}
use Rattle.acct_machine.specs.Access.{IsCall}
use Rattle.acct_machine.specs.Legal.{MayHave, Rises, May, TakesCall}
use Rattle.acct_machine.specs.Shapes.{IsAnswer}
use Rattle.acct_machine.specs.Shown.{Keeping, Past, Shown, IsKept, begins}
use Rattle.acct_machine.specs.Machine.{state_of, with_entry, SameLive, OneMoreCall}
use Rattle.acct_machine.specs.Sound.{IsSound}
use Rattle.acct_machine.specs.Outbox.{HoldsRows, Counts}
use Rattle.acct_machine.specs.Wants.{IsFrugal}
use Rattle.acct_machine.proofs.Kept.{may-called, shown, same_live-push, one_more_call, shown-more, kept-more}
use Rattle.acct_machine.proofs.Kept.{state-shown, takes-call, room-to-call, begins-same}
use Rattle.acct_machine.proofs.Storing.{rises-called, stored-called}
use Rattle.acct_machine.proofs.machine.Machine.act.Goals as goal

pub run-verdict-requires-clause-fits : goal.run-verdict-requires-clause-fits
run-verdict-requires-clause-fits g c =
    let start : Start = begins c.self.inside.store c.self.inside.opening.lists c.self.inside.since in
    let history : List Entry = c.self.inside.history.items in
    let serial : last_serial c.args.conn c.self.inside.store.conns ≤ length history =
    subst (λ (x : State). last_serial c.args.conn x.conns ≤ length history) c.self.invariant.0.state
    (serial-at start history c.args.conn) in
    omega (arith, serial)

pub run-verdict-requires-clause-spelled : goal.run-verdict-requires-clause-spelled
run-verdict-requires-clause-spelled g c = c.requires.spelled.1

pub run-verdict-requires-clause-sound : goal.run-verdict-requires-clause-sound
run-verdict-requires-clause-sound g c =
    let s : State = c.self.inside.store in
    let start : Start = begins s c.self.inside.opening.lists c.self.inside.since in
    subst (λ (x : State). IsSound s.config x) c.self.invariant.0.state
    (c.kept_states_are_sound.ensures start c.self.inside.history.items c.self.invariant.0.right
    c.self.invariant.0.rows c.self.invariant.0.legal)

pub run-verdict-requires-clause-right : goal.run-verdict-requires-clause-right
run-verdict-requires-clause-right g c = c.self.invariant.0.right

-- the call may come after the history
may-be-entered : (old : Past) (s : State) (rows : Lists) (since : ℕ) (history : List Entry)
    (calls stubs capacity conn bytes : ℕ)
    (call : Call) (verdict : Verdict)
    → shown s rows since history ≡ old → IsKept (begins s rows since) history s calls stubs capacity
    → is_live conn (state_of old).conns ≡ true → IsCall call
    → bytes < 2 ^ 32 → MayHave s conn call verdict → TakesCall (begins s rows since) history bytes
    → Rises (begins s rows since) history verdict
    → May (begins s rows since) history (Called conn call verdict bytes)
may-be-entered old s rows since history calls stubs most conn bytes call v view kept live spelled small may taken
    rises =
    let inside : is_live conn s.conns ≡ true =
    subst (λ (x : State). is_live conn x.conns ≡ true) (state-shown old s rows since history calls stubs most view
    kept) live in
    may-called (begins s rows since) history s conn call v bytes kept.state inside spelled small may taken rises

pub invariant_of-self : goal.invariant_of-self
invariant_of-self g c =
    let past : shown c.self.inside.store c.self.inside.opening.lists c.self.inside.since c.self.inside.history.items
    ≡ c.args.self.now.past =
    ap (λ (m : Shown). m.past) c.self.view_is in
    let verdict = c.run-verdict.result.0 in
    let s : State = c.self.inside.store in
    let new : State = c.run-verdict.new.self in
    let history : c.enter.new.history.items ≡ c.self.inside.history.items ++ Called c.args.conn c.args.call verdict
    c.args.bytes ∷ [] =
    c.enter.ensures.entered in
    let start : Start = begins s c.self.inside.opening.lists c.self.inside.since in
    let few : c.self.inside.calls < start.config.limits.max_calls = grind (arith, common_steps) in
    let short : c.self.inside.bytes + c.args.bytes ≤ start.config.limits.max_bytes = grind (arith, common_steps) in
    let taken : TakesCall start c.self.inside.history.items c.args.bytes =
    takes-call start c.self.inside.history.items s _ _ _ c.args.bytes c.self.invariant.0 few short in
    let may = may-be-entered c.args.self.now.past s c.self.inside.opening.lists c.self.inside.since
    c.self.inside.history.items _ _ _
    c.args.conn
    c.args.bytes c.args.call
    verdict past c.self.invariant.0 c.requires.live c.requires.spelled c.ranges.bytes.fits
    c.run-verdict.ensures.allowed.0 taken
    (rises-called _ _ start c.self.inside.history.items verdict c.self.invariant.1.counts
    c.run-verdict.ensures.counts) in
    let grows : vec_capacity c.self.inside.history ≤ vec_capacity c.enter.new.history = c.enter.ensures.room in (
      kept-more s new c.self.inside.opening.lists c.self.inside.since c.self.inside.history.items _ _ _ _ _ _ _ _
          c.self.invariant.0 may
          c.run-verdict.ensures.state history (omega arith) (omega arith) (omega (arith, grows)),
      stored-called _ _ s.rows new.rows _ _ start (begins new c.self.inside.opening.lists c.self.inside.since)
          c.self.inside.history.items _ c.args.conn c.args.call verdict c.args.bytes c.self.invariant.1
          c.run-verdict.ensures.stored c.run-verdict.ensures.later c.run-verdict.ensures.counts
          (begins-same s new c.self.inside.opening.lists c.self.inside.since
          (Called c.args.conn c.args.call verdict c.args.bytes) c.run-verdict.ensures.state) history,
    )

-- with room for more rows there is room for none
room-less : (lists : Lists) (more : ℕ) → HasRoom lists more → HasRoom lists 0
room-less lists more room = record {
  domains = omega (arith, room.domains);
  accounts = omega (arith, room.accounts);
  members = omega (arith, room.members);
  aliases = omega (arith, room.aliases);
  lsa = omega (arith, room.lsa);
  descriptors = omega (arith, room.descriptors);
  outs = omega (arith, room.outs);
}

pub returns-clause-shaped : goal.returns-clause-shaped
returns-clause-shaped g c =
    let past : shown c.self.inside.store c.self.inside.opening.lists c.self.inside.since c.self.inside.history.items
    ≡ c.args.self.now.past =
    ap (λ (m : Shown). m.past) c.self.view_is in
    let verdict = c.run-verdict.result.0 in
    let s : State = c.self.inside.store in
    let start : Start = begins s c.self.inside.opening.lists c.self.inside.since in
    let entries : List Entry = c.self.inside.history.items in
    let few : c.self.inside.calls < start.config.limits.max_calls = grind (arith, common_steps) in
    let little : c.self.inside.bytes + c.args.bytes ≤ start.config.limits.max_bytes = grind (arith, common_steps) in
    let taken : TakesCall start entries c.args.bytes =
    takes-call start entries s _ _ _ c.args.bytes c.self.invariant.0 few little in
    let may : May start entries (Called c.args.conn c.args.call verdict c.args.bytes) =
    may-be-entered c.args.self.now.past s c.self.inside.opening.lists c.self.inside.since entries _ _ _ c.args.conn
    c.args.bytes c.args.call
    verdict past c.self.invariant.0 c.requires.live c.requires.spelled c.ranges.bytes.fits
    c.run-verdict.ensures.allowed.0 taken
    (rises-called _ _ start entries verdict c.self.invariant.1.counts c.run-verdict.ensures.counts) in
    let here : HasRoom s.rows 0 =
    subst (λ (lists : Lists). HasRoom lists 0) c.rows.ensures
    (room-less c.rows.result.now.lists c.rows.result.now.spare c.has_few_rows.ensures) in
    let few : HasRoom (state_at start entries).rows 0 =
    subst (λ (x : State). HasRoom x.rows 0) (sym c.self.invariant.0.state) here in
    let short : length entries < 2 ^ 64 = omega arith in
    let answer : IsAnswer c.args.call (acted (state_at start entries) c.args.conn c.args.call verdict).1 =
    c.replies_are_shaped.ensures start entries c.args.conn c.args.call verdict c.args.bytes c.self.invariant.0.right
    c.self.invariant.0.rows c.self.invariant.0.legal may short few in
    let reply : (acted (state_at start entries) c.args.conn c.args.call verdict).1 ≡ c.run-verdict.result.1 =
    ap (λ (x : State). (acted x c.args.conn c.args.call verdict).1) c.self.invariant.0.state ∙ sym
    c.run-verdict.ensures.reply in
    subst (λ (r : Reply). IsAnswer c.args.call r) reply answer

pub returns-clause-acts : goal.returns-clause-acts
returns-clause-acts g c =
    let past : shown c.self.inside.store c.self.inside.opening.lists c.self.inside.since c.self.inside.history.items
    ≡ c.args.self.now.past =
    ap (λ (m : Shown). m.past) c.self.view_is in
    let verdict = c.run-verdict.result.0 in
    let s : State = c.self.inside.store in
    let history : c.enter.new.history.items ≡ c.self.inside.history.items ++ Called c.args.conn c.args.call verdict
    c.args.bytes ∷ [] =
    c.enter.ensures.entered in
    let is_here : state_of c.args.self.now.past ≡ s =
    state-shown c.args.self.now.past s c.self.inside.opening.lists c.self.inside.since c.self.inside.history.items _ _ _
    past
    c.self.invariant.0 in
    let start : Start = begins s c.self.inside.opening.lists c.self.inside.since in
    let few : c.self.inside.calls < start.config.limits.max_calls = grind (arith, common_steps) in
    let short : c.self.inside.bytes + c.args.bytes ≤ start.config.limits.max_bytes = grind (arith, common_steps) in
    let taken : TakesCall start c.self.inside.history.items c.args.bytes =
    takes-call start c.self.inside.history.items s _ _ _ c.args.bytes c.self.invariant.0 few short in
    record {
      taken = subst (λ (m : Past). TakesCall m.start m.history c.args.bytes) past taken;
      verdict = verdict;
      entered = sym (shown-more c.args.self.now.past s c.run-verdict.new.self c.self.inside.opening.lists
          c.self.inside.since _ _ _
          past c.run-verdict.ensures.state history);
      reply = c.run-verdict.ensures.reply ∙ ap (λ (x : State). (acted x c.args.conn c.args.call verdict).1)
          (sym is_here);
    }

pub returns-clause-frugal : goal.returns-clause-frugal
returns-clause-frugal g c =
    let verdict = c.run-verdict.result.0 in
    let s : State = c.self.inside.store in
    let past : shown s c.self.inside.opening.lists c.self.inside.since c.self.inside.history.items
    ≡ c.args.self.now.past =
    ap (λ (m : Shown). m.past) c.self.view_is in
    let history : c.enter.new.history.items ≡ c.self.inside.history.items ++ Called c.args.conn c.args.call verdict
    c.args.bytes ∷ [] =
    c.enter.ensures.entered in
    let is_here : state_of c.args.self.now.past ≡ s =
    state-shown c.args.self.now.past s c.self.inside.opening.lists c.self.inside.since c.self.inside.history.items _ _ _
    past
    c.self.invariant.0 in
    record {
      verdict = verdict;
      entered = sym (shown-more c.args.self.now.past s c.run-verdict.new.self c.self.inside.opening.lists
          c.self.inside.since _ _ _ past
          c.run-verdict.ensures.state history);
      frugal = subst (λ (x : State). IsFrugal x c.args.conn c.args.call verdict) (sym is_here)
          c.run-verdict.ensures.allowed.1;
    }

pub returns-clause-keeper : goal.returns-clause-keeper
returns-clause-keeper g c =
    let verdict = c.run-verdict.result.0 in
    let s : State = c.self.inside.store in
    let later : ℕ = g.K.Keeper.faults c.run-verdict.new.keeper in
    let past : shown s c.self.inside.opening.lists c.self.inside.since c.self.inside.history.items ≡
    c.args.self.now.past =
    ap (λ (m : Shown). m.past) c.self.view_is in
    let history : c.enter.new.history.items ≡ c.self.inside.history.items ++ Called c.args.conn c.args.call verdict
    c.args.bytes ∷ [] =
    c.enter.ensures.entered in
    let is_here : state_of c.args.self.now.past ≡ s =
    state-shown c.args.self.now.past s c.self.inside.opening.lists c.self.inside.since c.self.inside.history.items _ _ _
    past
    c.self.invariant.0 in
    record {
      verdict = verdict;
      entered = sym (shown-more c.args.self.now.past s c.run-verdict.new.self c.self.inside.opening.lists
          c.self.inside.since _ _ _ past
          c.run-verdict.ensures.state history);
      later = subst (λ (m : Shown). m.keeper.faults ≤ later) c.self.view_is c.run-verdict.ensures.later;
      counts = subst (λ (m : Shown). Counts m.keeper.faults later verdict) c.self.view_is c.run-verdict.ensures.counts;
      quiet = λ same. ap (λ k. let y : Keeping = record { held = g.K.Keeper.held k; faults = g.K.Keeper.faults k } in y)
          (c.run-verdict.ensures.quiet
          (subst (λ (x : State). (acted x c.args.conn c.args.call Ran).0.rows ≡ x.rows) is_here same))
          ∙ ap (λ (m : Shown). m.keeper) c.self.view_is;
    }

pub returns-clause-live : goal.returns-clause-live
returns-clause-live g c =
    let past : shown c.self.inside.store c.self.inside.opening.lists c.self.inside.since c.self.inside.history.items
    ≡ c.args.self.now.past =
    ap (λ (m : Shown). m.past) c.self.view_is in
    let verdict = c.run-verdict.result.0 in
    let history : c.enter.new.history.items ≡ c.self.inside.history.items ++ Called c.args.conn c.args.call verdict
    c.args.bytes ∷ [] =
    c.enter.ensures.entered in
    subst (λ (m : Past). SameLive (state_of c.args.self.now.past) (state_of m))
    (shown-more c.args.self.now.past c.self.inside.store c.run-verdict.new.self c.self.inside.opening.lists
    c.self.inside.since _ _ _
    past c.run-verdict.ensures.state history)
    (same_live-push c.args.self.now.past.start c.args.self.now.past.history c.args.conn c.args.call verdict
    c.args.bytes)

pub returns-clause-calls : goal.returns-clause-calls
returns-clause-calls g c =
    let past : shown c.self.inside.store c.self.inside.opening.lists c.self.inside.since c.self.inside.history.items
    ≡ c.args.self.now.past =
    ap (λ (m : Shown). m.past) c.self.view_is in
    let verdict = c.run-verdict.result.0 in
    let s : State = c.self.inside.store in
    let history : c.enter.new.history.items ≡ c.self.inside.history.items ++ Called c.args.conn c.args.call verdict
    c.args.bytes ∷ [] =
    c.enter.ensures.entered in
    let is_here : state_of c.args.self.now.past ≡ s =
    state-shown c.args.self.now.past s c.self.inside.opening.lists c.self.inside.since c.self.inside.history.items _ _ _
    past
    c.self.invariant.0 in
    let reply : (acted (state_of c.args.self.now.past) c.args.conn c.args.call verdict).1 ≡ c.run-verdict.result.1 =
    ap (λ (x : State). (acted x c.args.conn c.args.call verdict).1) is_here ∙ sym c.run-verdict.ensures.reply in
    subst (λ (m : Past). OneMoreCall c.args.self.now.past m c.args.conn c.args.call c.args.bytes c.run-verdict.result.1)
    (shown-more c.args.self.now.past s c.run-verdict.new.self c.self.inside.opening.lists c.self.inside.since _ _ _ past
    c.run-verdict.ensures.state history)
    (subst (λ (r : Reply). OneMoreCall c.args.self.now.past
    (with_entry c.args.self.now.past (Called c.args.conn c.args.call verdict c.args.bytes)) c.args.conn c.args.call
    c.args.bytes r) reply
    (one_more_call c.args.self.now.past.start c.args.self.now.past.history c.args.conn c.args.call verdict
    c.args.bytes))

pub returns-clause-legal : goal.returns-clause-legal
returns-clause-legal g c = (invariant_of-self g c).0.legal

pub enter-requires : goal.enter-requires
enter-requires g c =
    let s : State = c.self.inside.store in
    let start : Start = begins s c.self.inside.opening.lists c.self.inside.since in
    let few : c.self.inside.calls < start.config.limits.max_calls = grind (arith, common_steps) in
    let room : length c.self.inside.history.items < vec_capacity c.self.inside.history =
    room-to-call start c.self.inside.history.items s _ _ _ c.self.invariant.0 few in
    grind (arith, common_steps)

pub returns-clause-stored : goal.returns-clause-stored
returns-clause-stored g c =
    let kept = invariant_of-self g c in
    subst (λ (x : State). HoldsRows (g.K.Keeper.held c.run-verdict.new.keeper) x.rows) (sym kept.0.state) kept.1.pairs
