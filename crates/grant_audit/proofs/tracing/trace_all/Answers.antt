-- One event more is traced and followed, and those after it may be.
use Rattle.std.proofs.Common.{◌≡◌, ℕ, ◌+◌, List, ◌∷◌, length, take, drop, Some, slice_get, sym, subst, arith}
use Rattle.std.specs.Prelude.{nat_eq}
use Rattle.std.specs.HashMap.{get}
use Rattle.acct_machine.specs.declared.entry.Entry.{Entry}
use Rattle.acct_machine.specs.Shown.{Past}
use Rattle.grant_audit.specs.Following.{Openings, TracesEvent, MayWalk, Walks}
use Rattle.grant_audit.proofs.Audited.{walks-push, event-here, left-at, taken-at, many-at}
use Rattle.grant_audit.proofs.tracing.trace_all.Goals as goal

pub loop-i-preserved : goal.loop-i-preserved
loop-i-preserved c =
    let i : ℕ = c.loop-i.i in
    let history : List Entry = c.args.history.now in
    let x : Entry = c.index-history-i.result in
    let old : Past = c.args.machine.now.past in
    let was : Past = c.loop-i.machine.past in
    let now : Past = c.trace_entry.new.machine.past in
    let old_at : Openings = get nat_eq c.args.openings.now in
    let was_at : Openings = get nat_eq c.loop-i.openings in
    let now_at : Openings = get nat_eq c.trace_entry.new.openings in
    let here : slice_get history i ≡ Some x = event-here i history x x c.loop-i-test.true c.index-history-i.is in
    let many : length (take i history) ≡ i = many-at history i x here in
    let number : i + 1 ≡ 1 + length (take i history) = omega (arith, many) in
    let traced : TracesEvent was was_at (i + 1) x c.loop-i.traces.items now now_at c.trace_entry.new.traces.items =
    c.in_ok-trace_entry.ensures in
    let may : MayWalk was (x ∷ drop (i + 1) history) =
    subst (λ (es : List Entry). MayWalk was es) (left-at history i x here) c.loop-i.invariant.may in
    record {
      walks = subst (λ (es : List Entry). Walks old old_at 1 es c.args.traces.now.items now now_at
          c.trace_entry.new.traces.items) (sym (taken-at history i x here))
          (walks-push old old_at 1 (take i history) x c.args.traces.now.items was now was_at now_at
          c.loop-i.traces.items c.trace_entry.new.traces.items c.loop-i.invariant.walks
          (subst (λ (n : ℕ). TracesEvent was was_at n x c.loop-i.traces.items now now_at
          c.trace_entry.new.traces.items) number traced));
      may = subst (λ (p : Past). MayWalk p (drop (i + 1) history)) (sym traced.past) may.1;
    }
