-- The lines so far are those of the calls so far, and each call has an id of one more than the call before it.
use Rattle.std.proofs.Common.{◌+◌, ◌++◌, ℕ, sym, ap, ◌∙◌, arith}
use Rattle.std.proofs.lemmas.List.{append-nil}
use Rattle.acct_calls.specs.declared.calls.Call.{Call}
use Rattle.acct_commands.specs.Generated.{call_line, call_lines}
use Rattle.acct_commands.proofs.Lines.{line-on}
use Rattle.acct_commands.proofs.events.push_calls.Goals as goal

pub loop-call-init : goal.loop-call-init
unfolding call_lines
loop-call-init c = (sym (append-nil c.args.lines.now.items), omega arith, λ taken. taken)

pub loop-call-preserved : goal.loop-call-preserved
loop-call-preserved c =
    let i = c.loop-call.call-index in
    let before = c.args.lines.now.items in
    let lines = c.loop-call.lines.items in
    let id = c.args.id in
    let item = c.call-item.result in (
      c.in_ok-push_call.ensures.lines
          ∙ ap (λ (n : ℕ). lines ++ call_line n item) c.loop-call.invariant.1
          ∙ ap (λ (x : Call). lines ++ call_line (id + i) x) c.call-item.is
          ∙ line-on before lines id c.args.calls.now i item (omega arith) c.loop-call.invariant.0,
      omega arith,
      λ taken. c.in_ok-push_call.ensures.taken (c.loop-call.invariant.2 taken),
    )
