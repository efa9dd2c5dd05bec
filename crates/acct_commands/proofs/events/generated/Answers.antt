-- The lines so far are those of the opening and of the users so far; with those of the closing they are all events.
use Rattle.std.proofs.Common.{◌≡◌, ◌+◌, List, All, length, sym, ap, ◌∙◌, subst, arith}
use Rattle.acct_calls.specs.declared.calls.Call.{Call}
use Rattle.acct_layouts.specs.CallShapes.{CanBeSpelled}
use Rattle.acct_commands.specs.Generated.{opening_calls, user_calls, closing_calls}
use Rattle.acct_commands.proofs.Fitting.{opening-fits, user-fits, closings-fit}
use Rattle.acct_commands.proofs.Taking.{accepted}
use Rattle.acct_commands.proofs.Lines.{started, went-on, ended, count-started, count-went-on}
use Rattle.acct_commands.proofs.events.generated.Goals as goal

-- calls that are others that can be encoded
fit-as : (calls others : List Call) → calls ≡ others → All CanBeSpelled others → All CanBeSpelled calls
fit-as calls others is fits = subst (λ (cs : List Call). All CanBeSpelled cs) (sym is) fits

pub push_calls-requires-clause-fit : goal.push_calls-requires-clause-fit
push_calls-requires-clause-fit c =
    fit-as c.deref.result.now opening_calls (c.deref.ensures.value ∙ c.in_ok-opening_calls.ensures.value) opening-fits

pub loop-before-init : goal.loop-before-init
loop-before-init c =
    let is = c.deref.ensures.value ∙ c.in_ok-opening_calls.ensures.value in (
      started c.in_ok-lines.lines.items c.push_calls.new.lines.items c.deref.result.now c.in_ok-lines.ensures.lines is
          c.in_ok-id.ensures.lines,
      count-started c.in_ok-id.id c.deref.result.now is c.in_ok-id.ensures.next,
      omega (arith, c.in_ok-id.ensures.next, ap length c.deref.ensures.value, c.in_ok-opening_calls.ensures.few),
      c.in_ok-id.ensures.taken c.in_ok-lines.ensures.taken,
    )

pub push_calls-requires-in-loop-before-clause-fit : goal.push_calls-requires-in-loop-before-clause-fit
push_calls-requires-in-loop-before-clause-fit c =
    let k = c.loop-before.before in
    fit-as c.deref-in-loop-before.result.now (user_calls (k + 1))
    (c.deref-in-loop-before.ensures.value ∙ c.in_ok-user_calls.ensures.value)
    (user-fits (k + 1) (omega arith) c.in_ok-user_calls.ensures.text)

pub loop-before-preserved : goal.loop-before-preserved
loop-before-preserved c =
    let k = c.loop-before.before in
    let is = c.deref-in-loop-before.ensures.value ∙ c.in_ok-user_calls.ensures.value in
    let here = c.loop-before.invariant.1 in (
      went-on c.loop-before.lines.items c.push_calls-in-loop-before.new.lines.items k c.loop-before.id
          c.deref-in-loop-before.result.now c.loop-before.invariant.0 here is c.in_ok-id-2.ensures.lines,
      count-went-on c.loop-before.id c.in_ok-id-2.id k c.deref-in-loop-before.result.now here is
          c.in_ok-id-2.ensures.next,
      omega (
        arith,
        c.in_ok-id-2.ensures.next,
        ap length c.deref-in-loop-before.ensures.value,
        c.in_ok-user_calls.ensures.few,
      ),
      c.in_ok-id-2.ensures.taken c.loop-before.invariant.3,
    )

pub push_calls-requires-2-clause-fit : goal.push_calls-requires-2-clause-fit
push_calls-requires-2-clause-fit c =
    fit-as c.deref-2.result.now (closing_calls c.args.users)
    (c.deref-2.ensures.value ∙ c.in_ok-closing_calls.ensures.value) (closings-fit c.args.users c.requires)

pub returns-clause-lines : goal.returns-clause-lines
returns-clause-lines c =
    ended c.loop-before.lines.items c.push_calls-2.new.lines.items c.loop-before.before c.args.users c.loop-before.id
    c.deref-2.result.now (omega arith) c.loop-before.invariant.0 c.loop-before.invariant.1
    (c.deref-2.ensures.value ∙ c.in_ok-closing_calls.ensures.value) c.in_ok-push_calls.ensures.lines

pub returns-clause-accepted : goal.returns-clause-accepted
returns-clause-accepted c =
    accepted c.push_calls-2.new.lines.items (c.in_ok-push_calls.ensures.taken c.loop-before.invariant.3)
