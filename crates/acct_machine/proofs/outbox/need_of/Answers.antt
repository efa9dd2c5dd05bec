-- A plan needs the row of the account that it changes, and memory for it only where it changes one.
use Rattle.std.proofs.Common.{rules, ◌≡◌, Result, Ok, Err, Option, Some, sym, subst, refl, IfOk, OnErr}
use Rattle.acct_tables.specs.declared.row.OutRow.{OutRow}
use Rattle.acct_machine.specs.declared.outbox.Need.{Need}
use Rattle.acct_machine.specs.Outbox.{out_row, needs_out, IsNeed}
use Rattle.acct_machine.proofs.Telling.{needs-change}
use Rattle.acct_machine.proofs.outbox.need_of.Goals as goal

pub returns-in-Some-clause-need : goal.returns-in-Some-clause-need
returns-in-Some-clause-need c =
    let is : Some (out_row c.next_out.result c.in-Some.action c.in-Some.account.now)
    ≡ needs_out c.args.config.now c.args.rows.now.lists c.args.plan.now = search rules in
    subst (λ (o : Option OutRow). IfOk c.need_row.result (λ (need : Need). IsNeed need o)) is c.need_row.ensures

on-err : {T E : Type 0} (r : Result T E) (A : Type 0) → A → OnErr r A
on-err (Ok x) A a = tt
on-err (Err e) A a = a

pub returns-in-Some-clause-frugal : goal.returns-in-Some-clause-frugal
returns-in-Some-clause-frugal c =
    let is : Some (out_row c.next_out.result c.in-Some.action c.in-Some.account.now)
    ≡ needs_out c.args.config.now c.args.rows.now.lists c.args.plan.now = search rules in
    on-err c.need_row.result _
    (needs-change c.args.config.now c.args.rows.now.lists c.args.plan.now _ (sym is) refl)
