-- What was decided has what it needs.
use Rattle.std.proofs.Common.{Result, Ok, Err, refl, OnErr}
use Rattle.acct_machine.specs.Outbox.{needs_out}
use Rattle.acct_machine.proofs.Telling.{needs-change}
use Rattle.acct_machine.proofs.outbox.outboxed.Goals as goal

pub returns-in-Ok-clause-told : goal.returns-in-Ok-clause-told
returns-in-Ok-clause-told c =
    c.fulfilled.ensures.told (needs_out c.args.config.now c.args.rows.now.lists c.args.planned.plan)
    c.in-Ok.ensures.need

on-err : {T E : Type 0} (r : Result T E) (A B : Type 0) → (A → B) → OnErr r A → OnErr r B
on-err (Ok x) A B f h = tt
on-err (Err e) A B f h = f h

pub returns-in-Ok-clause-frugal : goal.returns-in-Ok-clause-frugal
returns-in-Ok-clause-frugal c =
    on-err c.fulfilled.result _ _
    (needs-change c.args.config.now c.args.rows.now.lists c.args.planned.plan _ refl)
    (c.fulfilled.ensures.frugal (needs_out c.args.config.now c.args.rows.now.lists c.args.planned.plan)
    c.in-Ok.ensures.need)
