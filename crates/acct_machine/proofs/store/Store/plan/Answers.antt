-- What is planned is what the operation decides, with the row of the outbox; and memory runs out only where it may.
use Rattle.std.proofs.Common.{rules, ◌≡◌, Result, Ok, Err, Some, ap, subst, OnErr, IfOk}
use Rattle.acct_rows.specs.Rows.{Lists}
use Rattle.acct_rules.specs.declared.planned.Planned.{Planned}
use Rattle.acct_rules.specs.Profiles.{Operation}
use Rattle.acct_rules.specs.Planned.{decision}
use Rattle.acct_operations.specs.Frugal.{MayWantToDecide}
use Rattle.acct_operations.specs.Table.{operation}
use Rattle.acct_machine.specs.State.{State}
use Rattle.acct_machine.specs.Access.{described, described_in}
use Rattle.acct_machine.specs.Outbox.{needs_out, told_planned}
use Rattle.acct_machine.specs.Step.{decided_of}
use Rattle.acct_machine.proofs.Describing.{limits-of}
use Rattle.acct_machine.proofs.Ruling.{planned-told, wants-deciding, wants-changing}
use Rattle.acct_machine.proofs.store.Store.plan.Goals as goal

pub decide-requires : goal.decide-requires
decide-requires c =
    let rows : c.self.inside.rows.lists ≡ c.args.self.now.rows = ap (λ (s : State). s.rows) c.self.view_is in
    limits-of c.config-config.result.now c.args.self.now.rows c.args.object c.described-descriptor.result.now
    c.config-config.ensures.right c.requires.sound
    (subst (λ (r : Lists). Some c.described-descriptor.result.now
    ≡ described_in c.config-config.result.now r c.args.object) rows c.described-descriptor.ensures)

pub returns-in-Ok-clause-planned : goal.returns-in-Ok-clause-planned
returns-in-Ok-clause-planned c =
    let o : Operation = operation c.args.work in
    let s : State = c.args.self.now in
    let rows : c.self.inside.rows.lists ≡ s.rows = ap (λ (x : State). x.rows) c.self.view_is in
    let is : decision (decided_of o s c.args.object c.args.call.now) ≡ c.in-Ok.decided = search rules in
    let told : IfOk c.outboxed.result (λ (q : Planned). q
    ≡ told_planned (needs_out c.config-config.result.now s.rows c.in-Ok.decided.plan) c.in-Ok.decided) =
    subst (λ (r : Lists). IfOk c.outboxed.result (λ (q : Planned). q
    ≡ told_planned (needs_out c.config-config.result.now r c.in-Ok.decided.plan) c.in-Ok.decided)) rows
    c.outboxed.ensures.told in
    subst (λ (p : Planned). IfOk c.outboxed.result (λ (q : Planned). q ≡ p))
    (planned-told o s c.args.conn c.args.call.now c.config-config.result.now c.args.object c.in-Ok.decided
    c.config-config.ensures.all c.requires.object is) told

on-err : {T E : Type 0} (r : Result T E) (A B : Type 0) → (A → B) → OnErr r A → OnErr r B
on-err (Ok x) A B f h = tt
on-err (Err e) A B f h = f h

pub returns-in-Ok-clause-frugal : goal.returns-in-Ok-clause-frugal
returns-in-Ok-clause-frugal c =
    let s : State = c.args.self.now in
    let is : decision (decided_of (operation c.args.work) s c.args.object c.args.call.now) ≡ c.in-Ok.decided =
    search rules in
    on-err c.outboxed.result _ _
    (wants-changing c.operations_are_frugal.ensures c.args.work s c.args.conn c.args.call.now c.args.object
    c.in-Ok.decided c.requires.object is) c.outboxed.ensures.frugal

-- memory ran out while the operation was decided
pub returns-in-Err-clause-frugal : goal.returns-in-Err-clause-frugal
returns-in-Err-clause-frugal c =
    let s : State = c.args.self.now in
    let wants : MayWantToDecide c.args.work s.rows (described s c.args.object) c.args.object c.args.call.now.args =
    search rules in
    wants-deciding c.args.work s c.args.conn c.args.call.now c.args.object c.requires.object wants
