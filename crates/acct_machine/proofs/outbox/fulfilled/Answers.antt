-- What is needed is done: nothing, a row more, or a refusal.
use Rattle.std.proofs.Common.{◌≡◌, true, Result, Ok, Err, Option, is_some, sym, ap, subst, ◌∙◌, IfOk, OnErr}
use Rattle.acct_codes.specs.Statuses.{status_insufficient_resources}
use Rattle.acct_tables.specs.declared.row.OutRow.{OutRow}
use Rattle.acct_rules.specs.Planned.{refusal}
use Rattle.acct_rules.specs.declared.planned.Planned.{Planned}
use Rattle.acct_machine.specs.declared.outbox.Need.{Need}
use Rattle.acct_machine.specs.declared.outbox.Need.TheVariants as needs
use Rattle.acct_machine.specs.Outbox.{IsNeed, with_out, told_planned}
use Rattle.acct_machine.proofs.Telling.{told-row, told-full}
use Rattle.acct_machine.proofs.outbox.fulfilled.Goals as goal

nothing : (planned : Planned) (o : Option OutRow) → IsNeed needs.Nothing o → planned ≡ told_planned o planned
nothing planned o is = sym (ap (λ (x : Option OutRow). told_planned x planned) is)

put : (planned : Planned) (row : OutRow) (o : Option OutRow) → IsNeed (needs.Row row) o
    → with_out row planned ≡ told_planned o planned
put planned row o is =
    told-row row planned is.1 ∙ sym (ap (λ (x : Option OutRow). told_planned x planned) is.0)

refused : (planned : Planned) (o : Option OutRow) → IsNeed needs.Refusal o
    → refusal status_insufficient_resources ≡ told_planned o planned
refused planned o is =
    told-full is.0 planned is.2 ∙ sym (ap (λ (x : Option OutRow). told_planned x planned) is.1)

pub returns-in-Nothing-clause-told : goal.returns-in-Nothing-clause-told
returns-in-Nothing-clause-told c = λ o is.
    nothing c.args.planned o (subst (λ (n : Need). IsNeed n o) c.in-Nothing.is is)

pub returns-in-Row-clause-told : goal.returns-in-Row-clause-told
returns-in-Row-clause-told c = λ o is.
    subst (λ (p : Planned). IfOk c.with_out.result (λ (told : Planned). told ≡ p))
    (put c.args.planned c.in-Row.row o (subst (λ (n : Need). IsNeed n o) c.in-Row.is is)) c.with_out.ensures

pub returns-in-Refusal-clause-told : goal.returns-in-Refusal-clause-told
returns-in-Refusal-clause-told c = λ o is.
    c.refusal.ensures ∙ refused c.args.planned o (subst (λ (n : Need). IsNeed n o) c.in-Refusal.is is)

on-err : {T E : Type 0} (r : Result T E) (A : Type 0) → A → OnErr r A
on-err (Ok x) A a = tt
on-err (Err e) A a = a

some : (row : OutRow) (o : Option OutRow) → IsNeed (needs.Row row) o → is_some o ≡ true
some row o is = ap (λ (x : Option OutRow). is_some x) is.0

pub returns-in-Row-clause-frugal : goal.returns-in-Row-clause-frugal
returns-in-Row-clause-frugal c = λ o is.
    on-err c.with_out.result _ (some c.in-Row.row o (subst (λ (n : Need). IsNeed n o) c.in-Row.is is))
