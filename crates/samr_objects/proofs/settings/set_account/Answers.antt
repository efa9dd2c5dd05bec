-- What is set of an account is refused by the first condition of the field that fails, and planned where none does.
use Rattle.std.proofs.Common.{◌≡◌, ℕ, true, List, Option, Some, None, sym, ap, subst, ◌∙◌}
use Rattle.acct_calls.specs.declared.calls.Args.{Args}
use Rattle.acct_codes.specs.declared.kind.Kind.{Kind}
use Rattle.acct_tables.specs.Keys.{domain_of, rid_of}
use Rattle.acct_rows.specs.Rows.{Lists, account_at}
use Rattle.acct_tables.specs.declared.object.Object.{Object}
use Rattle.acct_tables.specs.declared.row.Row.{Row}
use Rattle.acct_rules.specs.Asked.{class_of}
use Rattle.acct_rules.specs.Planned.{first_failed, none_fails, decided, decision, refusal, puts}
use Rattle.acct_rules.specs.declared.planned.Planned.{Planned}
use Rattle.samr_objects.specs.Settings.{set_field, field_conditions, account_puts, set_account}
use Rattle.samr_objects.specs.declared.settings.Field.{Field}
use Rattle.samr_objects.proofs.Deciding.{refused, passed, passes, on_err}
use Rattle.samr_objects.proofs.settings.set_account.Goals as goal

-- ---- by the field that the class sets

abbrev planned : Lists → Object → Args → Option Field → Planned
planned r object asked set = puts (account_puts set asked (account_at r (domain_of object) (rid_of object)))

abbrev decided_by : Lists → Kind → Object → Args → Option Field → Planned
decided_by r k object asked set = decided (field_conditions r k object asked set) (planned r object asked set)

refused-by : (r : Lists) (k : Kind) (object : Object) (asked : Args) (set : Option Field) (status : ℕ)
    → set ≡ set_field k (class_of asked) → first_failed (field_conditions r k object asked set) ≡ Some status
    → refusal status ≡ decision (set_account k r object asked)
refused-by r k object asked set status of first =
    sym (refused (field_conditions r k object asked set) (planned r object asked set) status first)
    ∙ ap (decided_by r k object asked) of

passed-by : (r : Lists) (k : Kind) (object : Object) (asked : Args) (set : Option Field) (later : List Row)
    → set ≡ set_field k (class_of asked) → first_failed (field_conditions r k object asked set) ≡ None
    → later ≡ account_puts set asked (account_at r (domain_of object) (rid_of object))
    → puts later ≡ decision (set_account k r object asked)
passed-by r k object asked set later of none is =
    ap puts is ∙ sym (passed (field_conditions r k object asked set) (planned r object asked set) none)
    ∙ ap (decided_by r k object asked) of

passes-by : (r : Lists) (k : Kind) (object : Object) (asked : Args) (set : Option Field)
    → set ≡ set_field k (class_of asked) → first_failed (field_conditions r k object asked set) ≡ None
    → none_fails (set_account k r object asked).conditions ≡ true
passes-by r k object asked set of none =
    subst (λ s. none_fails (field_conditions r k object asked s) ≡ true) of
    (passes (field_conditions r k object asked set) none)

-- ---- the answers

pub returns-in-Some-refused_field-clause-decided : goal.returns-in-Some-refused_field-clause-decided
returns-in-Some-refused_field-clause-decided c =
    c.refusal-in-Some-refused_field.ensures
    ∙ refused-by c.args.rows.now.lists c.args.kind c.args.object.now c.args.args.now (Some c.in-Some.field)
    c.in-Some-refused_field.status
    (sym c.in-Some.is ∙ c.set_field.ensures ∙ ap (set_field c.args.kind) c.class_of.ensures)
    (sym c.refused_field.ensures ∙ c.in-Some-refused_field.is)

pub returns-in_err-account_puts-clause-frugal : goal.returns-in_err-account_puts-clause-frugal
returns-in_err-account_puts-clause-frugal c =
    on_err c.from_residual.result
    (passes-by c.args.rows.now.lists c.args.kind c.args.object.now c.args.args.now (Some c.in-Some.field)
    (sym c.in-Some.is ∙ c.set_field.ensures ∙ ap (set_field c.args.kind) c.class_of.ensures)
    (sym c.refused_field.ensures ∙ c.in_default-refused_field.is))

pub returns-clause-decided : goal.returns-clause-decided
returns-clause-decided c =
    let r = c.args.rows.now.lists in
    c.puts.ensures
    ∙ passed-by r c.args.kind c.args.object.now c.args.args.now (Some c.in-Some.field) c.in_ok-account_puts.field-0
    (sym c.in-Some.is ∙ c.set_field.ensures ∙ ap (set_field c.args.kind) c.class_of.ensures)
    (sym c.refused_field.ensures ∙ c.in_default-refused_field.is)
    (c.in_ok-account_puts.ensures
    ∙ ap (account_puts (Some c.in-Some.field) c.args.args.now)
    (c.find_rid-row.ensures ∙ ap (λ d. account_at r d c.rid.result) c.domain.ensures
    ∙ ap (account_at r (domain_of c.args.object.now)) c.rid.ensures))
