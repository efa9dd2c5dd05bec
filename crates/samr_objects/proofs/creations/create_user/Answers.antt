-- A new user is refused by the first condition that fails, and planned where none does.
use Rattle.std.proofs.Common.{◌≡◌, ℕ, ◌==◌, false, true, not, List, [], ◌∷◌, ◌++◌, Option, Some, None, sym, ap, ◌∙◌}
use Rattle.acct_calls.specs.declared.calls.Args.{Args}
use Rattle.acct_codes.specs.Accounts.{domain_group_rid_users}
use Rattle.acct_codes.specs.Statuses.{status_not_supported, status_invalid_parameter}
use Rattle.acct_codes.specs.declared.kind.Kind.TheVariants as kind
use Rattle.acct_tables.specs.Keys.{domain_of}
use Rattle.acct_rows.specs.Rows.{Lists}
use Rattle.acct_tables.specs.Keys.{builtin_domain}
use Rattle.acct_tables.specs.Good.{is_user_type}
use Rattle.acct_tables.specs.declared.object.Object.{Object}
use Rattle.acct_tables.specs.declared.object.Object.TheVariants.{User}
use Rattle.acct_tables.specs.declared.row.AccountRow.{AccountRow}
use Rattle.acct_tables.specs.declared.row.Row.{Row}
use Rattle.acct_tables.specs.declared.row.Row.TheVariants as rows
use Rattle.acct_rules.specs.Asked.{made_type, desired_access}
use Rattle.acct_rules.specs.Planned.{first_failed, creates}
use Rattle.acct_rules.specs.declared.planned.Planned.{Planned}
use Rattle.samr_objects.specs.Accounts.{new_conditions, new_account, new_rows, new_control, new_member, create_user}
use Rattle.samr_objects.proofs.Deciding.{behind, refused, passed, passes, on_err}
use Rattle.samr_objects.proofs.creations.create_user.Goals as goal

-- in a domain of users, for a type of them, the conditions of a new account are left
first-by : (r : Lists) (domain : Object) (asked : Args) (number bits : ℕ) (first : Option ℕ)
    → number ≡ domain_of domain → bits ≡ made_type asked
    → (number == builtin_domain) ≡ false → is_user_type bits ≡ true
    → first_failed (new_conditions r kind.User number asked) ≡ first
    → first_failed (create_user r domain asked).conditions ≡ first
first-by r domain asked number bits first of type elsewhere typed is =
    behind (domain_of domain == builtin_domain) status_not_supported _ first
    (ap (λ n. n == builtin_domain) (sym of) ∙ elsewhere)
    (behind (not (is_user_type (made_type asked))) status_invalid_parameter _ first
    (ap (λ b. not (is_user_type b)) (sym type) ∙ ap not typed)
    (ap (λ n. first_failed (new_conditions r kind.User n asked)) (sym of) ∙ is))

-- what is planned, by the account that is made
planned-by : (r : Lists) (domain : Object) (asked : Args) (number bits desired control : ℕ) (account : AccountRow)
    (later : List Row)
    → number ≡ domain_of domain → bits ≡ made_type asked → desired ≡ desired_access asked
    → control ≡ new_control bits → account ≡ new_account r kind.User number asked
    → later
    ≡ new_rows r (record account { bits = control; primary = domain_group_rid_users })
    ++ rows.Member (new_member account.rid) ∷ []
    → creates (User account.rid) desired account.rid later ≡ (create_user r domain asked).planned
planned-by r domain asked number bits desired control account later of type access controls made is =
    let plan : AccountRow → ℕ → ℕ → Planned = λ a d b. creates (User a.rid) d a.rid
    (new_rows r (record a { bits = b; primary = domain_group_rid_users }) ++ rows.Member (new_member a.rid) ∷ []) in
    ap (λ l. creates (User account.rid) desired account.rid l) is
    ∙ ap (λ a. plan a desired control) (made ∙ ap (λ n. new_account r kind.User n asked) of)
    ∙ ap (λ d. plan (new_account r kind.User (domain_of domain) asked) d control) access
    ∙ ap (λ b. plan (new_account r kind.User (domain_of domain) asked) (desired_access asked) b)
    (controls ∙ ap new_control type)

pub returns-in-Some-clause-decided : goal.returns-in-Some-clause-decided
returns-in-Some-clause-decided c =
    let r = c.args.rows.now.lists in
    let ruled = create_user r c.args.domain c.args.args.now in
    c.refusal-in-Some.ensures
    ∙ sym (refused ruled.conditions ruled.planned c.in-Some.status
    (first-by r c.args.domain c.args.args.now c.domain-number.result c.made_type-bits.result (Some c.in-Some.status)
    c.domain-number.ensures c.made_type-bits.ensures
    (sym c.has_aliases_alone.ensures ∙ c.if-has_aliases_alone.false)
    (sym c.is_user_type.ensures ∙ c.if-not-is_user_type.false)
    (sym c.refused_account.ensures ∙ c.in-Some.is)))

pub returns-in_err-new_account-clause-frugal : goal.returns-in_err-new_account-clause-frugal
returns-in_err-new_account-clause-frugal c =
    let r = c.args.rows.now.lists in
    on_err c.from_residual.result
    (passes (create_user r c.args.domain c.args.args.now).conditions
    (first-by r c.args.domain c.args.args.now c.domain-number.result c.made_type-bits.result None
    c.domain-number.ensures c.made_type-bits.ensures
    (sym c.has_aliases_alone.ensures ∙ c.if-has_aliases_alone.false)
    (sym c.is_user_type.ensures ∙ c.if-not-is_user_type.false)
    (sym c.refused_account.ensures ∙ c.in_default.is)))

pub returns-in_err-puts-clause-frugal : goal.returns-in_err-puts-clause-frugal
returns-in_err-puts-clause-frugal c =
    let r = c.args.rows.now.lists in
    on_err c.from_residual-in_err-puts.result
    (passes (create_user r c.args.domain c.args.args.now).conditions
    (first-by r c.args.domain c.args.args.now c.domain-number.result c.made_type-bits.result None
    c.domain-number.ensures c.made_type-bits.ensures
    (sym c.has_aliases_alone.ensures ∙ c.if-has_aliases_alone.false)
    (sym c.is_user_type.ensures ∙ c.if-not-is_user_type.false)
    (sym c.refused_account.ensures ∙ c.in_default.is)))

pub returns-clause-decided : goal.returns-clause-decided
returns-clause-decided c =
    let r = c.args.rows.now.lists in
    let ruled = create_user r c.args.domain c.args.args.now in
    c.creates.ensures
    ∙ planned-by r c.args.domain c.args.args.now c.domain-number.result c.made_type-bits.result c.desired_access.result
    c.new_control.result c.in_ok-new_account.field-0 c.in_ok-puts.puts
    c.domain-number.ensures c.made_type-bits.ensures c.desired_access.ensures c.new_control.ensures
    c.in_ok-new_account.ensures c.in_ok-puts.ensures
    ∙ sym (passed ruled.conditions ruled.planned
    (first-by r c.args.domain c.args.args.now c.domain-number.result c.made_type-bits.result None
    c.domain-number.ensures c.made_type-bits.ensures
    (sym c.has_aliases_alone.ensures ∙ c.if-has_aliases_alone.false)
    (sym c.is_user_type.ensures ∙ c.if-not-is_user_type.false)
    (sym c.refused_account.ensures ∙ c.in_default.is)))
