-- What was set is what a query shows.
use Rattle.std.proofs.Common.{◌≡◌, ℕ, ◌==◌, Bool, true, false, not, cond, List, Option, Some, None, is_some, refl, sym}
use Rattle.std.proofs.Common.{ap, subst, arith}
use Rattle.std.specs.Option.{option_map}
use Rattle.std.proofs.lemmas.Bool.Decides.{nat_tests}
use Rattle.acct_calls.specs.declared.calls.Args.{Args}
use Rattle.acct_calls.specs.declared.calls.Args.TheVariants as args
use Rattle.acct_calls.specs.declared.calls.Face.TheVariants.{Samr}
use Rattle.acct_calls.specs.declared.info.Info.{Info}
use Rattle.acct_calls.specs.declared.info.Info.TheVariants as info
use Rattle.acct_calls.specs.declared.replies.Outs.TheVariants as outs
use Rattle.acct_codes.specs.InfoClasses.{domain_oem_information, group_name_information, group_attribute_information}
use Rattle.acct_codes.specs.InfoClasses.{group_admin_comment_information, alias_name_information}
use Rattle.acct_codes.specs.InfoClasses.{alias_admin_comment_information, user_account_name_information}
use Rattle.acct_codes.specs.InfoClasses.{user_full_name_information, user_primary_group_information}
use Rattle.acct_codes.specs.InfoClasses.{user_admin_comment_information, user_control_information}
use Rattle.acct_codes.specs.Opnums.{samr_set_information_domain, samr_set_information_group}
use Rattle.acct_codes.specs.Opnums.{samr_set_information_alias, samr_set_information_user, samr_set_information_user2}
use Rattle.acct_codes.specs.Statuses.{status_success}
use Rattle.acct_codes.specs.declared.kind.Kind.{Kind}
use Rattle.acct_codes.specs.declared.kind.Kind.TheVariants as kind
use Rattle.acct_layouts.specs.CallShapes.{AreArguments, IsPut}
use Rattle.acct_layouts.specs.Values.{set_arm}
use Rattle.acct_layouts.specs.Table.{samr_layout}
use Rattle.acct_layouts.specs.declared.classes.Arm.TheVariants as arm
use Rattle.acct_layouts.specs.declared.classes.Subject.{Subject}
use Rattle.acct_layouts.specs.declared.classes.Subject.TheVariants as subject
use Rattle.acct_layouts.specs.declared.fields.Fields.TheVariants as fields
use Rattle.acct_rows.specs.Rows.{exists}
use Rattle.acct_tables.specs.Keys.{kind_of, domain_of}
use Rattle.acct_rows.specs.Rows.{Lists, domain_at, is_of, after}
use Rattle.acct_tables.specs.Selected.{same_kind}
use Rattle.acct_tables.specs.declared.object.Object.{Object}
use Rattle.acct_tables.specs.declared.object.Object.TheVariants as objects
use Rattle.acct_tables.specs.declared.row.AccountRow.{AccountRow}
use Rattle.acct_tables.specs.declared.row.DomainRow.{DomainRow}
use Rattle.acct_rules.specs.Asked.{class_of}
use Rattle.acct_rules.specs.Planned.{decision, answers}
use Rattle.samr_objects.specs.Laws.{FieldsAreSet, ShowsWhatIsSet}
use Rattle.samr_objects.specs.Settings.{Classes, domain_classes, group_classes, alias_classes, user_classes, value_of}
use Rattle.samr_objects.specs.Settings.{shown_by, shows, account_of, query_domain, query_group, query_alias, query_user}
use Rattle.samr_objects.specs.Settings.{set_field, sets_oem, with_field, with_oem}
use Rattle.samr_objects.specs.Table.{set_information_domain, set_information_group, set_information_alias}
use Rattle.samr_objects.specs.Table.{set_information_user, set_information_user2}
use Rattle.samr_objects.specs.declared.settings.Field.{Field}
use Rattle.samr_objects.proofs.Asking.{arguments}
use Rattle.samr_objects.proofs.Deleting.{is-account, kind-there, first-holds}

-- a query that shows the value answers it
answered : (class : ℕ) (value : Info) (shown : Option Info) → shown ≡ Some value
    → decision (shows class shown) ≡ answers status_success (outs.Shown class (Some value))
answered class value shown is = ap (λ o. decision (shows class o)) is

-- ---- the values of a class that is one text or one number

text-value : (P : Info → Type 0) → ((t : List ℕ) → P (info.Text t)) → (value : Info) → IsPut (Some arm.Text) value
    → P value
text-value P each (info.Text t) is = each t
text-value P each info.Unserved is = absurd is
text-value P each (info.Number n) is = absurd is
text-value P each (info.TwoTexts t u) is = absurd is
text-value P each (info.Group t n m u) is = absurd is
text-value P each (info.Alias t n u) is = absurd is
text-value P each (info.User t u n v) is = absurd is
text-value P each (info.Place t s) is = absurd is

number-value : (P : Info → Type 0) → ((n : ℕ) → P (info.Number n)) → (value : Info)
    → IsPut (Some arm.Number) value → P value
number-value P each (info.Number n) is = each n
number-value P each info.Unserved is = absurd is
number-value P each (info.Text t) is = absurd is
number-value P each (info.TwoTexts t u) is = absurd is
number-value P each (info.Group t n m u) is = absurd is
number-value P each (info.Alias t n u) is = absurd is
number-value P each (info.User t u n v) is = absurd is
number-value P each (info.Place t s) is = absurd is

-- ---- the classes that an account's table of classes sets

one-class : (m n : ℕ) → (m == n) ≡ true → m ≡ n
one-class m n is = grind (arith, nat_tests)

at-class : (P : ℕ → Type 0) (class n : ℕ) (f : Field) (rest : Option Field) (b : Bool) → (class == n) ≡ b → P n
    → (is_some rest ≡ true → P class) → is_some (cond b (Some f) rest) ≡ true → P class
at-class P class n f rest true is here later some = subst P (sym (one-class class n is)) here
at-class P class n f rest false is here later some = later some

-- the row with the field that the class sets shows it
abbrev ShowsPut : Subject → Kind → (Lists → AccountRow → Classes) → ℕ → Type 0
ShowsPut s k classes class =
    (r : Lists) (a : AccountRow) (value : Info) → IsPut (set_arm s class) value
    → value_of class (classes r (with_field (set_field k class) (args.Put class value) a)) ≡ Some value

module _ (s : Subject) (k : Kind) (classes : Lists → AccountRow → Classes) (class : ℕ) where
  text-shown : set_arm s class ≡ Some arm.Text
      → ((r : Lists) (a : AccountRow) (t : List ℕ)
      → value_of class (classes r (with_field (set_field k class) (args.Put class (info.Text t)) a))
      ≡ Some (info.Text t))
      → ShowsPut s k classes class
  text-shown is each r a value put =
      text-value (λ v. value_of class (classes r (with_field (set_field k class) (args.Put class v) a)) ≡ Some v)
      (each r a) value (subst (λ x. IsPut x value) is put)

  number-shown : set_arm s class ≡ Some arm.Number
      → ((r : Lists) (a : AccountRow) (n : ℕ)
      → value_of class (classes r (with_field (set_field k class) (args.Put class (info.Number n)) a))
      ≡ Some (info.Number n))
      → ShowsPut s k classes class
  number-shown is each r a value put =
      number-value (λ v. value_of class (classes r (with_field (set_field k class) (args.Put class v) a)) ≡ Some v)
      (each r a) value (subst (λ x. IsPut x value) is put)

-- what a user shows doesn't depend on other rows
abbrev user_table : Lists → AccountRow → Classes
user_table r = user_classes

group-put : (class : ℕ) → is_some (set_field kind.Group class) ≡ true
    → ShowsPut subject.Group kind.Group group_classes class
group-put class =
    let P = ShowsPut subject.Group kind.Group group_classes in
    at-class P class group_name_information _ _ (class == group_name_information) refl
    (text-shown subject.Group kind.Group group_classes group_name_information refl (λ r a t. refl))
    (at-class P class group_attribute_information _ _ (class == group_attribute_information) refl
    (number-shown subject.Group kind.Group group_classes group_attribute_information refl (λ r a n. refl))
    (at-class P class group_admin_comment_information _ _ (class == group_admin_comment_information) refl
    (text-shown subject.Group kind.Group group_classes group_admin_comment_information refl (λ r a t. refl))
    (λ none. cc)))

alias-put : (class : ℕ) → is_some (set_field kind.Alias class) ≡ true
    → ShowsPut subject.Alias kind.Alias alias_classes class
alias-put class =
    let P = ShowsPut subject.Alias kind.Alias alias_classes in
    at-class P class alias_name_information _ _ (class == alias_name_information) refl
    (text-shown subject.Alias kind.Alias alias_classes alias_name_information refl (λ r a t. refl))
    (at-class P class alias_admin_comment_information _ _ (class == alias_admin_comment_information) refl
    (text-shown subject.Alias kind.Alias alias_classes alias_admin_comment_information refl (λ r a t. refl))
    (λ none. cc))

user-put : (class : ℕ) → is_some (set_field kind.User class) ≡ true
    → ShowsPut subject.User kind.User user_table class
user-put class =
    let P = ShowsPut subject.User kind.User user_table in
    at-class P class user_account_name_information _ _ (class == user_account_name_information) refl
    (text-shown subject.User kind.User user_table user_account_name_information refl (λ r a t. refl))
    (at-class P class user_full_name_information _ _ (class == user_full_name_information) refl
    (text-shown subject.User kind.User user_table user_full_name_information refl (λ r a t. refl))
    (at-class P class user_primary_group_information _ _ (class == user_primary_group_information) refl
    (number-shown subject.User kind.User user_table user_primary_group_information refl (λ r a n. refl))
    (at-class P class user_admin_comment_information _ _ (class == user_admin_comment_information) refl
    (text-shown subject.User kind.User user_table user_admin_comment_information refl (λ r a t. refl))
    (at-class P class user_control_information _ _ (class == user_control_information) refl
    (number-shown subject.User kind.User user_table user_control_information refl (λ r a n. refl))
    (λ none. cc)))))

-- ---- accounts

module _ (s : Subject) (k : Kind) (classes : Lists → AccountRow → Classes)
    (each : (class : ℕ) → is_some (set_field k class) ≡ true → ShowsPut s k classes class) where
  account-row : (later : Lists) (j : Kind) (class : ℕ) (value : Info) (was now : Option AccountRow)
      → IsPut (set_arm s class) value → is_of j was ≡ true → is_some (set_field k class) ≡ true
      → now ≡ option_map (with_field (set_field k class) (args.Put class value)) was
      → shown_by (classes later) class now ≡ Some value
  account-row later j class value None now put there some row = cc
  account-row later j class value (Some a) now put there some row =
      subst (λ o. shown_by (classes later) class o ≡ Some value) (sym row) (each class some later a value put)

  account-answered : (later : Lists) (j : Kind) (asked : Args) (class : ℕ) (value : Info) (was now : Option AccountRow)
      → asked ≡ args.Put class value → AreArguments (fields.Put s) asked → is_of j was ≡ true
      → is_some (set_field k (class_of asked)) ≡ true
      → now ≡ option_map (with_field (set_field k (class_of asked)) asked) was
      → decision (shows class (shown_by (classes later) class now))
      ≡ answers status_success (outs.Shown class (Some value))
  account-answered later j asked class value was now same spelled there some row =
      let put : AreArguments (fields.Put s) (args.Put class value) = subst (AreArguments (fields.Put s)) same spelled in
      answered class value (shown_by (classes later) class now)
      (account-row later j class value was now put.1 there
      (subst (λ x. is_some (set_field k (class_of x)) ≡ true) same some)
      (subst (λ x. now ≡ option_map (with_field (set_field k (class_of x)) x) was) same row))

pub group-shown : FieldsAreSet → ShowsWhatIsSet set_information_group query_group
unfolding samr_layout
group-shown laws r described object call class value is same none =
    let set = laws.group r described object call is none in
    let later = after (set_information_group.rule r described object call.args).planned.plan r in
    account-answered subject.Group kind.Group group_classes group-put later (kind_of object) call.args class value
    (account_of r object) (account_of later object) same
    (arguments call Samr samr_set_information_group is.face is.opnum is.spelled).1
    (kind-there r object (is-account kind.Group object refl is.taken) is.there) set.0 set.1.row

pub alias-shown : FieldsAreSet → ShowsWhatIsSet set_information_alias query_alias
unfolding samr_layout
alias-shown laws r described object call class value is same none =
    let set = laws.alias r described object call is none in
    let later = after (set_information_alias.rule r described object call.args).planned.plan r in
    account-answered subject.Alias kind.Alias alias_classes alias-put later (kind_of object) call.args class value
    (account_of r object) (account_of later object) same
    (arguments call Samr samr_set_information_alias is.face is.opnum is.spelled).1
    (kind-there r object (is-account kind.Alias object refl is.taken) is.there) set.0 set.1.row

pub user-shown : FieldsAreSet → ShowsWhatIsSet set_information_user query_user
unfolding samr_layout
user-shown laws r described object call class value is same none =
    let set = laws.user r described object call is none in
    let later = after (set_information_user.rule r described object call.args).planned.plan r in
    account-answered subject.User kind.User user_table user-put later (kind_of object) call.args class value
    (account_of r object) (account_of later object) same
    (arguments call Samr samr_set_information_user is.face is.opnum is.spelled).1
    (kind-there r object (is-account kind.User object refl is.taken) is.there) set.0 set.1.row

pub user2-shown : FieldsAreSet → ShowsWhatIsSet set_information_user2 query_user
unfolding samr_layout
user2-shown laws r described object call class value is same none =
    let set = laws.user2 r described object call is none in
    let later = after (set_information_user2.rule r described object call.args).planned.plan r in
    account-answered subject.User kind.User user_table user-put later (kind_of object) call.args class value
    (account_of r object) (account_of later object) same
    (arguments call Samr samr_set_information_user2 is.face is.opnum is.spelled).1
    (kind-there r object (is-account kind.User object refl is.taken) is.there) set.0 set.1.row

-- ---- domains

domain-some : (r : Lists) (object : Object) → exists r object ≡ true → same_kind kind.Domain (kind_of object) ≡ true
    → is_some (domain_at r (domain_of object)) ≡ true
domain-some r (objects.Domain n) there taken = there
domain-some r objects.Server there taken = cc
domain-some r (objects.Group i) there taken = cc
domain-some r (objects.Alias n i) there taken = cc
domain-some r (objects.User i) there taken = cc
domain-some r objects.Policy there taken = cc
domain-some r (objects.Account s) there taken = cc

abbrev ShowsOem : ℕ → Type 0
ShowsOem class =
    (d : DomainRow) (value : Info) → IsPut (set_arm subject.Domain class) value
    → value_of class (domain_classes (with_oem (args.Put class value) d)) ≡ Some value

oem-put : ShowsOem domain_oem_information
oem-put d =
    text-value
    (λ v. value_of domain_oem_information (domain_classes (with_oem (args.Put domain_oem_information v) d)) ≡ Some v)
    (λ t. refl)

domain-row : (class : ℕ) (value : Info) (was now : Option DomainRow) → IsPut (set_arm subject.Domain class) value
    → is_some was ≡ true → (class == domain_oem_information) ≡ true
    → now ≡ option_map (with_oem (args.Put class value)) was → shown_by domain_classes class now ≡ Some value
domain-row class value None now put there oem row = cc
domain-row class value (Some d) now put there oem row =
    subst (λ o. shown_by domain_classes class o ≡ Some value) (sym row)
    (subst ShowsOem (sym (one-class class domain_oem_information oem)) oem-put d value put)

is-true : (b : Bool) → not b ≡ false → b ≡ true
is-true true h = refl
is-true false h = cc

pub domain-shown : FieldsAreSet → ShowsWhatIsSet set_information_domain query_domain
unfolding samr_layout
domain-shown laws r described object call class value is same none =
    let later = after (set_information_domain.rule r described object call.args).planned.plan r in
    let was = domain_at r (domain_of object) in
    let now = domain_at later (domain_of object) in
    let put : AreArguments (fields.Put subject.Domain) (args.Put class value) =
    subst (AreArguments (fields.Put subject.Domain)) same
    (arguments call Samr samr_set_information_domain is.face is.opnum is.spelled).1 in
    answered class value (shown_by domain_classes class now)
    (domain-row class value was now put.1 (domain-some r object is.there is.taken)
    (subst (λ x. sets_oem (class_of x) ≡ true) same
    (is-true (sets_oem (class_of call.args)) (first-holds (not (sets_oem (class_of call.args))) _ none)))
    (subst (λ x. now ≡ option_map (with_oem x) was) same (laws.domain r described object call is none).row))
