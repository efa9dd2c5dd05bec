-- The operations that show and set information of a domain or an account, by classes.
use Rattle.std.specs.Prelude.{ℕ, ◌==◌, not, List, [], ◌∷◌, length, Option, Some, None, is_some, if◌then◌else◌, Bool}
use Rattle.std.specs.Prelude.{true}
use Rattle.acct_codes.specs.InfoClasses.{domain_oem_information, domain_name_information, group_general_information}
use Rattle.acct_codes.specs.InfoClasses.{group_name_information, group_attribute_information}
use Rattle.acct_codes.specs.InfoClasses.{group_admin_comment_information, alias_general_information}
use Rattle.acct_codes.specs.InfoClasses.{alias_name_information, alias_admin_comment_information}
use Rattle.acct_codes.specs.InfoClasses.{user_general_information, user_name_information, user_account_name_information}
use Rattle.acct_codes.specs.InfoClasses.{user_full_name_information, user_primary_group_information}
use Rattle.acct_codes.specs.InfoClasses.{user_admin_comment_information, user_control_information}
use Rattle.acct_codes.specs.Statuses.{status_success, status_invalid_info_class, status_invalid_parameter}
use Rattle.acct_codes.specs.Statuses.{status_no_such_group, status_member_not_in_group}
use Rattle.acct_codes.specs.declared.kind.Kind.{Kind}
use Rattle.acct_codes.specs.declared.kind.Kind.TheVariants as kind
use Rattle.acct_calls.specs.declared.calls.Args.{Args}
use Rattle.acct_calls.specs.declared.info.Info.{Info}
use Rattle.acct_calls.specs.declared.info.Info.TheVariants as info
use Rattle.acct_calls.specs.declared.replies.Outs.TheVariants as outs
use Rattle.acct_tables.specs.Keys.{domain_of, rid_of}
use Rattle.acct_rows.specs.Rows.{Lists, domain_at, account_at, members_of, alias_members_of, member_at, is_of}
use Rattle.acct_tables.specs.Keys.{account_domain}
use Rattle.acct_tables.specs.Good.{control_is_good}
use Rattle.acct_tables.specs.declared.object.Object.{Object}
use Rattle.acct_tables.specs.declared.row.AccountRow.{AccountRow}
use Rattle.acct_tables.specs.declared.row.DomainRow.{DomainRow}
use Rattle.acct_tables.specs.declared.row.Row.{Row}
use Rattle.acct_tables.specs.declared.row.Row.TheVariants as rows
use Rattle.acct_rules.specs.Asked.{class_of, put_text, put_number, or_empty}
use Rattle.acct_rules.specs.Planned.{Ruled, when, answers, Condition, puts}
use Rattle.samr_objects.specs.Accounts.{name_conditions, is_too_long}
use Rattle.samr_objects.specs.declared.settings.Field.{Field}
use Rattle.samr_objects.specs.declared.settings.Field.TheVariants as field

-- ======== the operations that show what a domain or an account is, by information classes

-- ---- what each kind shows, by class

abbrev pub Classes : Type 0
Classes = List (ℕ × Info)

abbrev pub domain_classes : DomainRow → Classes
domain_classes d =
    (domain_oem_information, info.Text d.oem)
    ∷ (domain_name_information, info.Text d.name)
    ∷ []

abbrev pub member_count : Lists → ℕ → ℕ
member_count r group = length (members_of r group)

abbrev pub group_classes : Lists → AccountRow → Classes
group_classes r a =
    (group_general_information, info.Group a.name a.bits (member_count r a.rid) a.comment)
    ∷ (group_name_information, info.Text a.name)
    ∷ (group_attribute_information, info.Number a.bits)
    ∷ (group_admin_comment_information, info.Text a.comment)
    ∷ []

abbrev pub alias_member_count : Lists → ℕ → ℕ → ℕ
alias_member_count r domain alias = length (alias_members_of r domain alias)

abbrev pub alias_classes : Lists → AccountRow → Classes
alias_classes r a =
    (alias_general_information, info.Alias a.name (alias_member_count r a.domain a.rid) a.comment)
    ∷ (alias_name_information, info.Text a.name)
    ∷ (alias_admin_comment_information, info.Text a.comment)
    ∷ []

abbrev pub user_classes : AccountRow → Classes
user_classes a =
    (user_general_information, info.User a.name a.full_name a.primary a.comment)
    ∷ (user_name_information, info.TwoTexts a.name a.full_name)
    ∷ (user_account_name_information, info.Text a.name)
    ∷ (user_full_name_information, info.Text a.full_name)
    ∷ (user_primary_group_information, info.Number a.primary)
    ∷ (user_admin_comment_information, info.Text a.comment)
    ∷ (user_control_information, info.Number a.bits)
    ∷ []

-- the value that stands beside a class
abbrev pub value_of : ℕ → Classes → Option Info
value_of class [] = None
value_of class (c ∷ cs) = if class == c.0 then Some c.1 else value_of class cs

-- what an object's row shows of a class; an object without a row shows nothing
abbrev pub shown_by : {A : Type 0} → (A → Classes) → ℕ → Option A → Option Info
shown_by classes class None = None
shown_by classes class (Some row) = value_of class (classes row)

-- ---- the operations

-- A class that isn't shown is refused.
abbrev pub shows : ℕ → Option Info → Ruled
shows class value = record {
  conditions = when (not (is_some value)) status_invalid_info_class ∷ [];
  planned = answers status_success (outs.Shown class value);
}

abbrev pub account_of : Lists → Object → Option AccountRow
account_of r object = account_at r (domain_of object) (rid_of object)

-- SamrQueryInformationDomain, SamrQueryInformationDomain2 (MS-SAMR 3.1.5.5.2, 3.1.5.5.1)
abbrev pub query_domain : Lists → Object → Args → Ruled
query_domain r domain asked =
    shows (class_of asked) (shown_by domain_classes (class_of asked) (domain_at r (domain_of domain)))

-- SamrQueryInformationGroup (MS-SAMR 3.1.5.5.3)
abbrev pub query_group : Lists → Object → Args → Ruled
query_group r group asked =
    shows (class_of asked) (shown_by (group_classes r) (class_of asked) (account_of r group))

-- SamrQueryInformationAlias (MS-SAMR 3.1.5.5.4)
abbrev pub query_alias : Lists → Object → Args → Ruled
query_alias r alias asked =
    shows (class_of asked) (shown_by (alias_classes r) (class_of asked) (account_of r alias))

-- SamrQueryInformationUser, SamrQueryInformationUser2 (MS-SAMR 3.1.5.5.6, 3.1.5.5.5)
abbrev pub query_user : Lists → Object → Args → Ruled
query_user r user asked =
    shows (class_of asked) (shown_by user_classes (class_of asked) (account_of r user))

-- ======== the operations that set information of a domain or an account, by classes

-- ---- what an information class sets

-- GROUP_INFORMATION_CLASS (MS-SAMR 2.2.4.6)
abbrev pub group_field : ℕ → Option Field
group_field class =
    if class == group_name_information then Some field.Name
    else (if class == group_attribute_information then Some field.Attributes
    else (if class == group_admin_comment_information then Some field.Comment else None))

-- ALIAS_INFORMATION_CLASS (MS-SAMR 2.2.5.5)
abbrev pub alias_field : ℕ → Option Field
alias_field class =
    if class == alias_name_information then Some field.Name
    else (if class == alias_admin_comment_information then Some field.Comment else None)

-- USER_INFORMATION_CLASS (MS-SAMR 2.2.6.28)
abbrev pub user_field : ℕ → Option Field
user_field class =
    if class == user_account_name_information then Some field.Name
    else (if class == user_full_name_information then Some field.FullName
    else (if class == user_primary_group_information then Some field.Primary
    else (if class == user_admin_comment_information then Some field.Comment
    else (if class == user_control_information then Some field.Control else None))))

-- The table of classes, by the kind of the account: what each of them sets, if it can be set.
abbrev pub set_field : Kind → ℕ → Option Field
set_field kind.Group class = group_field class
set_field kind.Alias class = alias_field class
set_field kind.User class = user_field class
set_field _ class = None

-- DOMAIN_INFORMATION_CLASS (MS-SAMR 2.2.3.16): of a domain the OEM information alone
abbrev pub sets_oem : ℕ → Bool
sets_oem class = class == domain_oem_information

-- ---- conditions

-- there is no such group, or the user isn't its member
abbrev pub primary_conditions : Lists → ℕ → ℕ → List Condition
primary_conditions r group user =
    when (not (is_of kind.Group (account_at r account_domain group))) status_no_such_group
    ∷ when (not (is_some (member_at r group user))) status_member_not_in_group
    ∷ []

-- what a field may not be set to; a class that sets none is refused
abbrev pub field_conditions : Lists → Kind → Object → Args → Option Field → List Condition
field_conditions r k object asked None = when true status_invalid_info_class ∷ []
field_conditions r k object asked (Some field.Name) =
    name_conditions r k (domain_of object) (put_text asked) (Some (rid_of object))
field_conditions r k object asked (Some field.FullName) =
    when (is_too_long (put_text asked)) status_invalid_parameter ∷ []
field_conditions r k object asked (Some field.Comment) =
    when (is_too_long (put_text asked)) status_invalid_parameter ∷ []
field_conditions r k object asked (Some field.Attributes) = []
field_conditions r k object asked (Some field.Control) =
    when (not (control_is_good (put_number asked))) status_invalid_parameter ∷ []
field_conditions r k object asked (Some field.Primary) = primary_conditions r (put_number asked) (rid_of object)

-- ---- what is set

-- the row with the field as it is asked for, and all else as it was
abbrev pub with_field : Option Field → Args → AccountRow → AccountRow
with_field None asked a = a
with_field (Some field.Name) asked a = record a { name = or_empty (put_text asked) }
with_field (Some field.FullName) asked a = record a { full_name = or_empty (put_text asked) }
with_field (Some field.Comment) asked a = record a { comment = or_empty (put_text asked) }
with_field (Some field.Attributes) asked a = record a { bits = put_number asked }
with_field (Some field.Control) asked a = record a { bits = put_number asked }
with_field (Some field.Primary) asked a = record a { primary = put_number asked }

abbrev pub with_oem : Args → DomainRow → DomainRow
with_oem asked d = record d { oem = or_empty (put_text asked) }

abbrev pub account_puts : Option Field → Args → Option AccountRow → List Row
account_puts set asked None = []
account_puts set asked (Some a) = rows.Account (with_field set asked a) ∷ []

abbrev pub domain_puts : Args → Option DomainRow → List Row
domain_puts asked None = []
domain_puts asked (Some d) = rows.Domain (with_oem asked d) ∷ []

-- ---- operations

-- SamrSetInformationDomain (MS-SAMR 3.1.5.6.1)
abbrev pub set_domain : Lists → Object → Args → Ruled
set_domain r domain asked = record {
  conditions =
      when (not (sets_oem (class_of asked))) status_invalid_info_class
      ∷ when (is_too_long (put_text asked)) status_invalid_parameter
      ∷ [];
  planned = puts (domain_puts asked (domain_at r (domain_of domain)));
}

-- a set of an account of the kind
abbrev pub set_account : Kind → Lists → Object → Args → Ruled
set_account k r object asked =
    let set = set_field k (class_of asked) in
    record {
      conditions = field_conditions r k object asked set;
      planned = puts (account_puts set asked (account_at r (domain_of object) (rid_of object)));
    }

-- SamrSetInformationGroup (MS-SAMR 3.1.5.6.2)
abbrev pub set_group : Lists → Object → Args → Ruled
set_group = set_account kind.Group

-- SamrSetInformationAlias (MS-SAMR 3.1.5.6.3)
abbrev pub set_alias : Lists → Object → Args → Ruled
set_alias = set_account kind.Alias

-- SamrSetInformationUser and SamrSetInformationUser2 (MS-SAMR 3.1.5.6.5, 3.1.5.6.4)
abbrev pub set_user : Lists → Object → Args → Ruled
set_user = set_account kind.User
