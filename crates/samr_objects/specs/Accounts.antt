-- The operations that open, create and delete an account of a domain.
use Rattle.std.specs.Prelude.{ℕ, Bool, not, [], ◌∷◌, ◌==◌, true, false, nat_le, nat_lt, List, Option, Some, None, ◌+◌}
use Rattle.std.specs.Prelude.{◌++◌, if◌then◌else◌}
use Rattle.acct_codes.specs.Accounts.{new_group_attributes, most_rid, domain_group_rid_users, first_created_rid}
use Rattle.acct_codes.specs.Accounts.{user_account_disabled, user_password_not_required, user_normal_account}
use Rattle.acct_codes.specs.Limits.{most_text}
use Rattle.acct_codes.specs.Statuses.{status_no_such_user, status_no_such_group, status_no_such_alias}
use Rattle.acct_codes.specs.Statuses.{status_invalid_account_name, status_user_exists, status_group_exists}
use Rattle.acct_codes.specs.Statuses.{status_alias_exists, status_not_supported, status_invalid_parameter}
use Rattle.acct_codes.specs.Statuses.{status_insufficient_resources, status_success, status_special_account}
use Rattle.acct_codes.specs.Statuses.{status_members_primary_group}
use Rattle.acct_codes.specs.declared.kind.Kind.{Kind}
use Rattle.acct_codes.specs.declared.kind.Kind.TheVariants as kind
use Rattle.dtyp_sid.specs.Sids.{SidValue}
use Rattle.acct_calls.specs.Calls.{zero_handle}
use Rattle.acct_calls.specs.Names.{is_valid_name}
use Rattle.acct_calls.specs.declared.calls.Args.{Args}
use Rattle.acct_calls.specs.declared.replies.Outs.TheVariants as outs
use Rattle.acct_rows.specs.Rows.{naming, Lists, account_at, is_of, find_name, domain_at, is_primary}
use Rattle.acct_tables.specs.Keys.{builtin_domain, domain_of, rid_of}
use Rattle.acct_rows.specs.Sound.{next_rid_of}
use Rattle.acct_tables.specs.Good.{is_user_type}
use Rattle.acct_tables.specs.declared.object.Object.{Object}
use Rattle.acct_tables.specs.declared.object.Object.TheVariants.{Group, Alias, User}
use Rattle.acct_tables.specs.declared.row.AccountRow.{AccountRow}
use Rattle.acct_tables.specs.declared.row.DomainRow.{DomainRow}
use Rattle.acct_tables.specs.declared.row.MemberRow.{MemberRow}
use Rattle.acct_tables.specs.declared.row.Row.{Row}
use Rattle.acct_tables.specs.declared.row.Row.TheVariants as rows
use Rattle.acct_tables.specs.declared.row.RowKey.{RowKey}
use Rattle.acct_tables.specs.declared.row.RowKey.TheVariants as keys
use Rattle.acct_rules.specs.Asked.{asked_rid, desired_access, units_in, made_name, made_type, or_empty}
use Rattle.acct_rules.specs.Planned.{Ruled, when, opens, Condition, creates, answers}
use Rattle.acct_rules.specs.declared.planned.Effect.TheVariants as effects
use Rattle.acct_rules.specs.declared.planned.Planned.{Planned}
use Rattle.samr_objects.specs.Domains.{sid_of_rid}

-- ======== the operations that open an account of a domain

-- the domain has no account of the kind with the RID that is asked for
abbrev pub is_missing : Lists → Kind → ℕ → Args → Bool
is_missing r k domain asked = not (is_of k (account_at r domain (asked_rid asked)))

-- SamrOpenGroup (MS-SAMR 3.1.5.1.7)
abbrev pub open_group : Lists → Object → Args → Ruled
open_group r domain asked = record {
  conditions = when (is_missing r kind.Group (domain_of domain) asked) status_no_such_group ∷ [];
  planned = opens (Group (asked_rid asked)) (desired_access asked);
}

-- SamrOpenAlias (MS-SAMR 3.1.5.1.8)
abbrev pub open_alias : Lists → Object → Args → Ruled
open_alias r domain asked = record {
  conditions = when (is_missing r kind.Alias (domain_of domain) asked) status_no_such_alias ∷ [];
  planned = opens (Alias (domain_of domain) (asked_rid asked)) (desired_access asked);
}

-- SamrOpenUser (MS-SAMR 3.1.5.1.9)
abbrev pub open_user : Lists → Object → Args → Ruled
open_user r domain asked = record {
  conditions = when (is_missing r kind.User (domain_of domain) asked) status_no_such_user ∷ [];
  planned = opens (User (asked_rid asked)) (desired_access asked);
}

-- ======== which name and which RID an account may take, and which text it may have (MS-SAMR 3.1.1.8.4, 3.1.1.9.2)

-- ---- names

-- an account of the kind may not have the name; nor may it have none
abbrev pub is_invalid_name : Kind → Option (List ℕ) → Bool
is_invalid_name k None = true
is_invalid_name k (Some name) = not (is_valid_name k name)

-- the account of the domain that has the name
abbrev pub holder : Lists → ℕ → Option (List ℕ) → Option AccountRow
holder r domain None = None
holder r domain (Some name) = find_name r domain name

-- it is another account than the one that would take the name: by its RID, and a new account has none yet
abbrev pub is_another : Option ℕ → Option AccountRow → Bool
is_another own None = false
is_another None (Some a) = true
is_another (Some rid) (Some a) = not (a.rid == rid)

-- the status that says of which kind the account is that has the name: a user, a group or an alias
abbrev pub exists_as : Kind → ℕ
exists_as kind.Group = status_group_exists
exists_as kind.Alias = status_alias_exists
exists_as _ = status_user_exists

abbrev pub exists_status : Option AccountRow → ℕ
exists_status None = status_user_exists
exists_status (Some a) = exists_as a.kind

-- The conditions of a name that an account of the kind takes: it is valid, and no other account of the domain has it.
-- The account's own RID is given, or none where it is new.
abbrev pub name_conditions : Lists → Kind → ℕ → Option (List ℕ) → Option ℕ → List Condition
name_conditions r k domain name own =
    when (is_invalid_name k name) status_invalid_account_name
    ∷ when (is_another own (holder r domain name)) (exists_status (holder r domain name))
    ∷ []

-- ---- RIDs and texts

-- the domain gives out no more RIDs: its next one is at the limit; a domain that isn't there gives out none
abbrev pub gives_no_rid : Option DomainRow → Bool
gives_no_rid None = true
gives_no_rid (Some d) = nat_le most_rid d.next_rid

-- a full name, a comment or OEM information has more units than it may have
abbrev pub is_too_long : Option (List ℕ) → Bool
is_too_long text = nat_lt most_text (units_in text)

-- ======== the operations that create an account of a domain

-- ---- what they share

-- the conditions of every new account: it may take its name, and its domain has a RID for it
abbrev pub new_conditions : Lists → Kind → ℕ → Args → List Condition
new_conditions r k number asked =
    name_conditions r k number (made_name asked) None
    ++ when (gives_no_rid (domain_at r number)) status_insufficient_resources
    ∷ []

-- a new account takes the next RID of its domain
abbrev pub new_rid : Lists → ℕ → ℕ
new_rid r number = next_rid_of (domain_at r number)

-- the domain's next RID then is one more (MS-SAMR 3.1.1.9.2)
abbrev pub risen : DomainRow → DomainRow
risen d = record d { next_rid = d.next_rid + 1 }

abbrev pub risen_row : Option DomainRow → List Row
risen_row None = []
risen_row (Some d) = rows.Domain (risen d) ∷ []

-- a new account has the name that was asked for, no full name and no comment
abbrev pub new_account : Lists → Kind → ℕ → Args → AccountRow
new_account r k number asked = record {
  domain = number;
  rid = new_rid r number;
  kind = k;
  name = or_empty (made_name asked);
  full_name = [];
  comment = [];
  bits = 0;
  primary = 0;
}

-- the row of its domain, and its own
abbrev pub new_rows : Lists → AccountRow → List Row
new_rows r account = risen_row (domain_at r account.domain) ++ rows.Account account ∷ []

-- ---- groups

abbrev pub new_group : Lists → ℕ → Args → AccountRow
new_group r number asked = record (new_account r kind.Group number asked) { bits = new_group_attributes }

-- SamrCreateGroupInDomain (MS-SAMR 3.1.5.4.2)
abbrev pub create_group : Lists → Object → Args → Ruled
create_group r domain asked =
    let number = domain_of domain in
    let group = new_group r number asked in
    record {
      conditions = when (number == builtin_domain) status_not_supported ∷ new_conditions r kind.Group number asked;
      planned = creates (Group group.rid) (desired_access asked) group.rid (new_rows r group);
    }

-- ---- aliases

-- SamrCreateAliasInDomain (MS-SAMR 3.1.5.4.3)
abbrev pub create_alias : Lists → Object → Args → Ruled
create_alias r domain asked =
    let number = domain_of domain in
    let alias = new_account r kind.Alias number asked in
    record {
      conditions = new_conditions r kind.Alias number asked;
      planned = creates (Alias number alias.rid) (desired_access asked) alias.rid (new_rows r alias);
    }

-- ---- users

-- the control of a new user of a type: it is disabled, and a normal one needs no password
abbrev pub new_control : ℕ → ℕ
new_control type =
    if type == user_normal_account then user_normal_account + user_password_not_required + user_account_disabled
    else type + user_account_disabled

-- a new user's primary group is that of all users
abbrev pub new_user : Lists → ℕ → Args → AccountRow
new_user r number asked =
    record (new_account r kind.User number asked) {
      bits = new_control (made_type asked);
      primary = domain_group_rid_users;
    }

-- of which it is a member
abbrev pub new_member : ℕ → MemberRow
new_member rid = record { group = domain_group_rid_users; user = rid; attributes = new_group_attributes }

-- SamrCreateUser2InDomain (MS-SAMR 3.1.5.4.4), and SamrCreateUserInDomain (3.1.5.4.5), whose user is a normal one
abbrev pub create_user : Lists → Object → Args → Ruled
create_user r domain asked =
    let number = domain_of domain in
    let user = new_user r number asked in
    record {
      conditions =
          when (number == builtin_domain) status_not_supported
          ∷ when (not (is_user_type (made_type asked))) status_invalid_parameter
          ∷ new_conditions r kind.User number asked;
      planned =
          creates (User user.rid) (desired_access asked) user.rid
          (new_rows r user ++ rows.Member (new_member user.rid) ∷ []);
    }

-- ======== the operations that delete an account of a domain

-- ---- conditions

-- the account is well-known: its RID is below those of created accounts
abbrev pub is_special : Object → Bool
is_special object = nat_lt (rid_of object) first_created_rid

-- ---- what goes

-- the account's SID: its domain's, followed by its RID
abbrev pub account_sid : Lists → Object → Option SidValue
account_sid r object = sid_of_rid (domain_at r (domain_of object)) (rid_of object)

-- The keys of an account of a SID and of every row that names it: the row of its security descriptor, the member rows
-- that have it as a group or a user, the alias rows that are of it or have the SID. Among sound rows each account has a
-- SID.
abbrev pub keys_of : Lists → Object → Option SidValue → List RowKey
keys_of r object None = []
keys_of r object (Some sid) = keys.Desc object ∷ naming r (domain_of object) (rid_of object) sid

-- These rows go, and every handle to the account; the zero handle goes back in place of the one that was brought.
abbrev pub deletes : Lists → Object → Planned
deletes r object =
    record (answers status_success (outs.Handle zero_handle)) {
      plan = record { puts = []; removes = keys_of r object (account_sid r object) };
      effect = effects.Deletes object;
    }

-- ---- operations

-- SamrDeleteGroup (MS-SAMR 3.1.5.7.1)
abbrev pub delete_group : Lists → Object → Args → Ruled
delete_group r group asked = record {
  conditions =
      when (is_special group) status_special_account
      ∷ when (is_primary r (rid_of group)) status_members_primary_group
      ∷ [];
  planned = deletes r group;
}

-- SamrDeleteAlias (MS-SAMR 3.1.5.7.2)
abbrev pub delete_alias : Lists → Object → Args → Ruled
delete_alias r alias asked = record {
  conditions = when (is_special alias) status_special_account ∷ [];
  planned = deletes r alias;
}

-- SamrDeleteUser (MS-SAMR 3.1.5.7.3)
abbrev pub delete_user : Lists → Object → Args → Ruled
delete_user r user asked = record {
  conditions = when (is_special user) status_special_account ∷ [];
  planned = deletes r user;
}
