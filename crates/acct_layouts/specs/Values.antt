-- Which values the fields of calls and replies have, and which value an information class has.
use Rattle.std.specs.Prelude.{◌≡◌, ℕ, ◌^◌, ◌<◌, ◌≤◌, All, List, [], length, Option, Some, None, FitsSigned, Bool, false}
use Rattle.std.specs.Prelude.{◌==◌, ◌||◌, if◌then◌else◌}
use Rattle.std.specs.Int.{w32}
use Rattle.acct_codes.specs.InfoClasses.{domain_password_information, domain_oem_information, domain_name_information}
use Rattle.acct_codes.specs.InfoClasses.{domain_lockout_information, group_general_information, group_name_information}
use Rattle.acct_codes.specs.InfoClasses.{group_attribute_information, group_admin_comment_information}
use Rattle.acct_codes.specs.InfoClasses.{alias_general_information, alias_name_information}
use Rattle.acct_codes.specs.InfoClasses.{alias_admin_comment_information, user_general_information}
use Rattle.acct_codes.specs.InfoClasses.{user_name_information, user_account_name_information}
use Rattle.acct_codes.specs.InfoClasses.{user_full_name_information, user_primary_group_information}
use Rattle.acct_codes.specs.InfoClasses.{user_admin_comment_information, user_control_information}
use Rattle.acct_codes.specs.InfoClasses.{user_internal1_information, user_all_information, user_internal4_information}
use Rattle.acct_codes.specs.InfoClasses.{user_internal5_information, user_internal4_new_information}
use Rattle.acct_codes.specs.InfoClasses.{user_internal5_new_information, policy_primary_domain_information}
use Rattle.acct_codes.specs.InfoClasses.{policy_account_domain_information, domain_display_user, domain_display_group}
use Rattle.acct_codes.specs.Limits.{most_privileges}
use Rattle.dtyp_sid.specs.Sids.{IsSid}
use Rattle.acct_calls.specs.declared.handle.Handle.{Handle}
use Rattle.acct_calls.specs.declared.info.Info.{Info}
use Rattle.acct_calls.specs.declared.info.Info.TheVariants as info
use Rattle.acct_calls.specs.declared.lists.DisplayRow.{DisplayRow}
use Rattle.acct_calls.specs.declared.lists.Privilege.{Privilege}
use Rattle.acct_calls.specs.declared.lists.ReferencedDomain.{ReferencedDomain}
use Rattle.acct_calls.specs.declared.lists.RidBits.{RidBits}
use Rattle.acct_calls.specs.declared.lists.RidName.{RidName}
use Rattle.acct_calls.specs.declared.lists.SidRef.{SidRef}
use Rattle.acct_calls.specs.declared.lists.TranslatedName.{TranslatedName}
use Rattle.acct_calls.specs.declared.lists.TranslatedSid.{TranslatedSid}
use Rattle.acct_layouts.specs.declared.classes.Arm.{Arm}
use Rattle.acct_layouts.specs.declared.classes.Arm.TheVariants as arm
use Rattle.acct_layouts.specs.declared.classes.DisplayArm.{DisplayArm}
use Rattle.acct_layouts.specs.declared.classes.DisplayArm.TheVariants as display
use Rattle.acct_layouts.specs.declared.classes.Subject.{Subject}
use Rattle.acct_layouts.specs.declared.classes.Subject.TheVariants as subject

-- ======== which values the fields of calls and replies have: numbers by their width, texts and lists by the counts
-- that stand before them

-- A UUID has 128 bits.
abbrev pub IsHandle : Handle → Type 0
IsHandle handle = handle.number < 2 ^ 128

abbrev pub IsLong : ℕ → Type 0
IsLong n = n < 2 ^ 32

-- a byte
abbrev pub IsSmall : ℕ → Type 0
IsSmall n = n < 2 ^ 8

-- A text's length in bytes has 16 bits and is even.
abbrev pub IsText : List ℕ → Type 0
IsText units = (length units ≤ 32767) × All (λ unit. unit < 2 ^ 16) units

-- A list's count has 32 bits.
abbrev pub IsListed : {A : Type 0} → (A → Type 0) → List A → Type 0
IsListed P xs = (length xs < 2 ^ 32) × All P xs

-- what a pointer may leave out
abbrev pub IfThere : {A : Type 0} → (A → Type 0) → Option A → Type 0
IfThere P None = Unit {0}
IfThere P (Some x) = P x

abbrev pub IsPrivilege : Privilege → Type 0
IsPrivilege privilege = (privilege.low < 2 ^ 32) × (privilege.high < 2 ^ 32) × (privilege.attributes < 2 ^ 32)

abbrev pub IsPrivilegeSet : List Privilege → Type 0
IsPrivilegeSet privileges = (length privileges ≤ most_privileges) × All IsPrivilege privileges

abbrev pub IsAccount : RidName → Type 0
IsAccount account = (account.rid < 2 ^ 32) × IsText account.name

abbrev pub IsDomain : ReferencedDomain → Type 0
IsDomain place = IsText place.name × IsSid place.sid

abbrev pub IsMember : RidBits → Type 0
IsMember member = (member.rid < 2 ^ 32) × (member.bits < 2 ^ 32)

-- the index of a domain, or -1
abbrev pub IsTranslatedSid : TranslatedSid → Type 0
IsTranslatedSid entry = (entry.usage < 2 ^ 16) × (entry.rid < 2 ^ 32) × FitsSigned w32 entry.index

abbrev pub IsTranslatedName : TranslatedName → Type 0
IsTranslatedName entry = (entry.usage < 2 ^ 16) × IsText entry.name × FitsSigned w32 entry.index

abbrev pub IsSidRef : SidRef → Type 0
IsSidRef entry = (entry.usage < 2 ^ 16) × IfThere IsSid entry.sid × FitsSigned w32 entry.index

-- an account as it is displayed: three numbers and three texts
abbrev pub IsDisplayedUser : DisplayRow → Type 0
IsDisplayedUser row =
    IsLong row.index × IsLong row.rid × IsLong row.bits × IsText row.name × IsText row.comment × IsText row.full_name

-- a group has no full name
abbrev pub IsDisplayedGroup : DisplayRow → Type 0
IsDisplayedGroup row = IsDisplayedUser row × (row.full_name ≡ [])

-- ======== which value an information class has, by the kind of the object (MS-SAMR 2.2.3 to 2.2.6, MS-LSAD 2.2.4)

-- What can be set, and what its value is. Nothing of a policy can be.
abbrev pub set_arm : Subject → ℕ → Option Arm
set_arm subject.Domain class = if class == domain_oem_information then Some arm.Text else None
set_arm subject.Group class =
    if (class == group_name_information) || (class == group_admin_comment_information) then Some arm.Text
    else (if class == group_attribute_information then Some arm.Number else None)
set_arm subject.Alias class =
    if (class == alias_name_information) || (class == alias_admin_comment_information) then Some arm.Text else None
set_arm subject.User class =
    if (class == user_account_name_information) || (class == user_full_name_information)
    || (class == user_admin_comment_information)
    then Some arm.Text
    else (if (class == user_primary_group_information) || (class == user_control_information) then Some arm.Number
    else None)
set_arm subject.Policy class = None

-- What is shown: this, and what can't be set.
abbrev pub shown_arm : Subject → ℕ → Option Arm
shown_arm subject.Domain class =
    if class == domain_name_information then Some arm.Text else set_arm subject.Domain class
shown_arm subject.Group class =
    if class == group_general_information then Some arm.Group else set_arm subject.Group class
shown_arm subject.Alias class =
    if class == alias_general_information then Some arm.Alias else set_arm subject.Alias class
shown_arm subject.User class =
    if class == user_general_information then Some arm.User
    else (if class == user_name_information then Some arm.TwoTexts else set_arm subject.User class)
shown_arm subject.Policy class =
    if (class == policy_primary_domain_information) || (class == policy_account_domain_information)
    then Some arm.Place else None

-- What is displayed of a domain: its users or its groups (DOMAIN_DISPLAY_INFORMATION, MS-SAMR 2.2.8.12).
abbrev pub display_arm : ℕ → Option DisplayArm
display_arm class =
    if class == domain_display_user then Some display.User
    else (if class == domain_display_group then Some display.Group else None)

-- The classes that carry a password, or what is kept of one, which no operation serves.
abbrev pub is_password_class : Subject → ℕ → Bool
is_password_class subject.Domain class = (class == domain_password_information) || (class == domain_lockout_information)
is_password_class subject.Group class = false
is_password_class subject.Alias class = false
is_password_class subject.User class =
    (class == user_internal1_information) || (class == user_all_information) || (class == user_internal4_information)
    || (class == user_internal5_information) || (class == user_internal4_new_information)
    || (class == user_internal5_new_information)
is_password_class subject.Policy class = false

-- ======== which values an information class has

-- what the class of this arm of the union has
abbrev pub IsValue : Arm → Info → Type 0
IsValue arm.Number (info.Number n) = IsLong n
IsValue arm.Text (info.Text t) = IsText t
IsValue arm.TwoTexts (info.TwoTexts name full_name) = IsText name × IsText full_name
IsValue arm.Group (info.Group name attributes members comment) =
    IsText name × IsLong attributes × IsLong members × IsText comment
IsValue arm.Alias (info.Alias name members comment) = IsText name × IsLong members × IsText comment
IsValue arm.User (info.User name full_name primary comment) =
    IsText name × IsText full_name × IsLong primary × IsText comment
IsValue arm.Place (info.Place name sid) = IsText name × IsSid sid
IsValue _ _ = ⊥

-- a value of the class, if it is named
abbrev pub IsOfArm : Option Arm → Info → Type 0
IsOfArm None value = ⊥
IsOfArm (Some a) value = IsValue a value
