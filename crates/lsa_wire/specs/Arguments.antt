-- What stands in the calls that this interface has alone.
use Rattle.std.specs.Prelude.{ℕ, Bool, true, false, Option, Some, None, List, [], length, nat_le, ◌==◌}
use Rattle.acct_codes.specs.Limits.{most_rights, most_translated_names, most_translated_sids}
use Rattle.dtyp_sid.specs.Sids.{SidValue}
use Rattle.acct_calls.specs.declared.calls.Args.{Args}
use Rattle.acct_calls.specs.declared.calls.Args.TheVariants as args
use Rattle.acct_calls.specs.declared.lists.Privilege.{Privilege}
use Rattle.ndr_core.specs.Codec.{Codec}
use Rattle.ndr_core.specs.Cursor.{is_there}
use Rattle.ndr_core.specs.Parts.{when_there, Part, whole, array}
use Rattle.ndr_core.specs.Shapes.{u8, u16, u32, pointer, pointer_such, given, chain, led_by, ignored, u32_such}
use Rattle.ndr_core.specs.Shapes.{unspelled, made, followed}
use Rattle.acct_layouts.specs.declared.fields.Connect.{Connect}
use Rattle.acct_layouts.specs.declared.fields.Connect.TheVariants as connect
use Rattle.acct_layouts.specs.declared.fields.Fields.{Fields}
use Rattle.acct_layouts.specs.declared.fields.Fields.TheVariants as fields
use Rattle.acct_layouts.specs.declared.fields.PolicyFields.{PolicyFields}
use Rattle.acct_layouts.specs.declared.fields.PolicyFields.TheVariants as policy
use Rattle.acct_layouts.specs.declared.fields.Translation.{Translation}
use Rattle.acct_layouts.specs.declared.fields.Translation.TheVariants as translation
use Rattle.ndr_types.specs.Values.{sid_list, text_list, text_pointer, privilege_set_pointer, privilege_set, sid, text}
use Rattle.ndr_types.specs.Translations.{flagged_names, flagged_sids, sid_refs, translated_names, translated_sids}
use Rattle.acct_stubs.specs.Infos.{no_sid}
use Rattle.acct_stubs.specs.Arguments.{server_name}

-- ======== the object attributes with which the policy is opened (LSAPR_OBJECT_ATTRIBUTES, MS-LSAD 2.2.2.4)

abbrev pub is_null : Bool → Bool
is_null true = false
is_null false = true

-- Length, RootDirectory, ObjectName, Attributes, SecurityDescriptor and SecurityQualityOfService: whether there is a
-- root, and whether there
-- is a quality. The name and the descriptor are null. Neither the length nor the attributes are looked at; they are
-- written as 24 and 0.
abbrev pub attributes_head : Codec (Bool × Bool)
attributes_head =
    ignored 24 u32
    (chain pointer
    (λ root. ignored false (pointer_such is_null) (ignored 0 u32 (ignored false (pointer_such is_null) pointer))))

-- Length, ImpersonationLevel, ContextTrackingMode and EffectiveOnly (SECURITY_QUALITY_OF_SERVICE, MS-LSAD 2.2.3), which
-- aren't looked at.
unfoldable pub quality : Codec (Unit {0})
quality = ignored 0 u32 (ignored 0 u16 (ignored 0 u8 (ignored 0 u8 (given tt))))

-- the byte that a root refers to, as it is written
abbrev pub root_byte : Bool → Option ℕ
root_byte true = Some 0
root_byte false = None

-- what the pointers refer to, of which nothing is looked at
abbrev pub attributes_tail : Bool × Bool → Codec Bool
attributes_tail x = ignored (root_byte x.0) (when_there x.0 u8) (ignored None (when_there x.1 quality) (given x.0))

-- Whether they name a root. They are written without a quality.
unfoldable pub object_attributes : Codec Bool
object_attributes = led_by (λ rooted. (rooted, false)) attributes_head attributes_tail

-- ======== what stands after the handle in the calls that this interface has alone: the fields of each layout, as they
-- stand in the IDL, and the arguments that they make

-- ---- what is written for arguments: their parts, in the fields' order

abbrev pub opening_in : Args → Bool × ℕ
opening_in (args.Policy rooted access) = (rooted, access)
opening_in _ = (false, 0)

abbrev pub account_in : Args → SidValue × ℕ
account_in (args.AccessSid access s) = (s, access)
account_in _ = (no_sid, 0)

abbrev pub added_in : Args → List Privilege
added_in (args.Privileges all (Some privileges)) = privileges
added_in _ = []

abbrev pub removed_in : Args → Bool × Option (List Privilege)
removed_in (args.Privileges all privileges) = (all, privileges)
removed_in _ = (false, None)

abbrev pub bits_in : Args → ℕ
bits_in (args.Bits bits) = bits
bits_in _ = 0

abbrev pub luid_in : Args → ℕ × ℕ
luid_in (args.Luid low high) = (low, high)
luid_in _ = (0, 0)

abbrev pub right_in : Args → Option (List ℕ)
right_in (args.OneName name) = name
right_in _ = None

abbrev pub rights_in : Args → SidValue × List (List ℕ)
rights_in (args.Rights s all names) = (s, names)
rights_in _ = (no_sid, [])

abbrev pub all_rights_in : Args → SidValue × (Bool × List (List ℕ))
all_rights_in (args.Rights s all names) = (s, (all, names))
all_rights_in _ = (no_sid, (false, []))

abbrev pub names_in : Args → List (List ℕ) × ℕ
names_in (args.LookNames level names) = (names, level)
names_in _ = ([], 0)

abbrev pub sids_in : Args → List SidValue × ℕ
sids_in (args.LookSids level sids) = (sids, level)
sids_in _ = ([], 0)

-- ---- the layouts

unfoldable pub connect_args : Connect → Codec Args
-- LsarOpenPolicy2: SystemName, ObjectAttributes, DesiredAccess
connect_args connect.OpenPolicy2 =
    ignored tt server_name (made (λ (rooted, access). args.Policy rooted access) opening_in
    (chain object_attributes (λ _. u32)))
connect_args _ = unspelled

abbrev pub flag_number : Bool → ℕ
flag_number true = 1
flag_number false = 0

-- a small that is true where it isn't 0
unfoldable pub flag : Codec Bool
flag = made is_there flag_number u8

unfoldable pub policy_args : PolicyFields → Codec Args
-- AccountSid, DesiredAccess
policy_args policy.Account = made (λ (s, access). args.AccessSid access s) account_in (chain sid (λ _. u32))
-- Privileges
policy_args policy.AddPrivileges = made (λ privileges. args.Privileges false (Some privileges)) added_in privilege_set
-- AllPrivileges, Privileges
policy_args policy.RemovePrivileges =
    made (λ (all, privileges). args.Privileges all privileges) removed_in (chain flag (λ _. privilege_set_pointer))
-- SystemAccess
policy_args policy.SystemAccess = made args.Bits bits_in u32
-- Value
policy_args policy.Luid = made (λ (low, high). args.Luid low high) luid_in (chain u32 (λ _. u32))
-- UserRight
policy_args policy.Right = made args.OneName right_in text_pointer
-- AccountSid, UserRights
policy_args policy.AddRights =
    made (λ (s, names). args.Rights s false names) rights_in (chain sid (λ _. text_list most_rights))
-- AccountSid, AllRights, UserRights
policy_args policy.RemoveRights =
    made (λ (s, (all, names)). args.Rights s all names) all_rights_in
    (chain sid (λ _. chain flag (λ _. text_list most_rights)))

-- A count of at most so many, and a conformant array: the same count, and so many.
unfoldable pub counted : {S A : Type 0} → ℕ → Part S A → Codec (List A)
counted most p =
    led_by length (u32_such (λ count. nat_le count most))
    (λ count. ignored count (u32_such (λ maximum. maximum == count)) (whole (array count p)))

-- LookupLevel and MappedCount, which isn't kept
abbrev pub level_asked : Codec ℕ
level_asked = followed 0 u32 u16

-- LookupLevel, and three that aren't kept: MappedCount, LookupOptions, written as 0, and ClientRevision, written as 2
abbrev pub later_level_asked : Codec ℕ
later_level_asked = followed 2 u32 (followed 0 u32 level_asked)

-- Count and Names, room for the answers, of which nothing is kept, and the level
abbrev pub names_asked : {A : Type 0} → Codec (List A) → Codec ℕ → Codec Args
names_asked room level =
    made (λ (names, n). args.LookNames n names) names_in
    (chain (counted most_translated_names text) (λ _. ignored [] room level))

-- SidEnumBuffer, room for the answers, of which nothing is kept, and the level
abbrev pub sids_asked : {A : Type 0} → Codec (List A) → Codec ℕ → Codec Args
sids_asked room level =
    made (λ (sids, n). args.LookSids n sids) sids_in
    (chain (sid_list most_translated_sids) (λ _. ignored [] room level))

unfoldable pub translation_args : Translation → Codec Args
translation_args translation.Names = names_asked (translated_sids most_translated_names) level_asked
translation_args translation.Sids = sids_asked (translated_names most_translated_sids) level_asked
translation_args translation.Names2 = names_asked (flagged_sids most_translated_names) later_level_asked
translation_args translation.Sids2 = sids_asked (flagged_names most_translated_sids) later_level_asked
translation_args translation.Names3 = names_asked (sid_refs most_translated_names) later_level_asked

-- after the handle, if the operation takes one
unfoldable pub own_fields : Fields → Codec Args
own_fields (fields.Connect c) = connect_args c
own_fields (fields.Policy p) = policy_args p
own_fields (fields.Translation t) = translation_args t
own_fields _ = unspelled
