-- What stands in the stubs of calls: the fields of each layout that both interfaces have.
use Rattle.std.specs.Prelude.{◌≡◌, ℕ, List, length, Option, None, Result, Ok, Err, [], Some, ◌==◌, nat_le}
use Rattle.acct_codes.specs.Limits.{most_descriptor, most_searched, most_member_sids}
use Rattle.dtyp_sid.specs.Sids.{SidValue}
use Rattle.acct_calls.specs.declared.calls.Args.{Args}
use Rattle.acct_calls.specs.declared.calls.Args.TheVariants as args
use Rattle.acct_calls.specs.declared.calls.Face.{Face}
use Rattle.acct_calls.specs.declared.info.Info.{Info}
use Rattle.acct_calls.specs.declared.info.Info.TheVariants as info
use Rattle.acct_calls.specs.declared.replies.Outs.{Outs}
use Rattle.acct_calls.specs.declared.replies.Outs.TheVariants as outs
use Rattle.acct_calls.specs.declared.replies.Reply.{Reply}
use Rattle.ndr_core.specs.Codec.{Codec}
use Rattle.ndr_core.specs.Cursor.{Cursor, is_zero}
use Rattle.ndr_core.specs.Parts.{pointer_to, times, whole, Part, array, flat}
use Rattle.ndr_core.specs.Shapes.{conformant, led_by, made, u16, varying, chain, u32, given, ignored, u32_such}
use Rattle.ndr_core.specs.declared.error.NdrError.{NdrError}
use Rattle.acct_layouts.specs.declared.fields.Fields.{Fields}
use Rattle.acct_layouts.specs.declared.fields.Fields.TheVariants as fields
use Rattle.acct_layouts.specs.declared.fields.ScalarFields.{ScalarFields}
use Rattle.acct_layouts.specs.declared.fields.ScalarFields.TheVariants as plain
use Rattle.acct_layouts.specs.declared.fields.Search.{Search}
use Rattle.acct_layouts.specs.declared.fields.Search.TheVariants as search
use Rattle.acct_layouts.specs.declared.fields.SecurityFields.{SecurityFields}
use Rattle.acct_layouts.specs.declared.fields.SecurityFields.TheVariants as security
use Rattle.acct_layouts.specs.declared.outputs.Outputs.{Outputs}
use Rattle.ndr_types.specs.Listed.{descriptor, descriptor_pointer}
use Rattle.ndr_types.specs.Values.{sid_list, sid, text}
use Rattle.acct_stubs.specs.Infos.{class_set, no_sid}

-- ======== what the stubs of an interface are beside those of both: the codecs of the layouts that it has alone

-- An interface, what stands after the handle in its calls, and its whole replies. Of a layout that it doesn't have
-- nothing is spelled.
pub record Wire : Type 1 where
  pub face : Face
  pub fields : Fields → Codec Args
  pub replies : Outputs → Codec Reply

-- ======== the name of the server, with which the openings of the server and of the policy begin

-- A string: a maximum count, an offset of 0, an actual count of at most the maximum, and so many units.
abbrev pub string : Codec (List ℕ)
string = led_by length conformant (λ maximum. led_by length (varying maximum) (λ actual. times actual u16))

abbrev pub no_name : Option (List ℕ) → Unit {0}
no_name name = tt

-- ServerName (PSAMPR_SERVER_NAME, MS-SAMR 2.2.3.1): a unique pointer to a string, which isn't looked at. It is written
-- as null.
unfoldable pub server_name : Codec (Unit {0})
server_name = made no_name (λ u. None) (whole (pointer_to string))

-- ReadsPast, of the family of Reads: of the value nothing is kept but the cursor after it; refusal as of Reads, and
-- memory never runs out.
abbrev pub ReadsPast : {A : Type 0} → Result (Unit {0}) NdrError → Cursor → Result (A × Cursor) NdrError → Type 0
ReadsPast {A = A} (Ok u) after read = (x : A) × (read ≡ Ok (x, after))
ReadsPast (Err e) after read = read ≡ Err e

-- ======== how an object's security descriptor stands in the stubs that ask for it and that set it:
-- SamrQuerySecurityObject (MS-SAMR 3.1.5.12.2) and LsarQuerySecurityObject (MS-LSAD 3.1.4.9.1), SamrSetSecurityObject
-- (MS-SAMR 3.1.5.12.1) and LsarSetSecurityObject (MS-LSAD 3.1.4.9.2)

-- ---- what is written for arguments and outputs: their parts, in the fields' order

abbrev pub bits_in : Args → ℕ
bits_in (args.Bits info) = info
bits_in _ = 0

abbrev pub security_in : Args → ℕ × List ℕ
security_in (args.Security info bytes) = (info, bytes)
security_in _ = (0, [])

abbrev pub security_out : Outs → Option (List ℕ)
security_out (outs.Security bytes) = bytes
security_out _ = None

-- ---- the layouts

unfoldable pub security_args : SecurityFields → Codec Args
-- SecurityInformation
security_args security.Query = made args.Bits bits_in u32
-- SecurityInformation, SecurityDescriptor
security_args security.Set =
    made (λ (info, bytes). args.Security info bytes) security_in (chain u32 (λ _. descriptor most_descriptor))

-- SecurityDescriptor
unfoldable pub security_outs : Codec Outs
security_outs = made outs.Security security_out descriptor_pointer

-- ======== what stands after the handle in the stubs of calls: the fields of each layout that both interfaces have, as
-- they stand in the IDL, and the arguments that they make

-- ---- what is written for arguments: their parts, in the fields' order

abbrev pub rid_in : Args → ℕ
rid_in (args.Rid rid) = rid
rid_in _ = 0

abbrev pub rid_bits_in : Args → ℕ × ℕ
rid_bits_in (args.RidBits rid bits) = (rid, bits)
rid_bits_in _ = (0, 0)

abbrev pub sid_in : Args → SidValue
sid_in (args.OneSid s) = s
sid_in _ = no_sid

abbrev pub name_in : Args → List ℕ
name_in (args.OneName (Some name)) = name
name_in _ = []

abbrev pub access_sid_in : Args → ℕ × SidValue
access_sid_in (args.AccessSid access s) = (access, s)
access_sid_in _ = (0, no_sid)

abbrev pub access_rid_in : Args → ℕ × ℕ
access_rid_in (args.AccessRid access rid) = (access, rid)
access_rid_in _ = (0, 0)

abbrev pub page_in : Args → ℕ × ℕ
page_in (args.Page context filter preferred) = (context, preferred)
page_in _ = (0, 0)

abbrev pub filtered_page_in : Args → ℕ × (ℕ × ℕ)
filtered_page_in (args.Page context filter preferred) = (context, (filter, preferred))
filtered_page_in _ = (0, (0, 0))

abbrev pub display_in : Args → ℕ × (ℕ × (ℕ × ℕ))
display_in (args.Display class index count preferred) = (class, (index, (count, preferred)))
display_in _ = (0, (0, (0, 0)))

abbrev pub sids_in : Args → List SidValue
sids_in (args.SidList sids) = sids
sids_in _ = []

abbrev pub names_in : Args → List (List ℕ)
names_in (args.NameList names) = names
names_in _ = []

abbrev pub rids_in : Args → List ℕ
rids_in (args.RidList rids) = rids
rids_in _ = []

abbrev pub class_in : Args → ℕ
class_in (args.Class class) = class
class_in _ = 0

abbrev pub put_in : Args → ℕ × Info
put_in (args.Put class value) = (class, value)
put_in _ = (0, info.Unserved)

-- ---- the layouts

unfoldable pub plain_args : ScalarFields → Codec Args
plain_args plain.Nothing = given args.Nothing
-- a relative identifier
plain_args plain.Rid = made args.Rid rid_in u32
-- MemberId, Attributes
plain_args plain.Member = made (λ (rid, bits). args.RidBits rid bits) rid_bits_in (chain u32 (λ _. u32))
-- MemberId
plain_args plain.Sid = made args.OneSid sid_in sid
-- Name
plain_args plain.Name = made (λ name. args.OneName (Some name)) name_in (whole text)
-- DesiredAccess, DomainId
plain_args plain.OpenDomain = made (λ (access, s). args.AccessSid access s) access_sid_in (chain u32 (λ _. sid))
-- DesiredAccess, and GroupId, AliasId or UserId
plain_args plain.OpenAccount = made (λ (access, rid). args.AccessRid access rid) access_rid_in (chain u32 (λ _. u32))

-- A count of at most 1,000, and a conformant varying array: a maximum count, which is at least the count and is written
-- as 1,000 (the size in the IDL), an offset of 0, the count again, and so many.
unfoldable pub sought : {S A : Type 0} → Part S A → Codec (List A)
sought p =
    led_by length (u32_such (λ count. nat_le count most_searched))
    (λ count. ignored most_searched (u32_such (λ maximum. nat_le count maximum))
    (ignored 0 (u32_such is_zero) (ignored count (u32_such (λ actual. actual == count)) (whole (array count p)))))

unfoldable pub searched : Search → Codec Args
-- EnumerationContext, PreferedMaximumLength
searched search.Page = made (λ (context, preferred). args.Page context 0 preferred) page_in (chain u32 (λ _. u32))
-- EnumerationContext, UserAccountControl, PreferedMaximumLength
searched search.FilteredPage =
    made (λ (context, (filter, preferred)). args.Page context filter preferred) filtered_page_in
    (chain u32 (λ _. chain u32 (λ _. u32)))
-- SidArray
searched search.Sids = made args.SidList sids_in (sid_list most_member_sids)
-- Count, Names
searched search.Names = made args.NameList names_in (sought text)
-- Count, RelativeIds
searched search.Rids = made args.RidList rids_in (sought (flat u32))
-- DisplayInformationClass, Index, EntryCount, PreferredMaximumLength
searched search.Display =
    made (λ (class, (index, (count, preferred))). args.Display class index count preferred) display_in
    (chain u16 (λ _. chain u32 (λ _. chain u32 (λ _. u32))))

-- after the handle, if the operation takes one
unfoldable pub arguments : Wire → Fields → Codec Args
arguments w (fields.Scalar p) = plain_args p
arguments w (fields.Search s) = searched s
arguments w (fields.Class s) = made args.Class class_in u16
arguments w (fields.Put s) = made (λ (class, value). args.Put class value) put_in (class_set s)
arguments w (fields.Security s) = security_args s
-- what the interface has alone
arguments w (fields.Connect c) = w.fields (fields.Connect c)
arguments w (fields.Creation c) = w.fields (fields.Creation c)
arguments w (fields.Policy p) = w.fields (fields.Policy p)
arguments w (fields.Translation t) = w.fields (fields.Translation t)
