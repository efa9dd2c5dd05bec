-- What replies list: accounts, privileges by name, members of a group, and accounts as they are displayed; and security
-- descriptors.
use Rattle.std.specs.Prelude.{ℕ, Bool, Option, List, false, []}
use Rattle.acct_calls.specs.declared.lists.DisplayRow.{DisplayRow}
use Rattle.acct_calls.specs.declared.lists.RidBits.{RidBits}
use Rattle.acct_calls.specs.declared.lists.RidName.{RidName}
use Rattle.ndr_core.specs.Codec.{Codec}
use Rattle.ndr_core.specs.Cursor.{is_zero}
use Rattle.ndr_core.specs.Parts.{Part, whole, join, flat, part_of, pointer_to, list_of}
use Rattle.ndr_core.specs.Shapes.{u32, u32_such, chain, made, given, u8}
use Rattle.acct_layouts.specs.declared.classes.DisplayArm.{DisplayArm}
use Rattle.acct_layouts.specs.declared.classes.DisplayArm.TheVariants as display
use Rattle.ndr_types.specs.Values.{text}

-- ======== a list of accounts: a pointer to SAMPR_ENUMERATION_BUFFER (MS-SAMR 2.2.3.10)

-- a count of any size
abbrev pub any : ℕ
any = 0xFFFFFFFF

abbrev pub rid_name_of : ℕ × List ℕ → RidName
rid_name_of x = record { rid = x.0; name = x.1 }

abbrev pub parts_of_rid_name : RidName → ℕ × List ℕ
parts_of_rid_name r = (r.rid, r.name)

-- A relative identifier and a text (SAMPR_RID_ENUMERATION, MS-SAMR 2.2.3.9).
unfoldable pub rid_name : Part (ℕ × (ℕ × Bool)) RidName
rid_name = part_of rid_name_of parts_of_rid_name (join (flat u32) text)

-- A pointer, null or to a list of these.
unfoldable pub rid_names : Codec (Option (List RidName))
rid_names = whole (pointer_to (list_of any rid_name))

-- ======== the privileges that there are: LSAPR_PRIVILEGE_ENUM_BUFFER (MS-LSAD 2.2.8.2), a list of names and LUIDs

abbrev pub low_of : ℕ × ℕ → ℕ
low_of luid = luid.0

abbrev pub with_no_high : ℕ → ℕ × ℕ
with_no_high low = (low, 0)

-- A LUID whose high part is 0, by its low part (MS-DTYP 2.3.7).
unfoldable pub low_part : Codec ℕ
low_part = made low_of with_no_high (chain u32 (λ _. u32_such is_zero))

abbrev pub privilege_name_of : List ℕ × ℕ → RidName
privilege_name_of x = record { rid = x.1; name = x.0 }

abbrev pub parts_of_privilege_name : RidName → List ℕ × ℕ
parts_of_privilege_name r = (r.name, r.rid)

-- A text and a LUID (LSAPR_POLICY_PRIVILEGE_DEF, MS-LSAD 2.2.8.1).
unfoldable pub privilege_name : Part ((ℕ × Bool) × ℕ) RidName
privilege_name = part_of privilege_name_of parts_of_privilege_name (join text (flat low_part))

unfoldable pub privilege_names : Codec (List RidName)
privilege_names = list_of any privilege_name

-- ======== a member or a group, with its attributes (GROUP_MEMBERSHIP, MS-SAMR 2.2.3.12)

abbrev pub rid_bits_of : ℕ × ℕ → RidBits
rid_bits_of x = record { rid = x.0; bits = x.1 }

abbrev pub parts_of_rid_bits : RidBits → ℕ × ℕ
parts_of_rid_bits r = (r.rid, r.bits)

-- A relative identifier and attributes.
unfoldable pub membership : Codec RidBits
membership = made rid_bits_of parts_of_rid_bits (chain u32 (λ _. u32))

unfoldable pub rid_bits : Part RidBits RidBits
rid_bits = flat membership

-- ======== the accounts of a domain as they are displayed: the arms of SAMPR_DISPLAY_INFO_BUFFER that are served
-- (MS-SAMR 2.2.8.13)

-- The full name of a user. A group has none.
abbrev pub no_full_name : Part (ℕ × Bool) (List ℕ)
no_full_name = record { head = given (0, false); tail = λ s. given []; head_of = λ units. (0, false) }

abbrev pub full_name_of : DisplayArm → Part (ℕ × Bool) (List ℕ)
full_name_of display.User = text
full_name_of display.Group = no_full_name

abbrev pub RowParts : Type 0
RowParts = ℕ × (ℕ × (ℕ × (List ℕ × (List ℕ × List ℕ))))

abbrev pub row_of : RowParts → DisplayRow
row_of x = record {
  index = x.0;
  rid = x.1.0;
  bits = x.1.1.0;
  name = x.1.1.1.0;
  comment = x.1.1.1.1.0;
  full_name = x.1.1.1.1.1;
}

abbrev pub parts_of_row : DisplayRow → RowParts
parts_of_row r = (r.index, (r.rid, (r.bits, (r.name, (r.comment, r.full_name)))))

-- the heads of the three texts
abbrev pub TextHeads : Type 0
TextHeads = (ℕ × Bool) × ((ℕ × Bool) × (ℕ × Bool))

-- Index, Rid, AccountControl or Attributes, AccountName, AdminComment, and of a user FullName
-- (SAMPR_DOMAIN_DISPLAY_USER, MS-SAMR 2.2.8.2; SAMPR_DOMAIN_DISPLAY_GROUP, MS-SAMR 2.2.8.4).
unfoldable pub display_row : DisplayArm → Part (ℕ × (ℕ × (ℕ × TextHeads))) DisplayRow
display_row arm =
    part_of row_of parts_of_row
    (join (flat u32) (join (flat u32) (join (flat u32) (join text (join text (full_name_of arm))))))

-- SAMPR_DOMAIN_DISPLAY_USER_BUFFER (MS-SAMR 2.2.8.7), SAMPR_DOMAIN_DISPLAY_GROUP_BUFFER (MS-SAMR 2.2.8.9)
unfoldable pub display_rows : DisplayArm → Codec (List DisplayRow)
display_rows arm = list_of any (display_row arm)

-- ======== a security descriptor in a stub, by its bytes: SAMPR_SR_SECURITY_DESCRIPTOR (MS-SAMR 2.2.3.11), which is
-- LSAPR_SR_SECURITY_DESCRIPTOR (MS-LSAD 2.2.2.5) as well

-- Length, which is at most so much, and a pointer to so many bytes
unfoldable pub descriptor : ℕ → Codec (List ℕ)
descriptor most = list_of most (flat u8)

-- A pointer, null or to a descriptor.
unfoldable pub descriptor_pointer : Codec (Option (List ℕ))
descriptor_pointer = whole (pointer_to (descriptor any))
