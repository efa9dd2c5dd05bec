-- What the fields of a security descriptor are.
use Rattle.std.specs.Prelude.{ℕ}

-- ======== the revisions, types and flags in a security descriptor and its list (MS-DTYP 2.4.4.1, 2.4.5, 2.4.6)

-- the revision of a descriptor (MS-DTYP 2.4.6)
abbrev pub security_descriptor_revision : ℕ
security_descriptor_revision = 1

-- the revision of an access control list (MS-DTYP 2.4.5)
abbrev pub acl_revision : ℕ
acl_revision = 2

-- an entry that allows (MS-DTYP 2.4.4.1)
abbrev pub access_allowed_ace_type : ℕ
access_allowed_ace_type = 0

-- an entry that denies (MS-DTYP 2.4.4.1)
abbrev pub access_denied_ace_type : ℕ
access_denied_ace_type = 1

-- an entry for what inherits the list alone, and not for the object itself (MS-DTYP 2.4.4.1)
abbrev pub inherit_only_ace : ℕ
inherit_only_ace = 0x08

-- ======== the control bits of a security descriptor that are read and written (MS-DTYP 2.4.6)

-- there is a discretionary list
abbrev pub se_dacl_present : ℕ
se_dacl_present = 0x0004

-- all parts stand in one block of bytes
abbrev pub se_self_relative : ℕ
se_self_relative = 0x8000

-- ======== the bits that name the parts of a security descriptor: SECURITY_INFORMATION (MS-DTYP 2.4.7)

-- the owner
abbrev pub owner_security_information : ℕ
owner_security_information = 0x0000_0001

-- the group
abbrev pub group_security_information : ℕ
group_security_information = 0x0000_0002

-- the discretionary list
abbrev pub dacl_security_information : ℕ
dacl_security_information = 0x0000_0004
