-- The values that most calls bring: handles, SIDs, texts, sets of privileges, and pointers to them and lists.
use Rattle.std.specs.Prelude.{ℕ, ◌+◌, ◌*◌, ◌/◌, ◌%◌, Bool, List, length, ◌==◌, ◌&&◌, nat_le, true, false, [], ◌||◌, ◌≤◌}
use Rattle.std.specs.Prelude.{Option}
use Rattle.acct_codes.specs.Limits.{most_privileges}
use Rattle.dtyp_sid.specs.Sids.{SidValue, sid_max_sub_authorities, sid_revision}
use Rattle.acct_calls.specs.declared.handle.Handle.{Handle}
use Rattle.acct_calls.specs.declared.lists.Privilege.{Privilege}
use Rattle.ndr_core.specs.Codec.{Codec}
use Rattle.ndr_core.specs.Parts.{Part, times, there, is_there_list, whole, pointer_to, flat, list_of}
use Rattle.ndr_core.specs.Shapes.{u8, u16, made, led_by, u32, ignored, u8_such, conformant, chain, u16_such, such}
use Rattle.ndr_core.specs.Shapes.{pointer_such, varying, given, u32_such}

-- ======== numbers that stand in a stub in several fields, the highest first

-- a number, and after it its next eight bits
abbrev pub then_small : Codec ℕ → Codec ℕ
then_small high = led_by (λ n. n / 0x100) high (λ h. made (λ low. h * 0x100 + low) (λ n. n % 0x100) u8)

-- a number, and after it its next sixteen bits
abbrev pub then_short : Codec ℕ → Codec ℕ
then_short high = led_by (λ n. n / 0x10000) high (λ h. made (λ low. h * 0x10000 + low) (λ n. n % 0x10000) u16)

-- ======== a context handle: ndr_context_handle (C706, appendix N; SAMPR_HANDLE of MS-SAMR 2.2.3.2, LSAPR_HANDLE of
-- MS-LSAD 2.2.2.1)

-- A UUID as the number that its text spells: a long, two shorts and eight smalls, the highest first (C706, appendix A).
unfoldable pub uuid : Codec ℕ
uuid = then_small (then_small
    (then_small (then_small (then_small (then_small (then_small (then_small (then_short (then_short u32)))))))))

abbrev pub handle_of : ℕ → Handle
handle_of n = record { number = n }

-- Attributes, which aren't looked at and are written as 0, and a UUID.
unfoldable pub handle : Codec Handle
handle = ignored 0 u32 (made handle_of (λ h. h.number) uuid)

-- ======== a SID: RPC_SID (MS-DTYP 2.4.2.3), a structure that ends with a conformant array, whose maximum count stands
-- before it (C706 14.3.7.1)

-- An identifier authority: six bytes, the highest first (MS-DTYP 2.4.1.1).
unfoldable pub authority : Codec ℕ
authority = then_small (then_small (then_small (then_small (then_small u8))))

abbrev pub sid_of : ℕ × List ℕ → SidValue
sid_of x = record { authority = x.0; subs = x.1 }

abbrev pub parts_of_sid : SidValue → ℕ × List ℕ
parts_of_sid sid = (sid.authority, sid.subs)

abbrev pub is_revision : ℕ → Bool
is_revision n = n == sid_revision

-- A maximum count, the revision, the same count of at most fifteen, the authority, and so many sub-authorities.
unfoldable pub sid : Codec SidValue
sid = led_by (λ s. length s.subs) conformant
    (λ n. ignored sid_revision (u8_such is_revision)
    (ignored n (u8_such (λ count. (count == n) && nat_le count sid_max_sub_authorities))
    (made sid_of parts_of_sid (chain authority (λ _. times n u32)))))

-- A pointer to a SID, which isn't null.
unfoldable pub sid_pointer : Part Bool SidValue
sid_pointer = there sid

-- ======== a text: RPC_UNICODE_STRING (MS-DTYP 2.3.10), a structure with a pointer to a conformant varying array of
-- units (C706 14.3.3.4)

abbrev pub is_even : ℕ → Bool
is_even n = n % 2 == 0

-- The length in bytes, which is even; a maximum length, which isn't looked at and is written as the length; and a
-- pointer. The text that is null has no length.
abbrev pub text_head : Codec (ℕ × Bool)
text_head = chain (u16_such is_even) (λ n. ignored n u16 (pointer_such (λ there. there || (n == 0))))

-- A maximum count, an offset of 0, an actual count that is both at most the maximum and half the length, and so many
-- units.
abbrev pub units : ℕ → Codec (List ℕ)
units n = led_by length conformant
    (λ maximum. ignored n (such 4 (λ actual. actual == n) (varying maximum)) (times n u16))

abbrev pub text_tail : ℕ × Bool → Codec (List ℕ)
text_tail (n, true) = units (n / 2)
text_tail (n, false) = given []

-- The empty text is written as null. One that is read may be empty and there.
unfoldable pub text : Part (ℕ × Bool) (List ℕ)
text = record { head = text_head; tail = text_tail; head_of = λ us. (2 * length us, is_there_list us) }

-- ======== a set of privileges: LSAPR_PRIVILEGE_SET (MS-LSAD 2.2.5.5), a structure that ends with a conformant array
-- (C706 14.3.7.1)

abbrev pub privilege_of : ℕ × (ℕ × ℕ) → Privilege
privilege_of x = record { low = x.0; high = x.1.0; attributes = x.1.1 }

abbrev pub parts_of_privilege : Privilege → ℕ × (ℕ × ℕ)
parts_of_privilege p = (p.low, (p.high, p.attributes))

-- A LUID, the low part first, and attributes (LSAPR_LUID_AND_ATTRIBUTES, MS-LSAD 2.2.5.4).
unfoldable pub privilege : Codec Privilege
privilege = made privilege_of parts_of_privilege (chain u32 (λ _. chain u32 (λ _. u32)))

-- A maximum count, the same count of at most 1,000, a control word, which isn't looked at and is written as 0, and so
-- many privileges.
unfoldable pub privilege_set : Codec (List Privilege)
privilege_set = led_by length conformant
    (λ n. ignored n (u32_such (λ count. (count == n) && nat_le count most_privileges))
    (ignored 0 u32 (times n privilege)))

-- ======== pointers to a text and to a set of privileges, which may be null

-- A pointer, null or to a text (PRPC_UNICODE_STRING, MS-DTYP 2.3.10).
unfoldable pub text_pointer : Codec (Option (List ℕ))
text_pointer = whole (pointer_to (whole text))

-- A pointer, null or to a set of privileges (PLSAPR_PRIVILEGE_SET, MS-LSAD 2.2.5.5).
unfoldable pub privilege_set_pointer : Codec (Option (List Privilege))
privilege_set_pointer = whole (pointer_to privilege_set)

-- A set of privileges has at most 1,000.
abbrev pub IsFew : List Privilege → Type 0
IsFew privileges = length privileges ≤ most_privileges

-- ======== the lists of SIDs, numbers and texts: a count, a pointer to an array, and the array, which begins with the
-- same count (C706 14.3.3.2)
-- The referents of the array's elements stand after all of them (C706 14.3.12.3).

-- SAMPR_PSID_ARRAY (MS-SAMR 2.2.3.6), with no null element
abbrev pub sid_list : ℕ → Codec (List SidValue)
sid_list most = list_of most sid_pointer

-- SAMPR_ULONG_ARRAY (MS-SAMR 2.2.3.4)
abbrev pub rid_list : ℕ → Codec (List ℕ)
rid_list most = list_of most (flat u32)

-- SAMPR_RETURNED_USTRING_ARRAY (MS-SAMR 2.2.3.8)
abbrev pub text_list : ℕ → Codec (List (List ℕ))
text_list most = list_of most text
