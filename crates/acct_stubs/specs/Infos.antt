-- How information, members and displayed accounts stand in a stub.
use Rattle.std.specs.Prelude.{ℕ, Bool, true, false, ◌==◌, ◌||◌, Option, List, [], length, map, Some, None}
use Rattle.std.specs.List.{zip}
use Rattle.dtyp_sid.specs.Sids.{SidValue}
use Rattle.acct_calls.specs.declared.info.Info.{Info}
use Rattle.acct_calls.specs.declared.info.Info.TheVariants as info
use Rattle.acct_calls.specs.declared.lists.DisplayRow.{DisplayRow}
use Rattle.acct_calls.specs.declared.lists.RidBits.{RidBits}
use Rattle.ndr_core.specs.Codec.{Codec}
use Rattle.ndr_core.specs.Cursor.{is_zero}
use Rattle.ndr_core.specs.Parts.{Part, is_there_list, list, pointer_to, times, whole, flat, join}
use Rattle.ndr_core.specs.Shapes.{chain, given, ignored, made, pointer_such, u32, u32_such, padding4, u16, pointer}
use Rattle.ndr_core.specs.Shapes.{u16_such}
use Rattle.acct_layouts.specs.Values.{display_arm, set_arm, shown_arm}
use Rattle.acct_layouts.specs.declared.classes.Arm.{Arm}
use Rattle.acct_layouts.specs.declared.classes.Arm.TheVariants as arm
use Rattle.acct_layouts.specs.declared.classes.DisplayArm.{DisplayArm}
use Rattle.acct_layouts.specs.declared.classes.Subject.{Subject}
use Rattle.ndr_types.specs.Listed.{display_rows, rid_bits_of}
use Rattle.ndr_types.specs.Values.{sid, sid_pointer, text, text_tail, units}

-- ======== the members of a group, with their attributes: a pointer to SAMPR_GET_MEMBERS_BUFFER (MS-SAMR 2.2.3.14)

abbrev pub rid_of : RidBits → ℕ
rid_of r = r.rid

abbrev pub bits_of : RidBits → ℕ
bits_of r = r.bits

abbrev pub paired : List ℕ × List ℕ → List RidBits
paired x = map rid_bits_of (zip x.0 x.1)

abbrev pub parted : List RidBits → List ℕ × List ℕ
parted list = (map rid_of list, map bits_of list)

-- a pointer that is null only where there is nothing
abbrev pub pointer_for : ℕ → Codec Bool
pointer_for count = pointer_such (λ there. there || (count == 0))

-- so many numbers after the same count, where their pointer isn't null
abbrev pub numbers : ℕ → Bool → Codec (List ℕ)
numbers count true = ignored count (u32_such (λ maximum. maximum == count)) (times count u32)
numbers count false = given []

-- MemberCount, and pointers to Members and to Attributes
abbrev pub members_head : Codec (ℕ × (Bool × Bool))
members_head = chain u32 (λ count. chain (pointer_for count) (λ _. pointer_for count))

abbrev pub both_numbers : ℕ × (Bool × Bool) → Codec (List ℕ × List ℕ)
both_numbers head = chain (numbers head.0 head.1.0) (λ _. numbers head.0 head.1.1)

-- The two arrays stand after the structure, in the pointers' order. Where there is no member, both pointers are
-- written as null.
unfoldable pub members_buffer : Part (ℕ × (Bool × Bool)) (List RidBits)
members_buffer = record {
  head = members_head;
  tail = λ head. made paired parted (both_numbers head);
  head_of = λ list. (length list, (is_there_list list, is_there_list list));
}

-- A pointer, null or to this.
unfoldable pub members : Codec (Option (List RidBits))
members = whole (pointer_to (whole members_buffer))

-- ======== how the accounts of a domain that are displayed stand in a stub: SAMPR_DISPLAY_INFO_BUFFER (MS-SAMR
-- 2.2.8.13)

-- Of a class that isn't served, a number of entries and a pointer, both 0.
abbrev pub rows_of : Option DisplayArm → Codec (List DisplayRow)
rows_of None = ignored 0 (u32_such is_zero) (ignored 0 (u32_such is_zero) (given []))
rows_of (Some arm) = display_rows arm

-- The class, padding to 4, and the entries of the class.
unfoldable pub displayed : Codec (ℕ × List DisplayRow)
displayed = chain u16 (λ class. ignored tt padding4 (rows_of (display_arm class)))

-- ======== how the value of an information class stands in a stub (MS-SAMR 2.2.3 to 2.2.6, MS-LSAD 2.2.4)

abbrev pub no_sid : SidValue
no_sid = record { authority = 0; subs = [] }

-- ---- the values

abbrev pub number_in : Info → ℕ
number_in (info.Number n) = n
number_in _ = 0

abbrev pub text_in : Info → List ℕ
text_in (info.Text t) = t
text_in _ = []

abbrev pub two_texts_in : Info → List ℕ × List ℕ
two_texts_in (info.TwoTexts t u) = (t, u)
two_texts_in _ = ([], [])

abbrev pub group_in : Info → List ℕ × (ℕ × (ℕ × List ℕ))
group_in (info.Group name bits members comment) = (name, (bits, (members, comment)))
group_in _ = ([], (0, (0, [])))

abbrev pub alias_in : Info → List ℕ × (ℕ × List ℕ)
alias_in (info.Alias name members comment) = (name, (members, comment))
alias_in _ = ([], (0, []))

abbrev pub UserParts : Type 0
UserParts = List ℕ × (List ℕ × (ℕ × (List ℕ × Unit {0})))

abbrev pub user_in : Info → UserParts
user_in (info.User name full primary comment) = (name, (full, (primary, (comment, tt))))
user_in _ = ([], ([], (0, ([], tt))))

abbrev pub place_in : Info → List ℕ × SidValue
place_in (info.Place name sid) = (name, sid)
place_in _ = ([], no_sid)

-- A text that is empty: its length is 0, its maximum length isn't looked at and is written as 0. It is written as null,
-- and read may be there.
abbrev pub empty_head : Codec (ℕ × Bool)
empty_head = chain (u16_such is_zero) (λ n. ignored n u16 pointer)

abbrev pub nothing_of : List ℕ → Unit {0}
nothing_of units = tt

unfoldable pub empty_text : Part (ℕ × Bool) (Unit {0})
empty_text =
    record { head = empty_head; tail = λ s. made nothing_of (λ u. []) (text_tail s); head_of = λ u. (0, false) }

unfoldable pub value_of : Arm → Codec Info
value_of arm.Number = made info.Number number_in u32
value_of arm.Text = made info.Text text_in (whole text)
-- UserName, FullName (SAMPR_USER_NAME_INFORMATION)
value_of arm.TwoTexts = made (λ (name, full). info.TwoTexts name full) two_texts_in (whole (join text text))
-- Name, Attributes, MemberCount, AdminComment (SAMPR_GROUP_GENERAL_INFORMATION)
value_of arm.Group =
    made (λ (name, (bits, (members, comment))). info.Group name bits members comment) group_in
    (whole (join text (join (flat u32) (join (flat u32) text))))
-- Name, MemberCount, AdminComment (SAMPR_ALIAS_GENERAL_INFORMATION)
value_of arm.Alias = made (λ (name, (members, comment)). info.Alias name members comment) alias_in
    (whole (join text (join (flat u32) text)))
-- UserName, FullName, PrimaryGroupId, AdminComment, UserComment (SAMPR_USER_GENERAL_INFORMATION)
value_of arm.User =
    made (λ (name, (full, (primary, (comment, _)))). info.User name full primary comment) user_in
    (whole (join text (join text (join (flat u32) (join text empty_text)))))
-- DomainName, Sid, which isn't null (LSAPR_POLICY_PRIMARY_DOM_INFO, LSAPR_POLICY_ACCOUNT_DOM_INFO)
value_of arm.Place = made (λ (name, sid). info.Place name sid) place_in (whole (join text sid_pointer))

-- ---- what is set

abbrev pub set_value : ℕ → Option Arm → Codec Info
set_value class None = given info.Unserved
set_value class (Some a) = ignored class (u16_such (λ tag. tag == class)) (ignored tt padding4 (value_of a))

-- The class, and for one that can be set the union: its tag, which is the class, padding to 4, and the value. Of
-- another class no more is looked at, and no more is written.
unfoldable pub class_set : Subject → Codec (ℕ × Info)
class_set s = chain u16 (λ class. set_value class (set_arm s class))

-- ---- what is shown

abbrev pub is_named : Option Arm → Bool
is_named None = false
is_named (Some a) = true

abbrev pub named_value : Option Arm → Codec Info
named_value None = given info.Unserved
named_value (Some a) = ignored tt padding4 (value_of a)

abbrev pub shown_of : Option (ℕ × Info) → ℕ × Option Info
shown_of None = (0, None)
shown_of (Some x) = (x.0, Some x.1)

abbrev pub shown_parts : ℕ × Option Info → Option (ℕ × Info)
shown_parts (class, None) = None
shown_parts (class, Some value) = Some (class, value)

-- A pointer to the union: its tag, which is a class that is shown, padding to 4, and the value. Null stands for the
-- class 0 without a value.
unfoldable pub class_shown : Subject → Codec (ℕ × Option Info)
class_shown s =
    made shown_of shown_parts
    (whole (pointer_to
    (chain (u16_such (λ class. is_named (shown_arm s class))) (λ class. named_value (shown_arm s class)))))
