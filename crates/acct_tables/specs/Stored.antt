-- What a pair says: the row that it spells exactly, read from left to right. A field is a value and the bytes after it.
use Rattle.std.specs.Prelude.{◌≡◌, ℕ, ◌+◌, ◌*◌, ◌^◌, ◌==◌, Bool, true, ◌&&◌, List, length, drop, Option, Some, None}
use Rattle.std.specs.Prelude.{nat_le, option_map, slice_index, if◌then◌else◌, All, ◌<◌}
use Rattle.std.specs.Str.{bytes_eq}
use Rattle.std.specs.Result.{result_ok}
use Rattle.std.specs.Int.{w16, w32, w64, from_le_bytes, from_be_bytes}
use Rattle.acct_base.specs.Reading.{Reader, ◌>>=◌, is_end, front_at, many}
use Rattle.acct_codes.specs.declared.kind.Kind.{Kind}
use Rattle.acct_codes.specs.declared.kind.Kind.TheVariants.{Group, Alias, User}
use Rattle.dtyp_sid.specs.Sids.{sid_of_bytes, SidValue}
use Rattle.dtyp_access.specs.Reading.{descriptor_of_bytes}
use Rattle.dtyp_access.specs.Parts.{descriptor_bytes}
use Rattle.dtyp_access.specs.declared.ace.Ace.{Ace}
use Rattle.acct_keeper.specs.declared.pairs.Pair.{Pair}
use Rattle.acct_tables.specs.Spelled.{ascend, Fits, IsSpelled, pair_of}
use Rattle.acct_tables.specs.declared.object.Object.{Object}
use Rattle.acct_tables.specs.declared.object.Object.TheVariants as objects
use Rattle.acct_tables.specs.declared.row.Held.{Held}
use Rattle.acct_tables.specs.declared.row.Row.{Row}
use Rattle.acct_tables.specs.declared.row.Row.TheVariants as rows
use Rattle.acct_tables.specs.declared.row.RowKey.{RowKey}
use Rattle.acct_tables.specs.declared.row.RowKey.TheVariants as keys

abbrev pub only_if : {A : Type 0} → Bool → A → Option A
only_if test x = if test then Some x else None

unfoldable pub byte_at : Reader ℕ
byte_at bytes = do
  front ← front_at 1 bytes
  Some (slice_index front.0 0, front.1)

-- numbers of 16 and of 32 bits with the lowest byte first, and a RID with the highest first
unfoldable pub unit_at : Reader ℕ
unit_at bytes = do
  front ← front_at 2 bytes
  Some (from_le_bytes w16 front.0, front.1)

unfoldable pub number_at : Reader ℕ
number_at bytes = do
  front ← front_at 4 bytes
  Some (from_le_bytes w32 front.0, front.1)

unfoldable pub rid_at : Reader ℕ
rid_at bytes = do
  front ← front_at 4 bytes
  Some (from_be_bytes w32 front.0, front.1)

-- the number of a change, with the highest byte first
unfoldable pub count_at : Reader ℕ
count_at bytes = do
  front ← front_at 8 bytes
  Some (from_be_bytes w64 front.0, front.1)

unfoldable pub text_at : Reader (List ℕ)
text_at bytes = do
  count ← unit_at bytes
  many unit_at count.0 count.1

unfoldable pub sid_at : Reader SidValue
sid_at bytes = do
  sid ← result_ok (sid_of_bytes bytes)
  Some (sid, drop (8 + 4 * length sid.subs) bytes)

-- a SID that is all of the bytes
unfoldable pub whole_sid : List ℕ → Option SidValue
whole_sid bytes = do
  sid ← sid_at bytes
  only_if (is_end sid.1) sid.0

-- a domain's number, which is 0 or 1
unfoldable pub domain_number_at : Reader ℕ
domain_number_at bytes = do
  number ← byte_at bytes
  only_if (nat_le number.0 1) number

abbrev pub kind_of_byte : ℕ → Option Kind
kind_of_byte byte =
    if byte == 1 then Some User
    else (if byte == 2 then Some Group else (if byte == 4 then Some Alias else None))

unfoldable pub held_at : Reader Held
held_at bytes = do
  low ← byte_at bytes
  attributes ← number_at low.1
  Some (record { low = low.0; attributes = attributes.0 }, attributes.1)

-- the keys, by the letter that they begin with
unfoldable pub domain_key_of : List ℕ → Option RowKey
domain_key_of bytes = do
  number ← domain_number_at bytes
  only_if (is_end number.1) (keys.Domain number.0)

unfoldable pub account_key_of : List ℕ → Option RowKey
account_key_of bytes = do
  domain ← domain_number_at bytes
  rid ← rid_at domain.1
  only_if (is_end rid.1) (keys.Account domain.0 rid.0)

unfoldable pub member_key_of : List ℕ → Option RowKey
member_key_of bytes = do
  group ← rid_at bytes
  user ← rid_at group.1
  only_if (is_end user.1) (keys.Member group.0 user.0)

unfoldable pub alias_key_of : List ℕ → Option RowKey
alias_key_of bytes = do
  domain ← domain_number_at bytes
  alias ← rid_at domain.1
  member ← whole_sid alias.1
  Some (keys.Alias domain.0 alias.0 member)

unfoldable pub lsa_key_of : List ℕ → Option RowKey
lsa_key_of bytes = do
  sid ← whole_sid bytes
  Some (keys.Lsa sid)

-- an object, by the number of its kind
unfoldable pub domain_object : List ℕ → Option Object
domain_object bytes = do
  number ← domain_number_at bytes
  only_if (is_end number.1) (objects.Domain number.0)

-- a RID that is all of the bytes
unfoldable pub whole_rid : List ℕ → Option ℕ
whole_rid bytes = do
  rid ← rid_at bytes
  only_if (is_end rid.1) rid.0

unfoldable pub alias_object : List ℕ → Option Object
alias_object bytes = do
  domain ← domain_number_at bytes
  rid ← rid_at domain.1
  only_if (is_end rid.1) (objects.Alias domain.0 rid.0)

unfoldable pub object_of : ℕ → List ℕ → Option Object
object_of kind bytes =
    if kind == 0 then only_if (is_end bytes) objects.Server
    else (if kind == 1 then domain_object bytes
    else (if kind == 2 then option_map (λ rid. objects.Group rid) (whole_rid bytes)
    else (if kind == 3 then alias_object bytes
    else (if kind == 4 then option_map (λ rid. objects.User rid) (whole_rid bytes)
    else (if kind == 5 then only_if (is_end bytes) objects.Policy
    else (if kind == 6 then option_map (λ sid. objects.Account sid) (whole_sid bytes) else None))))))

unfoldable pub desc_key_of : List ℕ → Option RowKey
desc_key_of bytes = do
  kind ← byte_at bytes
  object ← object_of kind.0 kind.1
  Some (keys.Desc object)

unfoldable pub out_key_of : List ℕ → Option RowKey
out_key_of bytes = do
  number ← count_at bytes
  only_if (is_end number.1) (keys.Out number.0)

unfoldable pub lettered : ℕ → List ℕ → Option RowKey
lettered letter bytes =
    if letter == 0x61 then account_key_of bytes
    else (if letter == 0x64 then domain_key_of bytes
    else (if letter == 0x6C then alias_key_of bytes
    else (if letter == 0x6D then member_key_of bytes
    else (if letter == 0x6F then desc_key_of bytes
    else (if letter == 0x71 then out_key_of bytes
    else (if letter == 0x73 then lsa_key_of bytes else None))))))

unfoldable pub row_key : List ℕ → Option RowKey
row_key key = do
  letter ← byte_at key
  lettered letter.0 letter.1

-- the rows, by their keys and values
unfoldable pub domain_row_of : ℕ → List ℕ → Option Row
domain_row_of number value = do
  next_rid ← number_at value
  size ← byte_at next_rid.1
  sid ← sid_at size.1
  name ← text_at sid.1
  oem ← text_at name.1
  only_if ((size.0 == 8 + 4 * length sid.0.subs) && is_end oem.1) (rows.Domain (record {
    number = number;
    sid = sid.0;
    name = name.0;
    oem = oem.0;
    next_rid = next_rid.0;
  }))

unfoldable pub account_row_of : ℕ → ℕ → List ℕ → Option Row
account_row_of domain rid value = do
  byte ← byte_at value
  kind ← kind_of_byte byte.0
  bits ← number_at byte.1
  primary ← number_at bits.1
  name ← text_at primary.1
  full_name ← text_at name.1
  comment ← text_at full_name.1
  only_if (is_end comment.1) (rows.Account (record {
    domain = domain;
    rid = rid;
    kind = kind;
    name = name.0;
    full_name = full_name.0;
    comment = comment.0;
    bits = bits.0;
    primary = primary.0;
  }))

unfoldable pub member_of : ℕ → ℕ → List ℕ → Option Row
member_of group user value = do
  attributes ← number_at value
  only_if (is_end attributes.1) (rows.Member (record { group = group; user = user; attributes = attributes.0 }))

unfoldable pub alias_row_of : ℕ → ℕ → SidValue → List ℕ → Option Row
alias_row_of domain alias member value =
    only_if (is_end value) (rows.Alias (record { domain = domain; alias = alias; member = member }))

unfoldable pub lsa_of : SidValue → List ℕ → Option Row
lsa_of sid value = do
  access ← number_at value
  count ← byte_at access.1
  privileges ← many held_at count.0 count.1
  only_if (is_end privileges.1 && ascend privileges.0)
      (rows.Lsa (record { sid = sid; access = access.0; privileges = privileges.0 }))

-- a list has no more entries than are written (MS-DTYP 2.4.5: its size is a number of 16 bits)
abbrev pub has_few : Option (List Ace) → Bool
has_few None = true
has_few (Some aces) = nat_le (length aces) 800

-- a descriptor, of which only the bytes that are written spell it
unfoldable pub desc_of : Object → List ℕ → Option Row
desc_of object value = do
  descriptor ← result_ok (descriptor_of_bytes value)
  only_if (has_few descriptor.acl && bytes_eq (descriptor_bytes descriptor) value)
      (rows.Desc (record { object = object; descriptor = descriptor }))

unfoldable pub out_of : ℕ → List ℕ → Option Row
out_of number value = do
  action ← byte_at value
  domain ← domain_number_at action.1
  rid ← number_at domain.1
  byte ← byte_at rid.1
  kind ← kind_of_byte byte.0
  name ← text_at byte.1
  only_if (is_end name.1) (rows.Out (record {
    number = number;
    action = action.0;
    domain = domain.0;
    rid = rid.0;
    kind = kind;
    name = name.0;
  }))

unfoldable pub valued : RowKey → List ℕ → Option Row
valued (keys.Domain number) value = domain_row_of number value
valued (keys.Account domain rid) value = account_row_of domain rid value
valued (keys.Member group user) value = member_of group user value
valued (keys.Alias domain alias member) value = alias_row_of domain alias member value
valued (keys.Lsa sid) value = lsa_of sid value
valued (keys.Desc object) value = desc_of object value
valued (keys.Out number) value = out_of number value

-- the row that a pair spells exactly
unfoldable pub row_of : Pair → Option Row
row_of pair = do
  key ← row_key pair.key
  valued key pair.value

-- the next out number that a value spells, from 2 to 2^63
unfoldable pub next_out_of : List ℕ → Option ℕ
next_out_of value = do
  front ← front_at 8 value
  only_if (is_end front.1 && (nat_le 2 (from_le_bytes w64 front.0) && nat_le (from_le_bytes w64 front.0) (2 ^ 63)))
      (from_le_bytes w64 front.0)

-- keys and values are bytes
pub record AreBytes (pair : Pair) : Type 0 where
  pub key : All (λ byte. byte < 2 ^ 8) pair.key
  pub value : All (λ byte. byte < 2 ^ 8) pair.value

-- what is read of a pair is what it spells
abbrev pub ReadRowsAreSpelled : Type 0
ReadRowsAreSpelled = (pair : Pair) (row : Row) → AreBytes pair → row_of pair ≡ Some row → IsSpelled pair row

-- what a pair spells is read of it, so that no pair spells two rows
abbrev pub SpelledRowsAreRead : Type 0
SpelledRowsAreRead = (row : Row) → Fits row → row_of (pair_of row) ≡ Some row
