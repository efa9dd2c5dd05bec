-- How rows are stored: each as one pair, with its key and its value in bytes. Numbers stand with the lowest byte first,
-- except those in keys, which stand with the highest first, so that keys ascend as they do.
use Rattle.std.specs.Prelude.{◌≡◌, ℕ, ◌^◌, ◌<◌, ◌≤◌, Bool, true, List, [], ◌∷◌, ◌++◌, length, All}
use Rattle.std.specs.Int.{w16, w32, w64, to_le_bytes, to_be_bytes}
use Rattle.std.specs.List.{flat_map}
use Rattle.acct_codes.specs.declared.kind.Kind.{Kind}
use Rattle.acct_codes.specs.declared.kind.Kind.TheVariants.{Group, Alias, User}
use Rattle.dtyp_sid.specs.Sids.{bytes_of, IsSid}
use Rattle.dtyp_access.specs.Parts.{IsDescriptor, descriptor_bytes}
use Rattle.acct_calls.specs.Names.{AreUnits}
use Rattle.acct_keeper.specs.declared.pairs.Pair.{Pair}
use Rattle.acct_tables.specs.Good.{is_account_kind, are_above}
use Rattle.acct_tables.specs.declared.row.DomainRow.{DomainRow}
use Rattle.acct_tables.specs.declared.row.AccountRow.{AccountRow}
use Rattle.acct_tables.specs.declared.row.MemberRow.{MemberRow}
use Rattle.acct_tables.specs.declared.row.AliasRow.{AliasRow}
use Rattle.acct_tables.specs.declared.object.Object.{Object}
use Rattle.acct_tables.specs.declared.object.Object.TheVariants as objects
use Rattle.acct_tables.specs.declared.row.LsaRow.{LsaRow}
use Rattle.acct_tables.specs.declared.row.DescRow.{DescRow}
use Rattle.acct_tables.specs.declared.row.OutRow.{OutRow}
use Rattle.acct_tables.specs.declared.row.Held.{Held}
use Rattle.acct_tables.specs.declared.row.Row.{Row}
use Rattle.acct_tables.specs.declared.row.Row.TheVariants as rows
use Rattle.acct_tables.specs.declared.row.RowKey.{RowKey}
use Rattle.acct_tables.specs.declared.row.RowKey.TheVariants as keys

-- a text: the count of its units, and the units
unfoldable pub text_bytes : List ℕ → List ℕ
text_bytes units = to_le_bytes w16 (length units) ++ flat_map (to_le_bytes w16) units

-- a RID in a key
unfoldable pub rid_bytes : ℕ → List ℕ
rid_bytes rid = to_be_bytes w32 rid

-- a number in a value
unfoldable pub number_bytes : ℕ → List ℕ
number_bytes number = to_le_bytes w32 number

-- the kind of an account
abbrev pub kind_byte : Kind → ℕ
kind_byte User = 1
kind_byte Group = 2
kind_byte Alias = 4
kind_byte _ = 0

-- a privilege by the low part of its LUID, with its attributes
unfoldable pub held_bytes : Held → List ℕ
held_bytes held = held.low ∷ number_bytes held.attributes

-- the number of a change in a key
unfoldable pub count_bytes : ℕ → List ℕ
count_bytes number = to_be_bytes w64 number

-- an object in a key: its kind, then its domain, its RID or its SID
abbrev pub object_bytes : Object → List ℕ
object_bytes objects.Server = 0 ∷ []
object_bytes (objects.Domain number) = 1 ∷ number ∷ []
object_bytes (objects.Group rid) = 2 ∷ rid_bytes rid
object_bytes (objects.Alias domain rid) = 3 ∷ domain ∷ rid_bytes rid
object_bytes (objects.User rid) = 4 ∷ rid_bytes rid
object_bytes objects.Policy = 5 ∷ []
object_bytes (objects.Account sid) = 6 ∷ bytes_of sid

-- the first byte of a key is a letter: d, a, m, l, s, o or q
abbrev pub stored_key : RowKey → List ℕ
stored_key (keys.Domain number) = 0x64 ∷ number ∷ []
stored_key (keys.Account domain rid) = 0x61 ∷ domain ∷ rid_bytes rid
stored_key (keys.Member group user) = 0x6D ∷ rid_bytes group ++ rid_bytes user
stored_key (keys.Alias domain alias member) = 0x6C ∷ domain ∷ rid_bytes alias ++ bytes_of member
stored_key (keys.Lsa sid) = 0x73 ∷ bytes_of sid
stored_key (keys.Desc object) = 0x6F ∷ object_bytes object
stored_key (keys.Out number) = 0x71 ∷ count_bytes number

unfoldable pub domain_value : DomainRow → List ℕ
domain_value d = number_bytes d.next_rid
    ++ length (bytes_of d.sid) ∷ bytes_of d.sid
    ++ text_bytes d.name ++ text_bytes d.oem

unfoldable pub account_value : AccountRow → List ℕ
account_value a = kind_byte a.kind ∷ number_bytes a.bits ++ number_bytes a.primary
    ++ text_bytes a.name ++ text_bytes a.full_name ++ text_bytes a.comment

unfoldable pub lsa_value : LsaRow → List ℕ
lsa_value l = number_bytes l.access ++ length l.privileges ∷ flat_map held_bytes l.privileges

unfoldable pub out_value : OutRow → List ℕ
out_value o = o.action ∷ o.domain ∷ number_bytes o.rid ++ kind_byte o.kind ∷ text_bytes o.name

abbrev pub stored_value : Row → List ℕ
stored_value (rows.Domain d) = domain_value d
stored_value (rows.Account a) = account_value a
stored_value (rows.Member m) = number_bytes m.attributes
stored_value (rows.Alias a) = []
stored_value (rows.Lsa l) = lsa_value l
stored_value (rows.Desc d) = descriptor_bytes d.descriptor
stored_value (rows.Out o) = out_value o

abbrev pub key_of : Row → RowKey
key_of (rows.Domain d) = keys.Domain d.number
key_of (rows.Account a) = keys.Account a.domain a.rid
key_of (rows.Member m) = keys.Member m.group m.user
key_of (rows.Alias a) = keys.Alias a.domain a.alias a.member
key_of (rows.Lsa l) = keys.Lsa l.sid
key_of (rows.Desc d) = keys.Desc d.object
key_of (rows.Out o) = keys.Out o.number

-- the pair that a row is stored as
abbrev pub pair_of : Row → Pair
pair_of row = record { key = stored_key (key_of row); value = stored_value row }

-- the pair that says which format the others have: the letter f, and format 2
abbrev pub format_key : List ℕ
format_key = 0x66 ∷ []

abbrev pub format_value : List ℕ
format_value = 2 ∷ []

abbrev pub format_pair : Pair
format_pair = record { key = format_key; value = format_value }

-- format 1 had no descriptors and no changes; it is read, and never written
abbrev pub old_format_value : List ℕ
old_format_value = 1 ∷ []

-- the pair of the next out number: the letter n, and the number
abbrev pub next_out_key : List ℕ
next_out_key = 0x6E ∷ []

unfoldable pub next_out_value : ℕ → List ℕ
next_out_value next = to_le_bytes w64 next

abbrev pub next_out_pair : ℕ → Pair
next_out_pair next = record { key = next_out_key; value = next_out_value next }

-- a text that has a spelling
pub record FitsText (units : List ℕ) : Type 0 where
  pub count : length units < 2 ^ 16
  pub units_fit : AreUnits units

-- the domains are 0 and 1
pub record FitsDomain (d : DomainRow) : Type 0 where
  pub number : d.number ≤ 1
  pub sid : IsSid d.sid
  pub name : FitsText d.name
  pub oem : FitsText d.oem
  pub next_rid : d.next_rid < 2 ^ 32

pub record FitsAccount (a : AccountRow) : Type 0 where
  pub domain : a.domain ≤ 1
  pub rid : a.rid < 2 ^ 32
  pub kind : is_account_kind a.kind ≡ true
  pub bits : a.bits < 2 ^ 32
  pub primary : a.primary < 2 ^ 32
  pub name : FitsText a.name
  pub full_name : FitsText a.full_name
  pub comment : FitsText a.comment

pub record FitsMember (m : MemberRow) : Type 0 where
  pub group : m.group < 2 ^ 32
  pub user : m.user < 2 ^ 32
  pub attributes : m.attributes < 2 ^ 32

pub record FitsAlias (a : AliasRow) : Type 0 where
  pub domain : a.domain ≤ 1
  pub alias : a.alias < 2 ^ 32
  pub member : IsSid a.member

pub record FitsHeld (held : Held) : Type 0 where
  pub low : held.low < 2 ^ 8
  pub attributes : held.attributes < 2 ^ 32

-- privileges stand by strictly ascending low part
abbrev pub ascend : List Held → Bool
ascend [] = true
ascend (held ∷ rest) = are_above held.low rest

pub record FitsLsa (l : LsaRow) : Type 0 where
  pub sid : IsSid l.sid
  pub access : l.access < 2 ^ 32
  pub count : length l.privileges < 2 ^ 8
  pub privileges : All FitsHeld l.privileges
  pub privileges_ascend : ascend l.privileges ≡ true

abbrev pub FitsObject : Object → Type 0
FitsObject (objects.Domain number) = number ≤ 1
FitsObject (objects.Group rid) = rid < 2 ^ 32
FitsObject (objects.Alias domain rid) = (domain ≤ 1) × (rid < 2 ^ 32)
FitsObject (objects.User rid) = rid < 2 ^ 32
FitsObject (objects.Account sid) = IsSid sid
FitsObject _ = Unit {0}

pub record FitsDesc (d : DescRow) : Type 0 where
  pub object : FitsObject d.object
  pub descriptor : IsDescriptor d.descriptor

pub record FitsOut (o : OutRow) : Type 0 where
  pub number : o.number < 2 ^ 64
  pub action : o.action < 2 ^ 8
  pub domain : o.domain ≤ 1
  pub rid : o.rid < 2 ^ 32
  pub kind : is_account_kind o.kind ≡ true
  pub name : FitsText o.name

-- a row that has a spelling: each of its numbers is as wide as its bytes
abbrev pub Fits : Row → Type 0
Fits (rows.Domain d) = FitsDomain d
Fits (rows.Account a) = FitsAccount a
Fits (rows.Member m) = FitsMember m
Fits (rows.Alias a) = FitsAlias a
Fits (rows.Lsa l) = FitsLsa l
Fits (rows.Desc d) = FitsDesc d
Fits (rows.Out o) = FitsOut o

-- the pair spells the row exactly
pub record IsSpelled (pair : Pair) (row : Row) : Type 0 where
  pub fits : Fits row
  pub spelled : pair ≡ pair_of row
