-- What the arguments of a call ask for.
use Rattle.std.specs.Prelude.{ℕ, Bool, false, is_some, List, [], length, Option, Some, None}
use Rattle.dtyp_sid.specs.Sids.{SidValue}
use Rattle.acct_calls.specs.declared.calls.Args.{Args}
use Rattle.acct_calls.specs.declared.calls.Args.TheVariants as args
use Rattle.acct_calls.specs.declared.info.Info.{Info}
use Rattle.acct_calls.specs.declared.info.Info.TheVariants as info
use Rattle.acct_rows.specs.Rows.{Lists, lsa_at}

-- the information class that is asked for, or set
abbrev pub class_of : Args → ℕ
class_of (args.Class class) = class
class_of (args.Put class value) = class
class_of (args.Display class index count preferred) = class
class_of _ = 0

-- the access that an opening asks for
abbrev pub desired_access : Args → ℕ
desired_access (args.Access access) = access
desired_access (args.AccessRid access rid) = access
desired_access (args.AccessSid access sid) = access
desired_access (args.Make name bits access) = access
desired_access (args.Policy rooted access) = access
desired_access _ = 0

-- the policy has an account of the SID whose rights are asked for
abbrev pub has_asked_account : Lists → Args → Bool
has_asked_account r (args.Rights sid all names) = is_some (lsa_at r sid)
has_asked_account r _ = false

-- the SID that is looked for or opened
abbrev pub asked_sid : Args → Option SidValue
asked_sid (args.AccessSid access sid) = Some sid
asked_sid (args.OneSid sid) = Some sid
asked_sid _ = None

-- the relative identifier that is looked for or opened; 0 where none is
abbrev pub asked_rid : Args → ℕ
asked_rid (args.AccessRid access rid) = rid
asked_rid (args.Rid rid) = rid
asked_rid _ = 0

-- the name that is looked for
abbrev pub asked_name : Args → Option (List ℕ)
asked_name (args.OneName name) = name
asked_name _ = None

-- the names that are looked for
abbrev pub asked_names : Args → List (List ℕ)
asked_names (args.NameList names) = names
asked_names _ = []

-- the relative identifiers that are looked for
abbrev pub asked_rids : Args → List ℕ
asked_rids (args.RidList rids) = rids
asked_rids _ = []

-- where an enumeration begins
abbrev pub asked_context : Args → ℕ
asked_context (args.Page context filter preferred) = context
asked_context _ = 0

-- the length that is preferred for a page of it, or of what is displayed
abbrev pub asked_length : Args → ℕ
asked_length (args.Page context filter preferred) = preferred
asked_length (args.Display class index count preferred) = preferred
asked_length _ = 0

-- the control bits of which an entry needs one; 0 where it needs none
abbrev pub asked_filter : Args → ℕ
asked_filter (args.Page context filter preferred) = filter
asked_filter _ = 0

-- how many entries of what is displayed are passed over
abbrev pub asked_index : Args → ℕ
asked_index (args.Display class index count preferred) = index
asked_index _ = 0

-- how many entries are asked for at most
abbrev pub asked_count : Args → ℕ
asked_count (args.Display class index count preferred) = count
asked_count _ = 0

-- ---- security descriptors

-- which parts of a descriptor are asked for, or set (SECURITY_INFORMATION, MS-DTYP 2.4.7)
abbrev pub named_info : Args → ℕ
named_info (args.Bits info) = info
named_info (args.Security info bytes) = info
named_info _ = 0

-- the bytes of the parts that are set
abbrev pub set_bytes : Args → List ℕ
set_bytes (args.Security info bytes) = bytes
set_bytes _ = []

-- ---- what a creation asks for

-- the name of the new account
abbrev pub made_name : Args → Option (List ℕ)
made_name (args.Make name bits access) = Some name
made_name _ = None

-- the control bits that it begins with; 0 where there are none
abbrev pub made_type : Args → ℕ
made_type (args.Make name bits access) = bits
made_type _ = 0

-- ---- what a set asks for

-- the text of an information class that is one text
abbrev pub text_of : Info → Option (List ℕ)
text_of (info.Text text) = Some text
text_of _ = None

-- the number of one that is one number; 0 where it is none
abbrev pub number_of : Info → ℕ
number_of (info.Number number) = number
number_of _ = 0

-- the text that is set
abbrev pub put_text : Args → Option (List ℕ)
put_text (args.Put class value) = text_of value
put_text _ = None

-- the number that is set; 0 where none is
abbrev pub put_number : Args → ℕ
put_number (args.Put class value) = number_of value
put_number _ = 0

-- how many units a name or a text has; 0 where there is none
abbrev pub units_in : Option (List ℕ) → ℕ
units_in None = 0
units_in (Some units) = length units

-- a name or a text that was brought; the empty one where none was
abbrev pub or_empty : Option (List ℕ) → List ℕ
or_empty None = []
or_empty (Some units) = units
