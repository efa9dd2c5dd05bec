-- The values of a configuration: which ones it may have, and the texts of addresses and of access control entries.
use Rattle.std.specs.Prelude.{ℕ, Bool, true, not, ◌&&◌, ◌||◌, List, [], ◌∷◌, length, ◌+◌, ◌*◌, Option, Some, None}
use Rattle.std.specs.Prelude.{if◌then◌else◌, false, codes, drop, nat_eq, nat_lt, ◌==◌, option_and_then, nat_le}
use Rattle.std.specs.Char.{digit_value, is_digit}
use Rattle.std.specs.List.{list_all, list_any, starts_with}
use Rattle.std.specs.Option.{option_map_or}
use Rattle.std.specs.Str.{bytes_eq}
use Rattle.acct_base.specs.Words.{is_within, parted, decimal_of}
use Rattle.acct_codes.specs.Accounts.{security_nt_authority, security_builtin_domain_rid, domain_alias_rid_admins}
use Rattle.dtyp_sid.specs.Reading.{sid_of_text}
use Rattle.dtyp_sid.specs.Sids.{SidValue}
use Rattle.dtyp_access.specs.declared.ace.Ace.{Ace}
use Rattle.dtyp_access.specs.declared.ace.AceKind.{AceKind}
use Rattle.dtyp_access.specs.declared.ace.AceKind.TheVariants.{Allow, Deny}

-- ======== which values a configuration may have

-- the SID of the administrators, S-1-5-32-544 (MS-DTYP 2.4.2.4)
abbrev pub administrators : SidValue
administrators = record {
  authority = security_nt_authority;
  subs = security_builtin_domain_rid ∷ domain_alias_rid_admins ∷ [];
}

-- a listener's name: 1 to 32 lower-case letters and digits
abbrev pub is_name_byte : ℕ → Bool
is_name_byte b = is_within 97 122 b || is_within 48 57 b

unfoldable pub is_listener_name : List ℕ → Bool
is_listener_name text = is_within 1 32 (length text) && list_all is_name_byte text

-- no text stands twice
abbrev pub are_distinct : List (List ℕ) → Bool
are_distinct [] = true
are_distinct (text ∷ texts) = not (list_any (bytes_eq text) texts) && are_distinct texts

-- ======== hexadecimal numbers in a text

-- the number that hexadecimal digits of either case spell, after those of a number
abbrev pub hexadecimal_from : ℕ → List ℕ → Option ℕ
hexadecimal_from number [] = Some number
hexadecimal_from number (b ∷ text) = if is_digit b 16 then hexadecimal_from (number * 16 + digit_value b) text else None

-- ======== the addresses of listeners: `tcp:HOST:PORT` and `unix:PATH`

-- a port: a number from 1 to 65535
unfoldable pub is_port : List ℕ → Bool
is_port text = option_map_or (is_within 1 65535) (decimal_of 5 text) false

-- a host that isn't empty and has no colon, and a port after a colon
abbrev pub is_parted_host_port : Option (List ℕ × List ℕ) → Bool
is_parted_host_port None = false
is_parted_host_port (Some (host, port)) = not (length host == 0) && is_port port

unfoldable pub is_host_port : List ℕ → Bool
is_host_port text = is_parted_host_port (parted 58 text)

unfoldable pub is_address : List ℕ → Bool
is_address text =
    (starts_with nat_eq text (codes "tcp:") && is_host_port (drop 4 text))
    || (starts_with nat_eq text (codes "unix:") && nat_lt 5 (length text))

-- ======== the texts of access control entries: `allow MASK FLAGS SID` and `deny MASK FLAGS SID`, with single spaces

-- what an entry does
unfoldable pub kind_of_word : List ℕ → Option AceKind
kind_of_word word =
    if bytes_eq word (codes "allow") then Some Allow
    else (if bytes_eq word (codes "deny") then Some Deny else None)

-- an access mask: `0x` and eight hexadecimal digits
unfoldable pub mask_of_word : List ℕ → Option ℕ
mask_of_word word =
    if (length word == 10) && starts_with nat_eq word (codes "0x") then hexadecimal_from 0 (drop 2 word) else None

-- flags: a decimal number up to 255
abbrev pub up_to_255 : ℕ → Option ℕ
up_to_255 number = if nat_le number 255 then Some number else None

unfoldable pub flags_of_word : List ℕ → Option ℕ
flags_of_word word = option_and_then up_to_255 (decimal_of 3 word)

-- the entry of its four parts, where each is one
abbrev pub ace_of : Option AceKind → Option ℕ → Option ℕ → Option SidValue → Option Ace
ace_of (Some kind) (Some mask) (Some flags) (Some sid) =
    Some (record { kind = kind; flags = flags; mask = mask; sid = sid })
ace_of _ _ _ _ = None

-- the entry that a text spells
abbrev pub ace_behind_mask : List ℕ → List ℕ → Option (List ℕ × List ℕ) → Option Ace
ace_behind_mask kind mask None = None
ace_behind_mask kind mask (Some (flags, sid)) =
    ace_of (kind_of_word kind) (mask_of_word mask) (flags_of_word flags) (sid_of_text sid)

abbrev pub ace_behind_kind : List ℕ → Option (List ℕ × List ℕ) → Option Ace
ace_behind_kind kind None = None
ace_behind_kind kind (Some (mask, rest)) = ace_behind_mask kind mask (parted 32 rest)

abbrev pub ace_of_parts : Option (List ℕ × List ℕ) → Option Ace
ace_of_parts None = None
ace_of_parts (Some (kind, rest)) = ace_behind_kind kind (parted 32 rest)

unfoldable pub ace_of_text : List ℕ → Option Ace
ace_of_text text = ace_of_parts (parted 32 text)
