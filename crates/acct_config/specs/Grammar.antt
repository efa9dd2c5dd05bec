-- The grammar of addresses and of access control entries, apart from how they are read.
use Rattle.std.specs.Prelude.{◌≡◌, ℕ, ◌<◌, ◌≤◌, ◌⊎◌, ◌↔◌, ◌==◌, true, false, codes, List, ◌++◌, length, Some}
use Rattle.std.specs.Fmt.{decimal}
use Rattle.std.specs.List.{list_any}
use Rattle.std.specs.Str.Parse.{AllDigits, digits_value}
use Rattle.dtyp_sid.specs.Text.{IsText}
use Rattle.dtyp_access.specs.declared.ace.Ace.{Ace}
use Rattle.dtyp_access.specs.declared.ace.AceKind.{AceKind}
use Rattle.dtyp_access.specs.declared.ace.AceKind.TheVariants.{Allow, Deny}
use Rattle.acct_config.specs.Values.{is_address, ace_of_text}

-- a host that has no colon, and a port in decimal
pub record IsTcp (text : List ℕ) : Type 0 where
  pub host : List ℕ
  pub port : ℕ
  pub there : 0 < length host
  pub no_colon : list_any (λ b. b == 58) host ≡ false
  pub low : 1 ≤ port
  pub high : port ≤ 65535
  pub spelled : text ≡ codes "tcp:" ++ (host ++ (codes ":" ++ decimal port))

-- a path
pub record IsUnix (text : List ℕ) : Type 0 where
  pub path : List ℕ
  pub there : 0 < length path
  pub spelled : text ≡ codes "unix:" ++ path

-- an address is one of these
abbrev pub AddressesAreSpelled : Type 0
AddressesAreSpelled = (text : List ℕ) → (is_address text ≡ true) ↔ (IsTcp text ⊎ IsUnix text)

abbrev pub word_of_kind : AceKind → List ℕ
word_of_kind Allow = codes "allow "
word_of_kind Deny = codes "deny "

-- an entry: its kind, eight hexadecimal digits of its mask, its flags in decimal, and a text of its SID
pub record IsEntry (text : List ℕ) (ace : Ace) : Type 0 where
  pub digits : List ℕ
  pub sid : List ℕ
  pub eight : length digits ≡ 8
  pub are_digits : AllDigits 16 digits
  pub mask : digits_value 16 digits ≡ ace.mask
  pub flags : ace.flags ≤ 255
  pub is_text : IsText sid ace.sid
  pub spelled : text ≡ word_of_kind ace.kind
      ++ (codes "0x" ++ (digits ++ (codes " " ++ (decimal ace.flags ++ (codes " " ++ sid)))))

-- an entry is read exactly from its texts
abbrev pub EntriesAreSpelled : Type 0
EntriesAreSpelled = (text : List ℕ) (ace : Ace) → (ace_of_text text ≡ Some ace) ↔ IsEntry text ace
