-- Names of accounts and of domains: their code points, which are the same, and which are valid.
use Rattle.std.specs.Prelude.{◌≡◌, ℕ, ◌^◌, ◌<◌, Bool, ◌&&◌, List, [], ◌∷◌, All, nat_le, nat_lt, if◌then◌else◌, true}
use Rattle.std.specs.Prelude.{map, ◌↔◌, not, ◌||◌, ◌==◌, length, codes, chars}
use Rattle.std.specs.Char.{IsScalar}
use Rattle.std.specs.Char.Escape.{encode_utf16}
use Rattle.std.specs.Char.Utf16.{is_high_surrogate, is_low_surrogate, surrogate_pair_char}
use Rattle.std.specs.List.{flat_map, list_all, list_any}
use Rattle.std.specs.Str.{bytes_eq}
use Rattle.unicode.specs.CaseFolding.{simple_fold}
use Rattle.acct_codes.specs.Limits.{most_domain_name, most_domain_subs}
use Rattle.acct_codes.specs.Accounts.{security_nt_authority, security_builtin_domain_rid}
use Rattle.acct_codes.specs.declared.kind.Kind.{Kind}
use Rattle.acct_codes.specs.declared.kind.Kind.TheVariants.{Server, Domain, Group, Alias, User, Policy, Account}
use Rattle.dtyp_sid.specs.Sids.{sid_eq, SidValue}

-- ======== the code points of UTF-16 units, and the units of code points (The Unicode Standard, section 3.9)

-- each number fits a unit
abbrev pub AreUnits : List ℕ → Type 0
AreUnits units = All (λ unit. unit < 2 ^ 16) units

-- the units or code points that stand for no character
abbrev pub is_surrogate : ℕ → Bool
is_surrogate point = nat_le 0xD800 point && nat_lt point 0xE000

-- the code points of units: a high surrogate followed by a low one is one, and each other unit is itself
unfoldable pub code_points : List ℕ → List ℕ
code_points [] = []
code_points (unit ∷ []) = unit ∷ []
code_points (unit ∷ next ∷ units) = if is_high_surrogate unit && is_low_surrogate next then
    surrogate_pair_char unit next ∷ code_points units
    else unit ∷ code_points (next ∷ units)

-- the units of code points, one or two for each
unfoldable pub units_of : List ℕ → List ℕ
units_of points = flat_map encode_utf16 points

-- the code points of a list of units spell it
abbrev pub PointsSpellUnits : Type 0
PointsSpellUnits = (units : List ℕ) → AreUnits units → units_of (code_points units) ≡ units

-- characters are the code points of their units
abbrev pub CharactersAreRead : Type 0
CharactersAreRead = (characters : List ℕ) → All IsScalar characters → code_points (units_of characters) ≡ characters

-- ======== simple case folding of names, and equality after it (The Unicode Standard, section 3.13)

-- a code point after simple case folding; a surrogate is no character and folds to itself
unfoldable pub folded_point : ℕ → ℕ
folded_point point = if is_surrogate point then point else simple_fold point

-- the code points of a name after folding
unfoldable pub folded_points : List ℕ → List ℕ
folded_points units = map folded_point (code_points units)

-- the folded name
unfoldable pub folded : List ℕ → List ℕ
folded units = units_of (folded_points units)

-- whether two names are one: their code points are equal after folding
unfoldable pub is_same : List ℕ → List ℕ → Bool
is_same left right = bytes_eq (folded_points left) (folded_points right)

-- two names are one
abbrev pub AreSame : List ℕ → List ℕ → Type 0
AreSame left right = folded_points left ≡ folded_points right

-- the test says whether two names are one
abbrev pub TestTellsSame : Type 0
TestTellsSame = (left right : List ℕ) → (is_same left right ≡ true) ↔ AreSame left right

-- a name is one with itself; two names are one in either order; names that are one with the same name are one
pub record IsEquivalence : Type 0 where
  pub reflexive : (name : List ℕ) → is_same name name ≡ true
  pub symmetric : (left right : List ℕ) → is_same left right ≡ is_same right left
  pub transitive : (left middle right : List ℕ) → is_same left middle ≡ true → is_same middle right ≡ true →
      is_same left right ≡ true

-- a folded name is one with the name
abbrev pub FoldedIsSame : Type 0
FoldedIsSame = (units : List ℕ) → AreUnits units → is_same (folded units) units ≡ true

-- to fold a folded name changes nothing
abbrev pub FoldsOnce : Type 0
FoldsOnce = (units : List ℕ) → AreUnits units → folded (folded units) ≡ folded units

-- two names are one exactly where they fold to one list of units
abbrev pub SameFoldAlike : Type 0
SameFoldAlike = (left right : List ℕ) → AreUnits left → AreUnits right → (is_same left right ≡ true)
    ↔ (folded left ≡ folded right)

-- ======== which names an account may have (MS-SAMR 3.1.1.8.4)

-- how many units a name of the kind may have: only users, groups and aliases have names
abbrev pub most_units : Kind → ℕ
most_units User = 20
most_units Group = 256
most_units Alias = 256
most_units Server = 0
most_units Domain = 0
most_units Policy = 0
most_units Account = 0

-- the characters that no name has
abbrev pub forbidden : List ℕ
forbidden = codes "\"/\\[]:;|=,+*?<>"

abbrev pub is_forbidden : ℕ → Bool
is_forbidden point = list_any (λ c. c == point) forbidden

-- the code point may stand in a name: no unpaired surrogate, no control character below the space, and not forbidden
abbrev pub may_stand : ℕ → Bool
may_stand point = not (is_surrogate point) && (nat_le 0x20 point && not (is_forbidden point))

abbrev pub is_dot_or_space : ℕ → Bool
is_dot_or_space point = (point == 0x2E) || (point == 0x20)

-- from one unit to the kind's most
abbrev pub has_length : Kind → List ℕ → Bool
has_length kind units = nat_le 1 (length units) && nat_le (length units) (most_units kind)

-- each code point may stand in a name
abbrev pub all_may_stand : List ℕ → Bool
all_may_stand units = list_all may_stand (code_points units)

-- the name has nothing but dots and spaces
abbrev pub is_dots_and_spaces : List ℕ → Bool
is_dots_and_spaces units = list_all is_dot_or_space (code_points units)

-- whether an account of the kind may have the name
unfoldable pub is_valid_name : Kind → List ℕ → Bool
is_valid_name kind units = has_length kind units && (all_may_stand units && not (is_dots_and_spaces units))

-- ======== which names and SIDs the account domain may have, beside the domain BUILTIN

-- the name that a text spells
abbrev pub name_of_text : List ℕ → List ℕ
name_of_text text = units_of (chars text)

-- the domain BUILTIN, S-1-5-32 (MS-DTYP 2.4.2.4)
abbrev pub builtin_name : List ℕ
builtin_name = name_of_text (codes "BUILTIN")

abbrev pub builtin_sid : SidValue
builtin_sid = record { authority = security_nt_authority; subs = security_builtin_domain_rid ∷ [] }

-- the name of the domain of the well-known SIDs of S-1-5 (MS-DTYP 2.4.2.4)
abbrev pub authority_name : List ℕ
authority_name = name_of_text (codes "NT AUTHORITY")

-- the account domain's name: one that a group may have, not too long, and not that of another domain
unfoldable pub is_domain_name : List ℕ → Bool
is_domain_name name =
    nat_le (length name) most_domain_name && is_valid_name Group name && not (is_same name builtin_name)
    && not (is_same name authority_name)

-- the account domain's SID: it has sub-authorities, and room for that of an account, and isn't BUILTIN's
unfoldable pub is_domain_sid : SidValue → Bool
is_domain_sid sid =
    (nat_le 1 (length sid.subs) && nat_le (length sid.subs) most_domain_subs) && not (sid_eq sid builtin_sid)
