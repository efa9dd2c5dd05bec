-- The text of a SID: S-1-, the authority, and each sub-authority after a dash (after MS-DTYP 2.4.2.1)
use Rattle.std.specs.Prelude.{◌≡◌, ℕ, zero, suc, ◌/◌, ◌%◌, ◌^◌, ◌<◌, ◌≤◌, ◌⊎◌, List, [], ◌∷◌, ◌++◌, length, take}
use Rattle.std.specs.Prelude.{nat_lt, if◌then◌else◌, codes}
use Rattle.std.specs.Char.{digit_char}
use Rattle.std.specs.Fmt.{decimal}
use Rattle.std.specs.List.{flat_map}
use Rattle.std.specs.Str.Parse.{AllDigits, digits_value}
use Rattle.dtyp_sid.specs.Sids.{SidValue, IsSid}

-- a number in so many lower-case hexadecimal digits
unfoldable pub hexadecimal : ℕ → ℕ → List ℕ
hexadecimal zero number = []
hexadecimal (suc count) number = hexadecimal count (number / 16) ++ digit_char (number % 16) ∷ []

-- the written text of an authority: in decimal below 2^32, else in twelve hexadecimal digits
unfoldable pub authority_text : ℕ → List ℕ
authority_text authority =
    if nat_lt authority (2 ^ 32) then decimal authority else codes "0x" ++ hexadecimal 12 authority

-- each sub-authority in decimal after a dash
unfoldable pub subs_text : List ℕ → List ℕ
subs_text subs = flat_map (λ sub. codes "-" ++ decimal sub) subs

-- the written text of a SID
unfoldable pub text_of : SidValue → List ℕ
text_of sid = codes "S-1-" ++ authority_text sid.authority ++ subs_text sid.subs

-- a text of the authority: in decimal without leading zeros, below 2^32
pub record IsDecimalAuthority (text : List ℕ) (authority : ℕ) : Type 0 where
  pub fits : authority < 2 ^ 32
  pub spelled : text ≡ decimal authority

-- a text of the authority: 0x and twelve hexadecimal digits of either case
pub record IsHexadecimalAuthority (text : List ℕ) (authority : ℕ) : Type 0 where
  pub digits : List ℕ
  pub twelve : length digits ≡ 12
  pub are_digits : AllDigits 16 digits
  pub spelled : text ≡ codes "0x" ++ digits
  pub number : digits_value 16 digits ≡ authority

-- the texts of a SID: the grammar
pub record IsText (text : List ℕ) (sid : SidValue) : Type 0 where
  pub limits : IsSid sid
  pub authority : List ℕ
  pub is_authority : IsDecimalAuthority authority sid.authority ⊎ IsHexadecimalAuthority authority sid.authority
  pub spelled : text ≡ codes "S-1-" ++ authority ++ subs_text sid.subs

-- some SID has the text
abbrev pub IsSidText : List ℕ → Type 0
IsSidText text = (sid : SidValue) × IsText text sid

-- the text of some SID begins so
abbrev pub BeginsText : List ℕ → Type 0
BeginsText front = (rest : List ℕ) × IsSidText (front ++ rest)

-- where a text that is no SID's breaks: the length of its longest prefix that begins the text of some SID
pub record IsBadPlace (text : List ℕ) (place : ℕ) : Type 0 where
  pub no_text : ¬ (IsSidText text)
  pub within : place ≤ length text
  pub begins : BeginsText (take place text)
  pub longest : (more : ℕ) → place < more → more ≤ length text → ¬ (BeginsText (take more text))

-- no text is that of two SIDs
abbrev pub TextsAreOfOne : Type 0
TextsAreOfOne = (text : List ℕ) (left right : SidValue) → IsText text left → IsText text right → left ≡ right

-- the written text of a SID is one of its texts
abbrev pub WrittenTextsAreTexts : Type 0
WrittenTextsAreTexts = (sid : SidValue) → IsSid sid → IsText (text_of sid) sid

-- two SIDs with one written text are one
abbrev pub WrittenTextsDiffer : Type 0
WrittenTextsDiffer = (left right : SidValue) → IsSid left → IsSid right → text_of left ≡ text_of right → left ≡ right
