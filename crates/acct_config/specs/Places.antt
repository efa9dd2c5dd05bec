-- Where bytes break a rule: at a key of the document that they spell, or else at a line.
use Rattle.std.specs.Prelude.{◌≡◌, ℕ, ◌≤◌, ◌==◌, List, length, take, count_by, Option, Some, None}
use Rattle.acct_config.specs.declared.places.Place.{Place}
use Rattle.acct_config.specs.declared.places.Place.TheVariants.{Line, Key}
use Rattle.acct_config.specs.Faults.{Fault}

-- the key as a place
abbrev pub key_place : Option Fault → Option Place
key_place None = None
key_place (Some (section, key)) = Some (Key section key)

-- how many lines end in a text
abbrev pub line_ends : List ℕ → ℕ
line_ends bytes = count_by (λ b. b == 10) bytes

-- the line of a place in the text
pub record IsLineOf (bytes : List ℕ) (place : Option Place) : Type 0 where
  pub stop : ℕ
  pub within : stop ≤ length bytes
  pub is_line : place ≡ Some (Line (line_ends (take stop bytes)))
