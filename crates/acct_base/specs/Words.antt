-- Words and decimal numbers in bytes.
use Rattle.std.specs.Prelude.{ℕ, ◌+◌, ◌-◌, ◌*◌, ◌==◌, Bool, false, ◌&&◌, not, List, [], ◌∷◌, length, Option, Some, None}
use Rattle.std.specs.Prelude.{if◌then◌else◌, nat_lt, nat_le}
use Rattle.std.specs.List.{before_first, after_first, position_or_len}

-- whether a number is in a range
abbrev pub is_within : ℕ → ℕ → ℕ → Bool
is_within low high number = nat_le low number && nat_le number high

-- what stands before the first separator, and what stands after it
abbrev pub parted : ℕ → List ℕ → Option (List ℕ × List ℕ)
parted separator text =
    if nat_lt (position_or_len (λ b. b == separator) text) (length text)
    then Some (before_first (λ b. b == separator) text, after_first (λ b. b == separator) text)
    else None

-- the number that decimal digits spell, after those of a number
abbrev pub decimal_from : ℕ → List ℕ → Option ℕ
decimal_from number [] = Some number
decimal_from number (b ∷ text) = if is_within 48 57 b then decimal_from (10 * number + (b - 48)) text else None

abbrev pub begins_with_zero : List ℕ → Bool
begins_with_zero [] = false
begins_with_zero (b ∷ text) = b == 48

-- the number that a text spells in at most so many decimal digits, without leading zeros
unfoldable pub decimal_of : ℕ → List ℕ → Option ℕ
decimal_of most text =
    if is_within 1 most (length text) && not (begins_with_zero text && nat_lt 1 (length text)) then decimal_from 0 text
    else None
