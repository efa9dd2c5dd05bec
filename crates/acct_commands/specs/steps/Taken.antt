-- What the steps of the generator write: event lines of which a replay refuses none.
use Rattle.std.specs.Prelude.{◌≡◌, ℕ, List, [], ◌∷◌, ◌++◌, map, codes}
use Rattle.hex.specs.Hex.{encode_lower, IsBytes}
use Rattle.acct_server.specs.Events.{lines_of}

-- the text of a line of data
abbrev pub data_text : List ℕ → List ℕ
data_text bytes = codes "data 1 " ++ encode_lower bytes

abbrev pub AreBytes : List (List ℕ) → Type 0
AreBytes [] = Unit {0}
AreBytes (bytes ∷ others) = IsBytes bytes × AreBytes others

-- The lines are the opening of connection 1 and a line of data for each of some lists of bytes, and the last of them is
-- ended: what comes after them is further lines.
pub record AreTaken (lines : List ℕ) : Type 0 where
  pub brought : List (List ℕ)
  pub bytes : AreBytes brought
  pub parts : (rest : List ℕ)
      → lines_of (lines ++ rest) ≡ codes "open 1 a" ∷ map data_text brought ++ lines_of rest
