-- The text of a name, a code point at a time.
use Rattle.std.proofs.Common.{◌≡◌, ℕ, List, [], ◌∷◌, ◌++◌, encode_utf8, ap}
use Rattle.std.specs.List.{flat_map}
use Rattle.acct_calls.specs.Names.{code_points}
use Rattle.client_commands.specs.Outcomes.{glyph, name_text}

pub name_text-nil : (units : List ℕ) → units ≡ [] → name_text units ≡ []
unfolding name_text code_points
name_text-nil units none = ap name_text none

pub name_text-first : (units rest : List ℕ) (point : ℕ) → code_points units ≡ point ∷ code_points rest
    → name_text units ≡ encode_utf8 (glyph point) ++ name_text rest
unfolding name_text
name_text-first units rest point first =
    ap (λ points. flat_map (λ p. encode_utf8 (glyph p)) points) first
