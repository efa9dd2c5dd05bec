-- The text of a name, a code point at a time.
use Rattle.std.proofs.Common.{◌≡◌, ℕ, List, [], ◌∷◌, ◌++◌, encode_utf8, ap}
use Rattle.std.specs.List.{flat_map}
use Rattle.acct_calls.specs.Names.{code_points}
use Rattle.acct_machine.specs.Jobs.{shown_point, utf8_of}

pub utf8_of-nil : (units : List ℕ) → units ≡ [] → utf8_of units ≡ []
unfolding code_points
utf8_of-nil units none = ap (λ (us : List ℕ). utf8_of us) none

pub utf8_of-first : (units rest : List ℕ) (point : ℕ) → code_points units ≡ point ∷ code_points rest
    → utf8_of units ≡ encode_utf8 (shown_point point) ++ utf8_of rest
utf8_of-first units rest point first =
    ap (λ (points : List ℕ). flat_map (λ p. encode_utf8 (shown_point p)) points) first
