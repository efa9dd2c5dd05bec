-- The folded code points of units, one by one, and lists within keys
use Rattle.std.proofs.Common.{◌≡◌, ◌≢◌, ℕ, List, [], ◌∷◌, map, refl, sym, ap, arith}
use Rattle.std.proofs.lemmas.Cmp.{ranked}
use Rattle.std.specs.declared.cmp.Ordering.{Ordering}
use Rattle.std.specs.declared.cmp.Ordering.TheVariants.{Less, Equal, Greater}
use Rattle.std.specs.Ordering.{nat_cmp, ordering_then, ordering_reverse}
use Rattle.acct_calls.specs.Names.{code_points, folded_point, folded_points}
use Rattle.acct_tables.specs.KeyedRows.{compare}

pub points_none : (units : List ℕ) → units ≡ [] → folded_points units ≡ []
unfolding folded_points code_points
points_none units none = ap folded_points none

pub points_first : (units rest : List ℕ) (point : ℕ) → code_points units ≡ point ∷ code_points rest
    → folded_points units ≡ folded_point point ∷ folded_points rest
unfolding folded_points
points_first units rest point first = ap (map folded_point) first

-- a number alone compares as it does in a list
pub alone : (m n : ℕ) → compare (m ∷ []) (n ∷ []) ≡ nat_cmp m n
alone m n = elim (nat_cmp m n) as (λ r. ordering_then r Equal ≡ r) [ Less ↦ refl | Equal ↦ refl | Greater ↦ refl ]

-- what is not below one key and below another of the same prefix has that prefix
pub squeezed : (front low high : Ordering) → ordering_then front low ≢ Greater
    → ordering_then (ordering_reverse front) high ≡ Less → (front ≡ Equal) × (low ≢ Greater) × (high ≡ Less)
squeezed Less low high up down = cc
squeezed Equal low high up down = (refl, up, down)
squeezed Greater low high up down = absurd (up refl)

pub not_below : (n : ℕ) → nat_cmp 0 n ≢ Greater
not_below n gt = let lt = ranked 0 n Greater (sym gt) in omega arith

-- ---- steps of the loop

pub order_first : (left right left_rest right_rest : List ℕ) (left_point right_point : ℕ)
    → code_points left ≡ left_point ∷ code_points left_rest → code_points right ≡ right_point ∷ code_points right_rest
    → compare (folded_points left) (folded_points right)
    ≡ ordering_then (nat_cmp (folded_point left_point) (folded_point right_point))
    (compare (folded_points left_rest) (folded_points right_rest))
order_first left right left_rest right_rest left_point right_point left_first right_first =
    rw (points_first left left_rest left_point left_first, points_first right right_rest right_point right_first) refl

pub order_longer : (left left_rest right : List ℕ) (left_point : ℕ)
    → code_points left ≡ left_point ∷ code_points left_rest → right ≡ []
    → compare (folded_points left) (folded_points right) ≡ Greater
order_longer left left_rest right left_point left_first none =
    rw (points_first left left_rest left_point left_first, points_none right none) refl

pub order_shorter : (left right right_rest : List ℕ) (right_point : ℕ) → left ≡ []
    → code_points right ≡ right_point ∷ code_points right_rest
    → compare (folded_points left) (folded_points right) ≡ Less
order_shorter left right right_rest right_point none right_first =
    rw (points_first right right_rest right_point right_first, points_none left none) refl

pub order_none : (left right : List ℕ) → left ≡ [] → right ≡ []
    → compare (folded_points left) (folded_points right) ≡ Equal
order_none left right none neither = rw (points_none left none, points_none right neither) refl

-- where the first differ they decide
pub decides : (first rest : Ordering) → first ≢ Equal → ordering_then first rest ≡ first
decides Less rest differ = refl
decides Equal rest differ = absurd (differ refl)
decides Greater rest differ = refl
