-- Writing one value after the other, as a loop does.
use Rattle.std.proofs.Common.{◌≡◌, ℕ, ◌+◌, ◌<◌, ◌≤◌, List, [], ◌∷◌, ◌++◌, length, get_or, take, All, sym, ap, subst}
use Rattle.std.proofs.Common.{◌∙◌}
use Rattle.std.specs.List.{flat_map}
use Rattle.std.proofs.lemmas.List.{append-nil, take_all, take_more, flat_map_more}
use Rattle.std.proofs.lemmas.List.Elements.{All-nil, All-more}

-- what was there, then the bytes of the first i values, each of which is as P says
abbrev pub Pushed : {X : Type 0} → (X → List ℕ) → (X → Type 0) → List ℕ → List ℕ → List X → ℕ → Type 0
Pushed f P before now xs i = (now ≡ before ++ flat_map f (take i xs)) × All P (take i xs)

pub pushed_more : {X : Type 0} (f : X → List ℕ) (P : X → Type 0) (before now after : List ℕ) (xs : List X) (i : ℕ)
    (x : X) → i < length xs → x ≡ get_or xs i x → after ≡ now ++ f x → P x
    → Pushed f P before now xs i → Pushed f P before after xs (i + 1)
pushed_more {X = X} f P before now after xs i x lt is put holds h =
    let one : take (i + 1) xs ≡ take i xs ++ x ∷ [] = take_more xs i x lt
    ∙ ap (λ (y : X). take i xs ++ y ∷ []) (sym is) in
    let joined : after ≡ before ++ flat_map f (take i xs ++ x ∷ []) = put ∙ ap (λ (y : List ℕ). y ++ f x) h.0
    ∙ flat_map_more f before (take i xs) x in
    (joined ∙ ap (λ (y : List X). before ++ flat_map f y) (sym one), All-more P xs i x lt h.1 (subst P is holds))

pub pushed_none : {X : Type 0} (f : X → List ℕ) (P : X → Type 0) (before : List ℕ) (xs : List X)
    → Pushed f P before before xs 0
pushed_none f P before xs = (sym (append-nil before), All-nil P)

pub pushed_all : {X : Type 0} (f : X → List ℕ) (P : X → Type 0) (before now : List ℕ) (xs : List X) (i : ℕ)
    → length xs ≤ i → Pushed f P before now xs i → (now ≡ before ++ flat_map f xs) × All P xs
pushed_all {X = X} f P before now xs i le h =
    let all = take_all i xs le in
    (h.0 ∙ ap (λ (y : List X). before ++ flat_map f y) all, subst (λ (y : List X). All P y) all h.1)
