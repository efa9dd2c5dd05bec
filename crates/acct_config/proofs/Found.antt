-- What is found in a list, one element further on.
use Rattle.std.proofs.Common.{◌≡◌, ℕ, ◌+◌, ◌<◌, List, [], ◌∷◌, ◌++◌, Option, Some, None, map, length, drop, get_or}
use Rattle.std.proofs.Common.{refl, sym, ap, ◌∙◌, append_assoc}
use Rattle.std.proofs.lemmas.List.{at_drop_more}
use Rattle.std.specs.List.{filter_map, cons_option}

pub found_more : {X Y Z : Type 0} (f : Y → Option Z) (shows : X → Y) (made : List Z) (xs : List X) (i : ℕ) (x : X)
    (z : Z) → i < length xs → x ≡ get_or xs i x → f (shows x) ≡ Some z
    → (made ++ z ∷ []) ++ filter_map f (map shows (drop (i + 1) xs)) ≡ made ++ filter_map f (map shows (drop i xs))
found_more f shows made xs i x z lt at is =
    let rest = filter_map f (map shows (drop (i + 1) xs)) in
    append_assoc made (z ∷ []) rest
    ∙ ap (λ o. made ++ cons_option o rest) (sym is)
    ∙ ap (λ y. made ++ filter_map f (map shows (y ∷ drop (i + 1) xs))) at
    ∙ sym (at_drop_more (λ l. made ++ filter_map f (map shows l)) xs i x lt)

pub none_more : {X Y Z : Type 0} (f : Y → Option Z) (shows : X → Y) (made : List Z) (xs : List X) (i : ℕ) (x : X)
    → i < length xs → x ≡ get_or xs i x → f (shows x) ≡ None
    → made ++ filter_map f (map shows (drop (i + 1) xs)) ≡ made ++ filter_map f (map shows (drop i xs))
none_more f shows made xs i x lt at is =
    let rest = filter_map f (map shows (drop (i + 1) xs)) in
    ap (λ o. made ++ cons_option o rest) (sym is)
    ∙ ap (λ y. made ++ filter_map f (map shows (y ∷ drop (i + 1) xs))) at
    ∙ sym (at_drop_more (λ l. made ++ filter_map f (map shows l)) xs i x lt)

-- what is no value is none
pub none_of : {X : Type 0} (o : Option X) → ((x : X) → o ≡ Some x → ⊥) → o ≡ None
none_of None not = refl
none_of (Some x) not = absurd (not x refl)
