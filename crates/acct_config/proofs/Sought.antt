-- Whether any or all of a list of shown values pass is whether any or all of the values do, as they are shown.
use Rattle.std.proofs.Common.{◌≡◌, List, [], ◌∷◌, Bool, ◌||◌, ◌&&◌, ℕ, ◌+◌, map, ap, refl, String, Global, not}
use Rattle.std.proofs.Common.{Option, Some, None, ◌∙◌, true, false}
use Rattle.std.proofs.lemmas.List.{length-map}
use mathlib.Core.Path.{ap₂}
use mathlib.Core.Bool.{cond}
use lib.Dec.{ltb}
use Rattle.std.specs.Prelude.{string_bytes, option_map, find}
use Rattle.std.specs.List.{list_all, list_any, prefix_len, position}
use Rattle.toml.specs.View.{members_view}
use Rattle.toml.specs.declared.value.Value.{Value}
use Rattle.acct_config.specs.Document.{keys}

pub list_any-map : {X Y : Type 0} (p : X → Bool) (shows : Y → X) (ys : List Y)
    → list_any p (map shows ys) ≡ list_any (λ y. p (shows y)) ys
list_any-map p shows [] = refl
list_any-map p shows (y ∷ ys) = ap (λ any. p (shows y) || any) (list_any-map p shows ys)

prefix_len-map : {X Y : Type 0} (p : X → Bool) (shows : Y → X) (ys : List Y)
    → prefix_len p (map shows ys) ≡ prefix_len (λ y. p (shows y)) ys
prefix_len-map p shows [] = refl
prefix_len-map p shows (y ∷ ys) = ap (λ n. cond (p (shows y)) (1 + n) 0) (prefix_len-map p shows ys)

pub position-map : {X Y : Type 0} (p : X → Bool) (shows : Y → X) (ys : List Y)
    → position p (map shows ys) ≡ position (λ y. p (shows y)) ys
position-map p shows ys =
    ap₂ (λ n m. cond (ltb n m) (Some n) None) (prefix_len-map (λ x. not (p x)) shows ys) (length-map ys shows)

pub list_all-keys : (p : List ℕ → Bool) (entries : List (String Global × Value))
    → list_all p (keys (members_view entries)) ≡ list_all (λ entry. p (string_bytes entry.0)) entries
list_all-keys p [] = refl
list_all-keys p (entry ∷ entries) = ap (λ all. p (string_bytes entry.0) && all) (list_all-keys p entries)

pub option_map-twice : {A B C : Type 0} (f : B → C) (shows : A → B) (found : Option A)
    → option_map (λ x. f (shows x)) found ≡ option_map f (option_map shows found)
option_map-twice f shows None = refl
option_map-twice f shows (Some x) = refl

option_map-cond : {A B : Type 0} (f : A → B) (b : Bool) (x y : Option A)
    → option_map f (cond b x y) ≡ cond b (option_map f x) (option_map f y)
option_map-cond f true x y = refl
option_map-cond f false x y = refl

pub find-keys : (p : List ℕ → Bool) (entries : List (String Global × Value))
    → option_map (λ entry. string_bytes entry.0) (find (λ entry. p (string_bytes entry.0)) entries)
    ≡ find p (keys (members_view entries))
find-keys p [] = refl
find-keys p (entry ∷ entries) =
    option_map-cond (λ entry. string_bytes entry.0) (p (string_bytes entry.0)) (Some entry)
    (find (λ entry. p (string_bytes entry.0)) entries)
    ∙ ap (λ rest. cond (p (string_bytes entry.0)) (Some (string_bytes entry.0)) rest) (find-keys p entries)
