-- What `has_dash` tests of the words one by one is the test of their bytes over the whole list.
use Rattle.std.proofs.Common.{◌≡◌, ◌∙◌, Bool, List, [], ◌∷◌, ◌||◌, map, sym, ap, refl, rules, tests}
use Rattle.std.specs.List.{list_any}
use Rattle.std.specs.String.{string_bytes}
use Rattle.std.proofs.lemmas.Iterator.{YieldsList-from_slice}
use Rattle.std.proofs.lemmas.Iterator.Search.{any_from_yields_List}
use Rattle.acct_commands.specs.Words.{begins_with_dash}
use Rattle.acct_commands.proofs.forms.has_dash.Goals as goal

-- a test of what a function gives
list_any-map : {X Y : Type 0} (test : X → Bool) (f : Y → X) (ys : List Y)
    → list_any test (map f ys) ≡ list_any (λ y. test (f y)) ys
list_any-map test f [] = refl
list_any-map test f (y ∷ ys) = ap (λ (b : Bool). test (f y) || b) (list_any-map test f ys)

pub returns : goal.returns
returns c =
    any_from_yields_List (λ word. begins_with_dash (string_bytes word)) _ _ c.any.result c.any.ensures.ran
    (YieldsList-from_slice c.args.words.now cc) (λ x b q k. search (rules, tests))
    ∙ sym (list_any-map begins_with_dash string_bytes c.args.words.now)
