-- The elements of an array that was read.
use Rattle.std.proofs.Common.{◌≡◌, List, [], ◌∷◌, map, Vec, Global, refl, ap}
use Rattle.toml.specs.View.{view, items_view}
use Rattle.toml.specs.declared.value.Value.{Value, Array}
use Rattle.toml.proofs.Views.{view-Array}
use Rattle.acct_config.specs.Document.{item_list, elements}

item_list-view : (values : List Value) → item_list (items_view values) ≡ map view values
item_list-view [] = refl
item_list-view (value ∷ values) = ap (λ list. view value ∷ list) (item_list-view values)

pub elements-Array : (values : Vec Value Global) → elements (view (Array values)) ≡ map view values.items
elements-Array values = rw (view-Array values) (item_list-view values.items)
