-- Lists seen item by item through a view.
use Rattle.std.proofs.Common.{◌≡◌, List, [], ◌∷◌, length, map, refl, ap}
use Rattle.serde_json.specs.Data.{Data}
use Rattle.serde_json.specs.Events.{items_len}
use Rattle.serde_json.specs.View.{view, items_view, items_of}
use Rattle.serde_json.specs.declared.value.Value.{Value}
use Rattle.serde_json.proofs.Views.{items_len-items_view}

-- a list has as many items as it is seen to have
pub length_of_view : (values : List Value) → items_len (items_view values) ≡ length values
length_of_view values = items_len-items_view values

-- what is made of what is made of each
pub map_map : {X Y Z : Type 0} (outer : Y → Z) (inner : X → Y) (xs : List X)
    → map outer (map inner xs) ≡ map (λ x. outer (inner x)) xs
map_map outer inner [] = refl
map_map outer inner (x ∷ xs) = ap (λ ys. outer (inner x) ∷ ys) (map_map outer inner xs)

-- values that are the written forms of items, one by one
pub written_items : {X Y : Type 0} (written : Y → Data) (plain : X → Y) (values : List Value) (xs : List X)
    → map view values ≡ map (λ x. written (plain x)) xs → items_view values ≡ items_of (map written (map plain xs))
written_items written plain values xs each_is = rw (map_map written plain xs) (ap items_of each_is)
