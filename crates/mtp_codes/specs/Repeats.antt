-- Whether a list has two items that are alike.
use Rattle.std.specs.Prelude.{List, [], ◌∷◌, Bool, false, ◌||◌}
use Rattle.std.specs.List.{list_any}

-- some item of the list is like a later one
abbrev pub repeats_by : {A : Type 0} → (A → A → Bool) → List A → Bool
repeats_by same [] = false
repeats_by same (first ∷ others) = list_any (same first) others || repeats_by same others
