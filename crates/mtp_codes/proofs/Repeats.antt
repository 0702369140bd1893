-- What stands twice in a list that is seen through a view.
use Rattle.std.proofs.Common.{◌≡◌, List, [], ◌∷◌, map, refl, ap, Bool, ◌||◌}
use Rattle.std.specs.List.{list_any}
use Rattle.mtp_codes.specs.Repeats.{repeats_by}

-- one of what is made of each passes a test where one of them does
pub any_map : {X Y : Type 0} (view : X → Y) (test : Y → Bool) (xs : List X)
    → list_any test (map view xs) ≡ list_any (λ x. test (view x)) xs
any_map view test [] = refl
any_map view test (x ∷ xs) = ap (λ b. test (view x) || b) (any_map view test xs)

-- and two of them are alike where two of those are
pub repeats_map : {X Y : Type 0} (view : X → Y) (same : Y → Y → Bool) (xs : List X)
    → repeats_by same (map view xs) ≡ repeats_by (λ x y. same (view x) (view y)) xs
repeats_map view same [] = refl
repeats_map view same (x ∷ xs) = rw (any_map view (same (view x)) xs, repeats_map view same xs) refl
