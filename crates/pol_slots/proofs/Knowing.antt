-- What is known of names of which nothing was reported yet.
use Rattle.std.proofs.Common.{◌≡◌, Bool, true, false, ◌||◌, cond, List, [], ◌∷◌, map, Option, Some, None, refl, sym}
use Rattle.std.proofs.Common.{◌∙◌, ap, is_some}
use Rattle.std.specs.Prelude.{option_and_then, find, if◌then◌else◌}
use Rattle.std.specs.List.{list_any}

-- one is found where it or one of the rest passes
found_or : {Y : Type 0} (passes : Bool) (y : Y) (rest : Option Y) (others : Bool) → is_some rest ≡ others
    → is_some (cond passes (Some y) rest) ≡ (passes || others)
found_or true y rest others same = refl
found_or false y rest others same = same

-- one of the views is found exactly where some item has a view that passes
pub found_where_any : {X Y : Type 0} (view : X → Y) (test : Y → Bool) (xs : List X)
    → is_some (find test (map view xs)) ≡ list_any (λ x. test (view x)) xs
found_where_any view test [] = refl
found_where_any view test (x ∷ xs) =
    found_or (test (view x)) (view x) (find test (map view xs)) (list_any (λ x. test (view x)) xs)
    (found_where_any view test xs)

-- something is known where any is
known_if : {A : Type 0} (any : Bool) (last : A) → is_some (if any then Some last else None) ≡ any
known_if true last = refl
known_if false last = refl

-- what is found there exactly where some name is this one is there exactly where the description has the name
pub known_where_found :
    {A X Y : Type 0} (view : X → Y) (test : Y → Bool) (xs : List X) (found : Option (Option A))
    → found ≡ (if list_any (λ x. test (view x)) xs then Some None else None)
    → is_some found ≡ is_some (find test (map view xs))
known_where_found view test xs found is = ap is_some is ∙ known_if (list_any (λ x. test (view x)) xs) None
    ∙ sym (found_where_any view test xs)

-- and nothing where the last is none
nothing_if : {A : Type 0} (any : Bool) (last : Option A) → last ≡ None
    → option_and_then (λ last. last) (if any then Some last else None) ≡ None
nothing_if true last is = is
nothing_if false last is = refl

-- nothing was reported of the name
pub reported_nothing_where : {A : Type 0} (any : Bool) (found : Option (Option A))
    → found ≡ (if any then Some None else None) → option_and_then (λ last. last) found ≡ None
reported_nothing_where any found is = ap (λ each. option_and_then (λ last. last) each) is ∙ nothing_if any None refl
