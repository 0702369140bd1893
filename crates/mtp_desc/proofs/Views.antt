-- Looking into lists through a view.
use Rattle.std.proofs.Common.{◌≡◌, ◌==◌, ℕ, ◌+◌, add-zero, List, [], ◌∷◌, map, refl, ap, Bool, true, false, not, cond, Option, Some, None, count_by}
use Rattle.std.specs.Prelude.{option_map}
use Rattle.std.specs.Borrow.{Bor}
use Rattle.std.specs.List.{find, position, prefix_len, fold}
use Rattle.std.proofs.lemmas.List.{length-map}

-- to fold what is seen of each is to fold over the items as they are seen
fold_map : {X Y B : Type 0} (view : X → Y) (step : B → Y → B) (start : B) (xs : List X)
    → fold step start (map view xs) ≡ fold (λ a x. step a (view x)) start xs
fold_map view step start [] = refl
fold_map view step start (x ∷ xs) = fold_map view step (step start (view x)) xs

-- as many items pass as have views that pass
pub count_map : {X Y : Type 0} (view : X → Y) (test : Y → Bool) (xs : List X)
    → count_by test (map view xs) ≡ count_by (λ x. test (view x)) xs
count_map view test xs = fold_map view (λ a y. a + cond (test y) 1 0) 0 xs

-- what is found among the items as they are seen is what is seen of the found one
found_by : {X Y : Type 0} (view : X → Y) (passes : Bool) (x : X) (ours : Option Y) (theirs : Option X)
    → ours ≡ option_map view theirs → cond passes (Some (view x)) ours ≡ option_map view (cond passes (Some x) theirs)
found_by view true x ours theirs e = refl
found_by view false x ours theirs e = e

-- the view of the first item that passes is the first view that passes
pub find_map : {X Y : Type 0} (view : X → Y) (test : Y → Bool) (xs : List X)
    → find test (map view xs) ≡ option_map view (find (λ x. test (view x)) xs)
find_map view test [] = refl
find_map view test (x ∷ xs) = found_by view (test (view x)) x (find test (map view xs)) (find (λ y. test (view y)) xs)
    (find_map view test xs)

-- what was found, seen through the view, is what is found among the views
pub looks_up : {X Y : Type 0} (view : X → Y) (test : Y → Bool) (xs : List X) (found : Option (Bor X))
    → option_map (λ x. x.now) found ≡ find (λ x. test (view x)) xs
    → option_map (λ x. view x.now) found ≡ find test (map view xs)
looks_up view test xs None is = rw (find_map view test xs, ← is) refl
looks_up view test xs (Some x) is = rw (find_map view test xs, ← is) refl

-- as many of them in front pass a test
prefix_len_map : {X Y : Type 0} (view : X → Y) (test : Y → Bool) (xs : List X)
    → prefix_len test (map view xs) ≡ prefix_len (λ x. test (view x)) xs
prefix_len_map view test [] = refl
prefix_len_map view test (x ∷ xs) = ap (λ n. cond (test (view x)) (1 + n) 0) (prefix_len_map view test xs)

-- it stands at the same place
pub position_map : {X Y : Type 0} (view : X → Y) (test : Y → Bool) (xs : List X)
    → position test (map view xs) ≡ position (λ x. test (view x)) xs
position_map view test xs = rw (prefix_len_map view (λ y. not (test y)) xs, length-map xs view) refl

-- an item that doesn't pass a test isn't counted
none_in_step : {X : Type 0} (test : X → Bool) (start : ℕ) (x : X) (xs : List X) (passes : Bool) → test x ≡ passes
    → cond (test x) (Some x) (find test xs) ≡ None
    → ((n : ℕ) → find test xs ≡ None → fold (λ a y. a + cond (test y) 1 0) n xs ≡ n)
    → fold (λ a y. a + cond (test y) 1 0) (start + cond (test x) 1 0) xs ≡ start
none_in_step test start x xs true e none rest = let clash : Some x ≡ None = rw e at none in absurd cc
none_in_step test start x xs false e none rest = rw (e, add-zero) (rest start (rw e at none))

-- so where none passes none is counted
none_folded : {X : Type 0} (test : X → Bool) (start : ℕ) (xs : List X) → find test xs ≡ None
    → fold (λ a y. a + cond (test y) 1 0) start xs ≡ start
none_folded test start [] none = refl
none_folded test start (x ∷ xs) none = none_in_step test start x xs (test x) refl none (λ n. none_folded test n xs)

-- where exactly one item passes, one is found
pub one_is_found : {X : Type 0} (test : X → Bool) (xs : List X) → (count_by test xs == 1) ≡ true
    → find test xs ≡ None → ⊥
one_is_found test xs one none = let clash : (0 == 1) ≡ true = rw (none_folded test 0 xs none) at one in absurd cc
