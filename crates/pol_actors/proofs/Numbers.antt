-- Tests of numbers, and places of lists.
use Rattle.std.proofs.Common.{◌≡◌, ◌⊎◌, inl, inr, ◌<◌, ◌≤◌, ◌+◌, ℕ, suc, zero, Bool, true, false, List, [], ◌∷◌, ◌++◌}
use Rattle.std.proofs.Common.{length, map, Some, None, refl, ap, sym, ◌∙◌, arith}
use Rattle.std.specs.Prelude.{◌&&◌, ◌-◌, nat_lt, option_map, slice_get, slice_set}
use Rattle.std.specs.List.{list_all}
use Rattle.std.proofs.lemmas.Bool.Decides.{nat_tests}
use Rattle.std.proofs.lemmas.Option.{same_Some}

-- where the test holds, the first number is lower
pub lt_holds : (n m : ℕ) → nat_lt n m ≡ true → n < m
lt_holds n m is = grind (arith, nat_tests)

-- where it fails, it isn't
pub lt_not : (n m : ℕ) → nat_lt n m ≡ false → m ≤ n
lt_not n m is = grind (arith, nat_tests)

-- within a list there is an item
pub item_within : {A : Type 0} (xs : List A) (n : ℕ) → n < length xs → (x : A) × (slice_get xs n ≡ Some x)
item_within [] n less = absurd (omega (arith, less))
item_within (first ∷ others) zero less = (first, refl)
item_within (first ∷ others) (suc n) less = item_within others n (omega (arith, less))

-- an item of two lists, one behind the other, is of the first or of the second
pub data IsEither {A B E : Type 0} (here : A → E) (there : B → E) (front : List A) (back : List B) (place : ℕ)
    (found : E) : Type 0 where
  of_first : (item : A) → place < length front → slice_get front place ≡ Some item → found ≡ here item →
      IsEither here there front back place found
  of_second : (behind : ℕ) (item : B) → place ≡ length front + behind → slice_get back behind ≡ Some item →
      found ≡ there item →
      IsEither here there front back place found

-- an item of a mapped list comes of one of the list
pub mapped_item : {A E : Type 0} (change : A → E) (items : List A) (place : ℕ) (found : E) →
    slice_get (map change items) place ≡ Some found →
    (item : A) × (slice_get items place ≡ Some item) × (found ≡ change item)
mapped_item change [] place found at = cc
mapped_item change (first ∷ others) zero found at = (first, refl, sym (same_Some (change first) found at))
mapped_item change (first ∷ others) (suc place) found at = mapped_item change others place found at

-- an item of two mapped lists, one behind the other, comes of an item of the first or of the second
pub either_item : {A B E : Type 0} (here : A → E) (there : B → E) (front : List A) (back : List B) (place : ℕ)
    (found : E) →
    slice_get (map here front ++ map there back) place ≡ Some found → IsEither here there front back place found
either_item here there [] back place found at =
    let one = mapped_item there back place found at in of_second place one.0 (omega arith) one.1 one.2
either_item here there (first ∷ front) back zero found at =
    of_first first (omega arith) refl (sym (same_Some (here first) found at))
either_item {A} {B} {E} here there (first ∷ front) back (suc place) found at =
    go (either_item here there front back place found at)
  where
    go : IsEither here there front back place found → IsEither here there (first ∷ front) back (suc place) found
    go (of_first item less at' is) = of_first item (omega (arith, less)) at' is
    go (of_second behind item place_is at' is) = of_second behind item (omega (arith, place_is)) at' is

-- what holds of all items holds of one
pub all_at : {A : Type 0} (test : A → Bool) (items : List A) (place : ℕ) (item : A) → list_all test items ≡ true →
    slice_get items place ≡ Some item → test item ≡ true
all_at test [] place item all at = cc
all_at {A} test (first ∷ others) place item all at = go (test first) refl place all at (all_at test others)
  where
    go : (own : Bool) → test first ≡ own → (place : ℕ) → (own && list_all test others) ≡ true →
        slice_get (first ∷ others) place ≡ Some item →
        ((place : ℕ) (item : A) → list_all test others ≡ true → slice_get others place ≡ Some item →
        test item ≡ true) → test item ≡ true
    go false is place all at again = cc
    go true is zero all at again = ap test (sym (same_Some first item at)) ∙ is
    go true is (suc place) all at again = again place item all at

-- an item of a list with another item put at a place: that one, there; elsewhere the one that was there
pub set_got : {A : Type 0} (items : List A) (place : ℕ) (put : A) (index : ℕ) (found : A) →
    slice_get (slice_set items place put) index ≡ Some found →
    ((index ≡ place) × (found ≡ put)) ⊎ ((index ≡ place → ⊥) × (slice_get items index ≡ Some found))
set_got [] place put index found at = cc
set_got (first ∷ others) zero put zero found at = inl (refl, sym (same_Some put found at))
set_got (first ∷ others) zero put (suc index) found at = inr (λ same. omega (arith, same), at)
set_got (first ∷ others) (suc place) put zero found at = inr (λ same. omega (arith, same), at)
set_got {A} (first ∷ others) (suc place) put (suc index) found at = go (set_got others place put index found at)
  where
    go : ((index ≡ place) × (found ≡ put)) ⊎ ((index ≡ place → ⊥) × (slice_get others index ≡ Some found)) →
        ((suc index ≡ suc place) × (found ≡ put)) ⊎
        ((suc index ≡ suc place → ⊥) × (slice_get others index ≡ Some found))
    go (inl here) = inl (ap suc here.0, here.1)
    go (inr other) = inr (λ same. other.0 (omega (arith, same)), other.1)

-- the list stays as long
pub set_long : {A : Type 0} (xs : List A) (place : ℕ) (y : A) → length (slice_set xs place y) ≡ length xs
set_long [] place y = refl
set_long (first ∷ others) zero y = refl
set_long (first ∷ others) (suc place) y = ap suc (set_long others place y)

-- an item of a mapped list
pub item_mapped : {A B : Type 0} (f : A → B) (xs : List A) (n : ℕ) →
    slice_get (map f xs) n ≡ option_map f (slice_get xs n)
item_mapped f [] n = refl
item_mapped f (x ∷ xs) zero = refl
item_mapped f (x ∷ xs) (suc n) = item_mapped f xs n

-- an item of the first of two lists
pub item_first : {A E : Type 0} (change : A → E) (items : List A) (behind : List E) (place : ℕ) (item : A) →
    slice_get items place ≡ Some item →
    slice_get (map change items ++ behind) place ≡ Some (change item)
item_first change [] behind place item at = cc
item_first change (first ∷ others) behind zero item at = ap Some (ap change (same_Some first item at))
item_first change (first ∷ others) behind (suc place) item at = item_first change others behind place item at

-- an item behind the first of two lists
pub item_second : {A E : Type 0} (change : A → E) (items : List A) (behind : List E) (place : ℕ) →
    slice_get items place ≡ None →
    slice_get (map change items ++ behind) place ≡ slice_get behind (place - length items)
item_second change [] behind place none = let same : place ≡ place - 0 = omega arith in ap (slice_get behind) same
item_second change (first ∷ others) behind zero none = cc
item_second change (first ∷ others) behind (suc place) none =
    let same : place - length others ≡ suc place - suc (length others) = omega arith in
    item_second change others behind place none ∙ ap (slice_get behind) same
