-- Which places of a list pass a test.
use Rattle.std.proofs.Common.{ℕ, zero, suc, ◌⊎◌, inl, inr, ◌≡◌, ◌+◌, ◌<◌, ◌==◌, ◌||◌, ◌&&◌, Bool, true, false, List, [], ◌∷◌, length, get_or, take, map, Option, Some, None, refl, sym, ap, arith}
use Rattle.std.specs.List.{find, list_any, slice_get}
use Rattle.std.specs.Option.{option_and_then}
use Rattle.std.proofs.lemmas.Bool.Decides.{nat_tests}
use Rattle.pol_policy.specs.Places.{IsFirstOf, passes_at}

-- two tests at once
pub passes_both : {A : Type 0} (one other : A → Bool) (items : List A) (place : ℕ)
    → passes_at (λ item. one item && other item) items place ≡ (passes_at one items place
    && passes_at other items place)
passes_both one other [] place = refl
passes_both one other (item ∷ items) zero = refl
passes_both one other (item ∷ items) (suc place) = passes_both one other items place

-- a list seen through a view
pub passes_map : {A B : Type 0} (view : A → B) (test : B → Bool) (items : List A) (place : ℕ)
    → passes_at test (map view items) place ≡ passes_at (λ item. test (view item)) items place
passes_map view test [] place = refl
passes_map view test (item ∷ items) zero = refl
passes_map view test (item ∷ items) (suc place) = passes_map view test items place

-- one item
pub passes_within : {A : Type 0} (test : A → Bool) (items : List A) (place : ℕ) (item : A) → place < length items
    → item ≡ get_or items place item → passes_at test items place ≡ test item
passes_within test [] place item inside is = absurd (omega arith)
passes_within test (first ∷ items) zero item inside is = ap test (sym is)
passes_within test (first ∷ items) (suc place) item inside is = passes_within test items place item (omega arith) is

-- true beside it changes nothing
pub and_true : (b : Bool) → (b && true) ≡ b
and_true true = refl
and_true false = refl

-- false beside it is false
pub and_false : (b : Bool) → (b && false) ≡ false
and_false true = refl
and_false false = refl

-- false beside it changes nothing
or_false : (b : Bool) → (b || false) ≡ b
or_false true = refl
or_false false = refl

-- numbers are equal where their successors are
same_after : (m n : ℕ) → (suc m == suc n) ≡ (m == n)
same_after m n = grind (arith, nat_tests)

-- no successor is 0
none_after : (n : ℕ) → (suc n == 0) ≡ false
none_after n = grind (arith, nat_tests)

-- 0 is no successor
none_before : (n : ℕ) → (0 == suc n) ≡ false
none_before n = grind (arith, nat_tests)

-- one more item of the list
pub passes_next : {A : Type 0} (test : A → Bool) (items : List A) (i : ℕ) (item : A) → i < length items
    → item ≡ get_or items i item → (place : ℕ)
    → passes_at test (take (suc i) items) place ≡ ((test item && place == i) || passes_at test (take i items) place)
passes_next test [] i item inside is place = absurd (omega arith)
passes_next test (first ∷ items) zero item inside is zero = rw (is, and_true (test first)) (sym (or_false (test first)))
passes_next test (first ∷ items) zero item inside is (suc place) = rw (none_after place, and_false (test item)) refl
passes_next test (first ∷ items) (suc i) item inside is zero = rw (none_before i, and_false (test item)) refl
passes_next test (first ∷ items) (suc i) item inside is (suc place) =
    rw (same_after place i) (passes_next test items i item (omega arith) is place)

-- the same as a loop counts
pub passes_more : {A : Type 0} (test : A → Bool) (items : List A) (i : ℕ) (item : A) → i < length items
    → item ≡ get_or items i item → (place : ℕ)
    → passes_at test (take (i + 1) items) place ≡ ((test item && place == i) || passes_at test (take i items) place)
passes_more test items i item inside is place =
    let next : i + 1 ≡ suc i = omega arith in rw next (passes_next test items i item inside is place)

-- ---- the first place

-- the first place of a set, by the first item of the list
first_step : {A : Type 0} (test : A → Bool) (item : A) (items : List A) (set : ℕ → Bool)
    → set 0 ≡ test item
    → ((first : Option ℕ) → IsFirstOf (λ place. set (suc place)) first
    → option_and_then (slice_get items) first ≡ find test items)
    → (passes : Bool) → test item ≡ passes → (first : Option ℕ) → IsFirstOf set first
    → option_and_then (slice_get (item ∷ items)) first ≡ find test (item ∷ items)
first_step test item items set same later true e None none = let never = none 0 in cc
first_step test item items set same later true e (Some zero) found = rw e refl
first_step test item items set same later true e (Some (suc place)) found =
    let never : set 0 ≡ false = found.1 0 (omega arith) in cc
first_step test item items set same later false e None none = rw e (later None (λ place. none (suc place)))
first_step test item items set same later false e (Some zero) found = let never : set 0 ≡ true = found.0 in cc
first_step test item items set same later false e (Some (suc place)) found =
    rw e (later (Some place) (found.0, λ other before. found.1 (suc other) (omega arith)))

-- the first place of a set is that of the first item that passes
pub first_found : {A : Type 0} (test : A → Bool) (items : List A) (set : ℕ → Bool)
    → ((place : ℕ) → set place ≡ passes_at test items place) → (first : Option ℕ) → IsFirstOf set first
    → option_and_then (slice_get items) first ≡ find test items
first_found test [] set same None none = refl
first_found test [] set same (Some first) found = refl
first_found test (item ∷ items) set same first is =
    first_step test item items set (same 0)
    (λ first is. first_found test items (λ place. set (suc place)) (λ place. same (suc place)) first is)
    (test item) refl first is

-- ---- a place

-- at a place there is an item, or there is none
pub at_place : {A : Type 0} (items : List A) (place : ℕ)
    → ((item : A) × ((test : A → Bool) → passes_at test items place ≡ test item))
    ⊎ ((test : A → Bool) → passes_at test items place ≡ false)
at_place [] place = inr (λ test. refl)
at_place (item ∷ items) zero = inl (item, λ test. refl)
at_place (item ∷ items) (suc place) = at_place items place

-- a test with a second one beside it that is asked only where something holds of the whole
pub passes_either : {A : Type 0} (one other : A → Bool) (asked : Bool) (items : List A) (place : ℕ)
    → passes_at (λ item. one item || (asked && other item)) items place
    ≡ (passes_at one items place || (asked && passes_at other items place))
passes_either one other asked [] place = sym (and_false asked)
passes_either one other asked (item ∷ items) zero = refl
passes_either one other asked (item ∷ items) (suc place) = passes_either one other asked items place

-- ---- some item of a list

-- tests that agree are passed by some item alike
pub any_alike : {A : Type 0} (one other : A → Bool) (items : List A) → ((item : A) → one item ≡ other item)
    → list_any one items ≡ list_any other items
any_alike one other [] same = refl
any_alike one other (item ∷ items) same = rw (same item, any_alike one other items same) refl
