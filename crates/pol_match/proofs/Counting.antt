-- How many numbers pass a test.
use Rattle.std.proofs.Common.{◌≡◌, ◌⊎◌, ℕ, zero, suc, ◌<◌, ◌≤◌, eqb, Bool, true, false, not, List, [], ◌∷◌, map, length}
use Rattle.std.proofs.Common.{refl, arith, sym, subst, ⊎_elim, inl, inr}
use Rattle.std.specs.List.{list_any, AllByRecursion, IsDistinct}
use Rattle.std.proofs.lemmas.Cmp.{nat_eq_equiv}
use Rattle.std.proofs.lemmas.Bool.Decides.{nat_tests}
use Rattle.std.proofs.lemmas.Bool.{cases_Bool, cases_eq}
use Rattle.std.proofs.lemmas.List.{length-map}
use Rattle.std.proofs.lemmas.Map.Keys.{IsDistinct-cons}
use Rattle.std.proofs.lemmas.Map.Made.{length-le_from_is_member}
use Rattle.pol_match.specs.Places.{is_in, passing, IsWithin}

-- the number is in the list
abbrev pub Has : List ℕ → ℕ → Type 0
Has xs x = list_any (eqb x) xs ≡ true

-- the first number is in the list
pub Has-head : (x : ℕ) (xs : List ℕ) → Has (x ∷ xs) x
Has-head x xs = let same : eqb x x ≡ true = grind (arith, nat_tests) in rw same refl

-- what is in the rest is in the list
pub Has-tail : (x y : ℕ) (xs : List ℕ) → Has xs x → Has (y ∷ xs) x
Has-tail x y xs has = ⊎_elim (λ holds. rw holds refl) (λ fails. rw fails has) (cases_Bool (eqb x y))

-- what is in the list is the first number or in the rest
pub Has-cases : (x y : ℕ) (xs : List ℕ) → Has (y ∷ xs) x → (x ≡ y) ⊎ Has xs x
Has-cases x y xs has =
    ⊎_elim (λ holds. inl (grind (arith, nat_tests))) (λ fails. inr (rw fails at has)) (cases_Bool (eqb x y))

-- what passes is in the list
pub passing_has : (test : ℕ → Bool) (end x : ℕ) → x < end → test x ≡ true → Has (passing test end) x
passing_has test zero x low passes = absurd (omega arith)
passing_has test (suc end) x low passes =
    ⊎_elim
    (λ holds. rw holds (⊎_elim
    (λ equal. subst (λ (y : ℕ). Has (y ∷ passing test end) x) equal (Has-head x (passing test end)))
    (λ differs. Has-tail x end (passing test end) (passing_has test end x (omega arith) passes))
    (cases_eq x end)))
    (λ fails. rw fails (⊎_elim
    (λ equal. let holds : test x ≡ false = rw equal fails in cc)
    (λ differs. passing_has test end x (omega arith) passes)
    (cases_eq x end)))
    (cases_Bool (test end))

-- what is in the list passes
pub has_passing : (test : ℕ → Bool) (end x : ℕ) → Has (passing test end) x → (x < end) × (test x ≡ true)
has_passing test zero x has = cc
has_passing test (suc end) x has =
    ⊎_elim
    (λ holds. ⊎_elim
    (λ equal. (omega arith, rw equal holds))
    (λ rest. let passed = has_passing test end x rest in (omega (arith, passed.0), passed.1))
    (Has-cases x end (passing test end) (rw holds at has)))
    (λ fails. let passed = has_passing test end x (rw fails at has) in (omega (arith, passed.0), passed.1))
    (cases_Bool (test end))

-- a number that isn't in the list differs from each of it
pub apart : (x : ℕ) (xs : List ℕ) → (Has xs x → ⊥) → AllByRecursion (λ y. eqb x y ≡ false) xs
apart x [] none = tt
apart x (y ∷ xs) none = (
  ⊎_elim (λ holds. absurd (none (rw holds refl))) (λ fails. fails) (cases_Bool (eqb x y)),
  apart x xs
      (λ passed. none (Has-tail x y xs passed)),
)

-- one number more that isn't in the list leaves it without repetition
pub distinct_more : (x : ℕ) (xs : List ℕ) → (Has xs x → ⊥) → IsDistinct eqb xs → IsDistinct eqb (x ∷ xs)
distinct_more x xs none rest = IsDistinct-cons eqb x xs (apart x xs none) rest

-- the numbers that pass are without repetition
pub passing_distinct : (test : ℕ → Bool) (end : ℕ) → IsDistinct eqb (passing test end)
unfolding IsDistinct
passing_distinct test zero = tt
passing_distinct test (suc end) =
    ⊎_elim
    (λ holds. rw holds (distinct_more end (passing test end)
    (λ passed. let below = (has_passing test end end passed).0 in omega arith) (passing_distinct test end)))
    (λ fails. rw fails (passing_distinct test end))
    (cases_Bool (test end))

-- a list without repetition whose members are all in another one is no longer
pub no_longer : (xs ys : List ℕ) → IsDistinct eqb xs → ((x : ℕ) → Has xs x → Has ys x) → length xs ≤ length ys
no_longer xs ys distinct each = length-le_from_is_member nat_eq_equiv xs ys distinct each

-- how many numbers below n pass
pub count : (ℕ → Bool) → ℕ → ℕ
count test end = length (passing test end)

-- fewer pass a test that lets through one number less, and no other
pub fewer : (test other : ℕ → Bool) (end x : ℕ) → ((y : ℕ) → test y ≡ true → other y ≡ true) → x < end → other x ≡ true
    → test x ≡ false → count test end < count other end
unfolding count
fewer test other end x each low passes fails =
    let one_more = no_longer (x ∷ passing test end) (passing other end)
    (distinct_more x (passing test end) (λ passed. let holds = (has_passing test end x passed).1 in cc)
    (passing_distinct test end))
    (λ y passed. ⊎_elim
    (λ equal. let holds : other y ≡ true = rw equal passes in let below : y < end = omega arith in
    passing_has other end y below holds)
    (λ rest. let passed = has_passing test end y rest in passing_has other end y passed.0 (each y passed.1))
    (Has-cases y x (passing test end) passed)) in
    omega arith

-- how many places aren't in the set
pub unseen : ℕ → ℕ
unseen seen = count (λ place. not (is_in seen place)) 64

-- fewer are left when one more is in the set
pub unseen_less : (seen more place : ℕ) → IsWithin seen more → place < 64 → is_in seen place ≡ false
    → is_in more place ≡ true → unseen more < unseen seen
unfolding unseen
unseen_less seen more place within low out here =
    fewer (λ each. not (is_in more each)) (λ each. not (is_in seen each)) 64 place
    (λ each gone. ⊎_elim
    (λ holds. let still = within each holds in let gone_too : not (is_in more each) ≡ false = rw still refl in cc)
    (λ fails. rw fails refl)
    (cases_Bool (is_in seen each)))
    low (rw out refl) (rw here refl)

-- a number that differs from each of a list isn't in it
not_again : (x : ℕ) (xs : List ℕ) → AllByRecursion (λ y. eqb x y ≡ false) xs → Has xs x → ⊥
not_again x [] differs has = cc
not_again x (y ∷ xs) differs has =
    let fails = differs.0 in not_again x xs differs.1 (rw fails at has)

-- what is in the list of images is the image of a number of the list
has_map : (image : ℕ → ℕ) (xs : List ℕ) (y : ℕ) → Has (map image xs) y → (x : ℕ) × Has xs x × (y ≡ image x)
has_map image [] y has = cc
has_map image (x ∷ xs) y has =
    ⊎_elim
    (λ equal. (x, Has-head x xs, equal))
    (λ rest. let found = has_map image xs y rest in (found.0, Has-tail found.0 x xs found.1, found.2))
    (Has-cases y (image x) (map image xs) has)

-- where each number has its own image, the images are without repetition
map_distinct : (image : ℕ → ℕ) (xs : List ℕ) → IsDistinct eqb xs
    → ((x y : ℕ) → Has xs x → Has xs y → image x ≡ image y → x ≡ y) → IsDistinct eqb (map image xs)
unfolding IsDistinct
map_distinct image [] distinct once = tt
map_distinct image (x ∷ xs) distinct once =
    distinct_more (image x) (map image xs)
    (λ has. let found = has_map image xs (image x) has in
    let equal : x ≡ found.0 = once x found.0 (Has-head x xs) (Has-tail found.0 x xs found.1) found.2 in
    not_again x xs distinct.0 (subst (λ (y : ℕ). Has xs y) (sym equal) found.1))
    (map_distinct image xs distinct.1 (λ y z has has_too equal. once y z (Has-tail y x xs has) (Has-tail z x xs has_too)
    equal))

-- where each number of a list without repetition has its own in another list, and one there is left over, that one is
-- longer
pub one_spare : (image : ℕ → ℕ) (xs ys : List ℕ) (spare : ℕ) → IsDistinct eqb xs
    → ((x : ℕ) → Has xs x → Has ys (image x)) → ((x y : ℕ) → Has xs x → Has xs y → image x ≡ image y → x ≡ y)
    → Has ys spare → ((x : ℕ) → Has xs x → spare ≡ image x → ⊥) → length xs < length ys
one_spare image xs ys spare distinct each once there left =
    let all = no_longer (spare ∷ map image xs) ys
    (distinct_more spare (map image xs) (λ has. let found = has_map image xs spare has in left found.0 found.1 found.2)
    (map_distinct image xs distinct once))
    (λ y has. ⊎_elim
    (λ equal. subst (λ (z : ℕ). Has ys z) (sym equal) there)
    (λ rest. let found = has_map image xs y rest in subst (λ (z : ℕ). Has ys z) (sym found.2) (each found.0 found.1))
    (Has-cases y spare (map image xs) has)) in
    omega (arith, all, length-map xs image)
