-- Bindings of roles to tags, and assignments of rows to places.
use Rattle.std.proofs.Common.{◌≡◌, ℕ, zero, suc, ◌<◌, ◌≤◌, Bool, true, false, ◌&&◌, Ordering, Less, Equal, Greater}
use Rattle.std.proofs.Common.{List, [], ◌∷◌, map, length, get_or, refl, arith, sym, ◌∙◌, ap, subst, ⊎_elim}
use Rattle.std.specs.Prelude.{slice_index}
use Rattle.std.specs.List.{list_any, position_or_len, range_with_len}
use Rattle.std.specs.List.Sorted.{IsStrictlySortedBy}
use Rattle.std.specs.Ordering.{ordering_then, is_eq}
use Rattle.std.specs.Str.{bytes_eq}
use Rattle.std.specs.Cmp.Lexicographic.{slice_cmp}
use Rattle.std.proofs.lemmas.Bool.{and_parts, cases_lt, cases_eq}
use Rattle.std.proofs.lemmas.List.{get_or-map, length-map}
use Rattle.std.proofs.lemmas.List.Elements.{All-from_recursion}
use Rattle.std.proofs.lemmas.List.Folds.{Any-from_list_any, list_any_at}
use Rattle.std.proofs.lemmas.List.Sums.{fails_before_first, passes_at_first}
use Rattle.std.proofs.lemmas.List.FromFn.{get_or-map-range_with_len, length-map-range_with_len}
use Rattle.std.proofs.lemmas.Map.Text.{is_eq-slice_cmp}
use Rattle.std.proofs.lemmas.Slice.Eq.{bytes_eq-Decides}
use Rattle.pol_match.specs.Places.{is_in, set_of}
use Rattle.pol_match.specs.Seats.{fits}
use Rattle.pol_match.specs.Assignments.{IsAssignment, IsLeastAssignment, HaveNone}
use Rattle.pol_match.specs.Bindings.{name_cmp}
use Rattle.pol_match.proofs.Chains.{row_there}
use Rattle.pol_match.proofs.Tables.{in_set_of, passes_at}

-- ---- the order of names

-- what the test for equality lets through is equal
equal_by : (order : Ordering) → is_eq order ≡ true → order ≡ Equal
equal_by Less equal = cc
equal_by Equal equal = refl
equal_by Greater equal = cc

-- a name is equal to itself
pub equal_itself : (name other : List ℕ) → name ≡ other → name_cmp name other ≡ Equal
equal_itself name other equal =
    equal_by (name_cmp name other) (is_eq-slice_cmp name other ∙ (bytes_eq-Decides name other).1 equal)

-- names that compare alike are one
pub one_name : (name other : List ℕ) → name_cmp name other ≡ Equal → name ≡ other
one_name name other equal = (bytes_eq-Decides name other).0 (sym (is_eq-slice_cmp name other) ∙ ap is_eq equal)

-- a later name of a sorted list is greater
pub later_greater : (names : List (List ℕ)) (i j : ℕ) → IsStrictlySortedBy name_cmp names → i < j → j < length names
    → name_cmp (get_or names i []) (get_or names j []) ≡ Less
unfolding IsStrictlySortedBy
later_greater [] i j sorted less low = absurd (omega arith)
later_greater (name ∷ names) i zero sorted less low = absurd (omega arith)
later_greater (name ∷ names) zero (suc j) sorted less low =
    All-from_recursion (λ y. name_cmp name y ≡ Less) names sorted.0 j [] (omega arith)
later_greater (name ∷ names) (suc i) (suc j) sorted less low =
    later_greater names i j sorted.1 (omega arith) (omega arith)

-- a sorted list has a name once
pub name_once : (names : List (List ℕ)) (i j : ℕ) → IsStrictlySortedBy name_cmp names → i < length names
    → j < length names → get_or names i [] ≡ get_or names j [] → i ≡ j
name_once names i j sorted low also same =
    ⊎_elim
    (λ less. let below = later_greater names i j sorted less also in
    let equal = equal_itself (get_or names i []) (get_or names j []) same in absurd cc)
    (λ more. ⊎_elim
    (λ less. let below = later_greater names j i sorted less low in
    let equal = equal_itself (get_or names j []) (get_or names i []) (sym same) in absurd cc)
    (λ least. omega arith)
    (cases_lt j i))
    (cases_lt i j)

-- a name at an earlier place or the same is not greater
pub not_greater : (names : List (List ℕ)) (i j : ℕ) → IsStrictlySortedBy name_cmp names → i ≤ j → j < length names
    → name_cmp (get_or names i []) (get_or names j []) ≡ Greater → ⊥
not_greater names i j sorted less low greater =
    ⊎_elim
    (λ equal. let same = equal_itself (get_or names i []) (get_or names j []) (ap (λ k. get_or names k []) equal) in cc)
    (λ apart. let below = later_greater names i j sorted (omega arith) low in cc)
    (cases_eq i j)

-- two lists of names agree below a place
abbrev pub SameBelow : List (List ℕ) → List (List ℕ) → ℕ → Type 0
SameBelow names others row = (each : ℕ) → each < row → get_or others each [] ≡ get_or names each []

-- where two lists agree below a place, they agree below the next behind a name that is the same
same_below : (name other : List ℕ) (names others : List (List ℕ)) → other ≡ name → (row : ℕ)
    → SameBelow names others row → SameBelow (name ∷ names) (other ∷ others) (suc row)
same_below name other names others equal row agree zero low = equal
same_below name other names others equal row agree (suc each) low = agree each (omega arith)

-- a list of names that isn't greater at the first place where it differs isn't greater
pub list_not_greater : (names others : List (List ℕ)) → length names ≡ length others
    → ((row : ℕ) → row < length names → SameBelow names others row
    → name_cmp (get_or names row []) (get_or others row []) ≡ Greater → ⊥) → slice_cmp name_cmp names others ≡ Greater
    → ⊥
list_not_greater [] [] long first greater = cc
list_not_greater [] (other ∷ others) long first greater = cc
list_not_greater (name ∷ names) [] long first greater = absurd (omega arith)
list_not_greater (name ∷ names) (other ∷ others) long first greater =
    by_first (name_cmp name other) refl (list_not_greater names others (omega arith))
  where
    by_first : (order : Ordering) → name_cmp name other ≡ order
        → (((row : ℕ) → row < length names → SameBelow names others row
        → name_cmp (get_or names row []) (get_or others row []) ≡ Greater → ⊥)
        → slice_cmp name_cmp names others ≡ Greater → ⊥) → ⊥
    by_first Less equal rest =
        let less = ap (λ order. ordering_then order (slice_cmp name_cmp names others)) equal in cc
    by_first Greater equal rest = first zero (omega arith) (λ each none. absurd (omega arith)) equal
    by_first Equal equal rest =
        let same = ap (λ order. ordering_then order (slice_cmp name_cmp names others)) equal in
        rest (λ row low agree. first (suc row) (omega arith)
        (same_below name other names others (sym (one_name name other equal)) row agree))
        (sym same ∙ greater)

-- ---- rows by roles, places by candidates

-- the rows: for each role the set of the candidates that fit it
abbrev pub table : {Each : Type 0} → (List ℕ → Each → Bool) → List Each → List (List ℕ) → List ℕ
table fit all roles = map (λ role. set_of (map (fit role) all)) roles

-- whether a row fits a place is whether the candidate at the place fits the role
pub fits_is : {Each : Type 0} (fit : List ℕ → Each → Bool) (all : List Each) (roles : List (List ℕ)) (row place : ℕ)
    → row < length roles → fits (table fit all roles) row place ≡ get_or (map (fit (get_or roles row []))
    all) place false
fits_is fit all roles row place low =
    ap (λ set. is_in set place) (get_or-map (λ role. set_of (map (fit role) all)) roles row [] 0 low)
    ∙ in_set_of (map (fit (get_or roles row [])) all) place

-- where a row fits a place, the role and the candidate are there and fit
pub fits_there : {Each : Type 0} (fit : List ℕ → Each → Bool) (all : List Each) (roles : List (List ℕ)) (row place : ℕ)
    (blank : Each) → fits (table fit all roles) row place ≡ true
    → (row < length roles) × (place < length all) × (fit (get_or roles row []) (get_or all place blank) ≡ true)
fits_there fit all roles row place blank holds =
    let inside : row < length roles = omega (
      arith,
      row_there (table fit all roles) row place holds,
      length-map roles
          (λ role. set_of (map (fit role) all)),
    ) in
    let passes = passes_at (fit (get_or roles row [])) all place blank
    (sym (fits_is fit all roles row place inside) ∙ holds) in
    (inside, passes.0, passes.1)

-- a candidate with this tag fits the role
abbrev pub is_well : {Each : Type 0} → (Each → List ℕ) → (List ℕ → Each → Bool) → List ℕ → List ℕ → Each → Bool
is_well tag fit role name each = bytes_eq (tag each) name && fit role each

-- tags for the roles, in order: of candidates that fit, no two the same
pub record AreBound {Each : Type 0} (tag : Each → List ℕ) (fit : List ℕ → Each → Bool) (all : List Each)
    (roles bound : List (List ℕ)) : Type 0 where
  pub long : length bound ≡ length roles
  pub well : (row : ℕ) → row < length roles → list_any (is_well tag fit (get_or roles row [])
      (get_or bound row [])) all ≡ true
  pub once : (i j : ℕ) → i < length roles → j < length roles → get_or bound i [] ≡ get_or bound j [] → i ≡ j

-- where some element passes, the first that does is there
pub first_passes : {Each : Type 0} (test : Each → Bool) (all : List Each) (blank : Each) → list_any test all ≡ true
    → (position_or_len test all < length all) × (test (get_or all (position_or_len test all) blank) ≡ true)
first_passes test all blank some =
    let found = Any-from_list_any test all some in
    let low : position_or_len test all < length all = ⊎_elim
    (λ before.
    let fails : test (get_or all found.0 found.1) ≡ false = fails_before_first test all found.0 found.1 before in
    let passes : test (get_or all found.0 found.1) ≡ true = ap test found.3 ∙ found.4 in
    absurd cc)
    (λ after. omega (arith, after, found.2))
    (cases_lt found.0 (position_or_len test all)) in
    (low, passes_at_first test all blank low)

-- the places of the tags that are bound
pub places_for : {Each : Type 0} → (Each → List ℕ) → (List ℕ → Each → Bool) → List Each → List (List ℕ) → List (List ℕ)
    → List ℕ
places_for tag fit all roles bound = map (λ row. position_or_len
    (is_well tag fit (get_or roles row []) (get_or bound row [])) all) (range_with_len 0 (length roles))

-- the place of a bound tag is the first one whose candidate has the tag and fits the role
pub place_for : {Each : Type 0} (tag : Each → List ℕ) (fit : List ℕ → Each → Bool) (all : List Each)
    (roles bound : List (List ℕ)) (row : ℕ) → row < length roles
    → slice_index (places_for tag fit all roles bound) row ≡ position_or_len
    (is_well tag fit (get_or roles row []) (get_or bound row [])) all
unfolding places_for
place_for tag fit all roles bound row low = get_or-map-range_with_len
    (λ i. position_or_len (is_well tag fit (get_or roles i []) (get_or bound i [])) all) 0 (length roles) row row 0 low
    (omega arith)

-- the candidate at the place of a bound tag has the tag and fits
pub record IsPlaceOf {Each : Type 0} (tag : Each → List ℕ) (fit : List ℕ → Each → Bool) (all : List Each)
    (role name : List ℕ) (place : ℕ) (blank : Each) : Type 0 where
  pub low : place < length all
  pub tagged : tag (get_or all place blank) ≡ name
  pub fitting : fit role (get_or all place blank) ≡ true

-- at the place of a bound tag is a candidate that has the tag and fits the role
pub place_of_bound : {Each : Type 0} (tag : Each → List ℕ) (fit : List ℕ → Each → Bool) (all : List Each)
    (roles bound : List (List ℕ)) (blank : Each) (row : ℕ) → AreBound tag fit all roles bound → row < length roles
    → IsPlaceOf tag fit all (get_or roles row []) (get_or bound row [])
    (slice_index (places_for tag fit all roles bound) row) blank
place_of_bound tag fit all roles bound blank row are low =
    let test = is_well tag fit (get_or roles row []) (get_or bound row []) in
    let passes = first_passes test all blank (are.well row low) in
    let parts = and_parts (bytes_eq (tag (get_or all (position_or_len test all) blank)) (get_or bound row []))
    (fit (get_or roles row []) (get_or all (position_or_len test all) blank)) passes.1 in
    subst (λ (place : ℕ). IsPlaceOf tag fit all (get_or roles row []) (get_or bound row []) place blank)
    (sym (place_for tag fit all roles bound row low))
    (record {
      low = passes.0;
      tagged = (bytes_eq-Decides (tag (get_or all (position_or_len test all) blank)) (get_or bound row [])).0 parts.0;
      fitting = parts.1;
    })

-- bound tags give an assignment
pub assigned_by_bound : {Each : Type 0} (tag : Each → List ℕ) (fit : List ℕ → Each → Bool) (all : List Each)
    (roles bound : List (List ℕ)) (blank : Each) → AreBound tag fit all roles bound
    → IsAssignment (table fit all roles) (places_for tag fit all roles bound)
unfolding places_for
assigned_by_bound tag fit all roles bound blank are =
    record {
      all = length-map-range_with_len (λ row. position_or_len
          (is_well tag fit (get_or roles row []) (get_or bound row [])) all) 0 (length roles) ∙ sym long;
      fit = λ row low.
          let inside : row < length roles = omega (arith, long) in
          let ours = place_of_bound tag fit all roles bound blank row are inside in
          let place = slice_index (places_for tag fit all roles bound) row in
          fits_is fit all roles row place inside
          ∙ (get_or-map (fit (get_or roles row [])) all place blank false ours.low ∙ ours.fitting);
      once = λ one other low also equal.
          let inside : one < length roles = omega (arith, long) in
          let within : other < length roles = omega (arith, long) in
          let ours = place_of_bound tag fit all roles bound blank one are inside in
          let theirs = place_of_bound tag fit all roles bound blank other are within in
          are.once one other inside within (sym ours.tagged
          ∙ (ap (λ place. tag (get_or all place blank)) equal ∙ theirs.tagged));
    }
  where
    long : length (table fit all roles) ≡ length roles
    long = length-map roles (λ role. set_of (map (fit role) all))

-- where there is no assignment, no tags are bound
pub none_bound : {Each : Type 0} (tag : Each → List ℕ) (fit : List ℕ → Each → Bool) (all : List Each)
    (roles bound : List (List ℕ)) (blank : Each) → HaveNone (table fit all roles) → AreBound tag fit all roles bound → ⊥
none_bound tag fit all roles bound blank none are =
    none (places_for tag fit all roles bound) (assigned_by_bound tag fit all roles bound blank are)

-- the tags at these places
abbrev pub tags_at : {Each : Type 0} → (Each → List ℕ) → List Each → List ℕ → List (List ℕ)
tags_at tag all places = map (λ place. get_or (map tag all) place []) places

-- the tag at a row's place is that of the candidate there
tag_at : {Each : Type 0} (tag : Each → List ℕ) (all : List Each) (places : List ℕ) (row : ℕ) (blank : Each)
    → row < length places → slice_index places row < length all
    → get_or (tags_at tag all places) row [] ≡ tag (get_or all (slice_index places row) blank)
tag_at tag all places row blank low inside = get_or-map (λ place. get_or (map tag all) place []) places row 0 [] low
    ∙ get_or-map tag all (slice_index places row) blank [] inside

-- an assignment gives bound tags
pub bound_by_assigned : {Each : Type 0} (tag : Each → List ℕ) (fit : List ℕ → Each → Bool) (all : List Each)
    (roles : List (List ℕ)) (places : List ℕ) (blank : Each) → IsStrictlySortedBy name_cmp (map tag all)
    → IsAssignment (table fit all roles) places → AreBound tag fit all roles (tags_at tag all places)
bound_by_assigned tag fit all roles places blank sorted assignment =
    record {
      long = length-map places (λ place. get_or (map tag all) place []) ∙ (assignment.all ∙ long);
      well = λ row low.
          let there = fits_there fit all roles row (slice_index places row) blank
          (assignment.fit row (omega (arith, long))) in
          let equal = tag_at tag all places row blank (omega (arith, long, assignment.all)) there.1 in
          let same = (bytes_eq-Decides (tag (get_or all (slice_index places row) blank))
          (get_or (tags_at tag all places) row [])).1 (sym equal) in
          let holds = there.2 in
          list_any_at (is_well tag fit (get_or roles row []) (get_or (tags_at tag all places) row [])) all
          (slice_index places row) blank there.1
          (ap (λ answer. answer && fit (get_or roles row []) (get_or all (slice_index places row) blank)) same ∙ holds);
      once = λ i j low also equal.
          let there = fits_there fit all roles i (slice_index places i) blank
          (assignment.fit i (omega (arith, long))) in
          let here = fits_there fit all roles j (slice_index places j) blank (assignment.fit j (omega (arith, long))) in
          let one_tag : get_or (tags_at tag all places) i [] ≡ get_or (map tag all) (slice_index places i) [] =
          get_or-map (λ place. get_or (map tag all) place []) places i 0 [] (omega (arith, long, assignment.all)) in
          let other_tag : get_or (tags_at tag all places) j [] ≡ get_or (map tag all) (slice_index places j) [] =
          get_or-map (λ place. get_or (map tag all) place []) places j 0 [] (omega (arith, long, assignment.all)) in
          let same = name_once (map tag all) (slice_index places i) (slice_index places j) sorted
          (omega (arith, there.1, length-map all tag)) (omega (arith, here.1, length-map all tag))
          (sym one_tag ∙ (equal ∙ other_tag)) in
          assignment.once i j (omega (arith, long)) (omega (arith, long)) same;
    }
  where
    long : length (table fit all roles) ≡ length roles
    long = length-map roles (λ role. set_of (map (fit role) all))

-- the least assignment gives the least tags
pub least_bound : {Each : Type 0} (tag : Each → List ℕ) (fit : List ℕ → Each → Bool) (all : List Each)
    (roles : List (List ℕ)) (places : List ℕ) (others : List (List ℕ)) (blank : Each)
    → IsStrictlySortedBy name_cmp (map tag all) → IsLeastAssignment (table fit all roles) places
    → AreBound tag fit all roles others → slice_cmp name_cmp (tags_at tag all places) others ≡ Greater → ⊥
least_bound tag fit all roles places others blank sorted least are =
    list_not_greater (tags_at tag all places) others (length-map places (λ place. get_or (map tag all) place [])
    ∙ (least.assignment.all ∙ (long ∙ sym are.long)))
    (λ row low agree greater.
    let inside : row < length roles = omega (
      arith,
      low,
      long,
      least.assignment.all,
      length-map places
          (λ place. get_or (map tag all) place []),
    ) in
    let lower = least.least (places_for tag fit all roles others) row
    (assigned_by_bound tag fit all roles others blank are) (omega (arith, long))
    (λ each less. agree_at each (omega arith) (agree each less)) in
    let theirs = place_of_bound tag fit all roles others blank row are inside in
    not_greater (map tag all) (slice_index places row) (slice_index (places_for tag fit all roles others) row) sorted
    lower (omega (arith, theirs.low, length-map all tag))
    (sym (ap (λ name. name_cmp name (get_or others row [])) (here row inside)
    ∙ ap (λ name. name_cmp (get_or (map tag all) (slice_index places row) []) name) (there row inside)) ∙ greater))
  where
    long : length (table fit all roles) ≡ length roles
    long = length-map roles (λ role. set_of (map (fit role) all))

    here : (row : ℕ) → row < length roles → get_or (tags_at tag all places) row [] ≡ get_or (map tag all) (slice_index
        places row) []
    here row inside =
        get_or-map (λ place. get_or (map tag all) place []) places row 0 [] (omega (arith, long, least.assignment.all))

    there : (row : ℕ) → row < length roles → get_or others row [] ≡ get_or (map tag all) (slice_index
        (places_for tag fit all roles others) row) []
    there row inside =
        let theirs = place_of_bound tag fit all roles others blank row are inside in
        sym (get_or-map tag all (slice_index (places_for tag fit all roles others) row) blank [] theirs.low
        ∙ theirs.tagged)

    agree_at : (each : ℕ) → each < length roles → get_or others each [] ≡ get_or (tags_at tag all places) each []
        → slice_index (places_for tag fit all roles others) each ≡ slice_index places each
    agree_at each inside same =
        let theirs = place_of_bound tag fit all roles others blank each are inside in
        let ours = fits_there fit all roles each (slice_index places each) blank
        (least.assignment.fit each (omega (arith, long))) in
        name_once (map tag all) (slice_index (places_for tag fit all roles others) each) (slice_index places each)
        sorted (omega (arith, theirs.low, length-map all tag)) (omega (arith, ours.1, length-map all tag))
        (sym (there each inside) ∙ (same ∙ here each inside))
