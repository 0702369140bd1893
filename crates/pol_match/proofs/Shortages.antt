-- A crowd of rows is a shortage of the chart.
use Rattle.std.proofs.Common.{◌≡◌, ℕ, zero, suc, ◌+◌, ◌^◌, ◌<◌, ◌≤◌, Bool, true, false, ◌&&◌, ◌||◌, if◌then◌else◌, cond}
use Rattle.std.proofs.Common.{List, [], ◌∷◌, map, filter, length, get_or, take, refl, arith, sym, ◌∙◌, ap, subst}
use Rattle.std.proofs.Common.{⊎_elim, add-zero, zero-add, add-one}
use Rattle.std.specs.Prelude.{slice_index}
use Rattle.std.specs.List.{AllByRecursion, list_any}
use Rattle.std.specs.Str.{bytes_eq}
use Rattle.std.proofs.lemmas.Bool.{cases_Bool}
use Rattle.std.proofs.Math.Bool.{and-true}
use Rattle.std.proofs.lemmas.List.{get_or-map, length-map, take_all}
use Rattle.std.proofs.lemmas.List.Elements.{recursion_from_All}
use Rattle.std.proofs.lemmas.List.Folds.{list_any_at}
use Rattle.std.proofs.lemmas.Map.Views.{any-filter_same}
use Rattle.std.proofs.lemmas.List.Filters.{length-filter_more}
use Rattle.std.proofs.lemmas.Slice.Eq.{bytes_eq-Decides}
use Rattle.mtp_codes.specs.Names.{is_among}
use Rattle.chart_core.specs.Roles.{PlainChart, role_names}
use Rattle.pol_match.specs.Places.{is_in, has_all, passing, places_of, set_of}
use Rattle.pol_match.specs.Assignments.{IsCrowded}
use Rattle.pol_match.specs.Fits.{PlainCandidate, fits_role, rows_for, is_reached, those_at, those_with}
use Rattle.pol_match.specs.Bindings.{IsShortage, tags_in}
use Rattle.pol_match.proofs.PlaceSets.{in_where_has_all}
use Rattle.pol_match.proofs.Counting.{passing_has, has_passing, passing_distinct, no_longer}
use Rattle.pol_match.proofs.Tables.{in_set_of}
use Rattle.pol_match.proofs.BoundTags.{nobody}

-- ---- names that are kept

-- names whose rows pass are the names that a filter by their rows keeps
pub those_with-is : (test : ℕ → Bool) (row_of : List ℕ → ℕ) (names : List (List ℕ))
    → those_with test (map row_of names) names ≡ filter (λ name. test (row_of name)) names
those_with-is test row_of [] = refl
those_with-is test row_of (name ∷ names) =
    ap (λ others. if test (row_of name) then name ∷ others else others) (those_with-is test row_of names)

-- two tests that agree on each name of a list keep the same names
pub filter_same : (keeps passes : List ℕ → Bool) (names : List (List ℕ))
    → AllByRecursion (λ name. keeps name ≡ passes name) names → filter keeps names ≡ filter passes names
filter_same keeps passes [] same = refl
filter_same keeps passes (name ∷ names) same =
    ap (λ answer. cond answer (name ∷ filter keeps names) (filter keeps names)) same.0
    ∙ ap (λ others. cond (passes name) (name ∷ others) others) (filter_same keeps passes names same.1)

-- a name is among the ones kept where it is kept and among all
pub among_kept : (keeps : List ℕ → Bool) (names : List (List ℕ)) (other : List ℕ)
    → is_among (filter keeps names) other ≡ (keeps other && is_among names other)
among_kept keeps names other =
    any-filter_same (λ each. bytes_eq each other) keeps (keeps other)
    (λ each same. ap keeps ((bytes_eq-Decides each other).0 same)) names

-- the names that are kept are those that are among the ones kept
pub kept_again : (keeps : List ℕ → Bool) (names : List (List ℕ))
    → filter keeps names ≡ filter (is_among (filter keeps names)) names
kept_again keeps names = filter_same keeps (is_among (filter keeps names)) names
    (recursion_from_All (λ name. keeps name ≡ is_among (filter keeps names) name) names (λ k blank low.
    let name = get_or names k blank in
    let among : is_among names name ≡ true = list_any_at (λ each. bytes_eq each name) names k blank low
    ((bytes_eq-Decides name name).1 refl) in
    sym (among_kept keeps names name ∙ (ap (λ answer. keeps name && answer) among ∙ and-true (keeps name)))))

-- ---- candidates that are reached

-- tags whose places pass are the tags of the candidates that a filter keeps, where it agrees at each place
pub those_at-is : (test : ℕ → Bool) (passes : PlainCandidate → Bool) (place : ℕ) (candidates : List PlainCandidate)
    → ((i : ℕ) → i < length candidates → test (place + i) ≡ passes (get_or candidates i nobody))
    → those_at test place (tags_in candidates) ≡ tags_in (filter passes candidates)
those_at-is test passes place [] same = refl
those_at-is test passes place (candidate ∷ candidates) same =
    let here : test place ≡ passes candidate = sym (ap test (add-zero place)) ∙ same 0 (omega arith) in
    let rest = those_at-is test passes (place + 1) candidates
    (λ i low. ap test (next place i) ∙ same (suc i) (omega arith)) in
    ap (λ answer. if answer then candidate.tag ∷ those_at test (place + 1) (tags_in candidates) else those_at test
    (place + 1) (tags_in candidates)) here
    ∙ (ap (λ others. if passes candidate then candidate.tag ∷ others else others) rest ∙ by_test (passes candidate))
  where
    next : (from i : ℕ) → (from + 1) + i ≡ from + suc i
    next from i = omega arith

    by_test : (answer : Bool) → (if answer then candidate.tag ∷ tags_in (filter passes candidates) else tags_in
        (filter passes candidates)) ≡ tags_in (cond answer (candidate ∷ filter passes candidates)
        (filter passes candidates))
    by_test true = refl
    by_test false = refl

-- a place is reached where one of the names that are kept fits it
pub reached-is : (set place : ℕ) (row_of : List ℕ → ℕ) (fit : List ℕ → Bool) (names : List (List ℕ))
    → ((name : List ℕ) → is_in (row_of name) place ≡ fit name)
    → is_reached (map row_of names) set place ≡ list_any fit (filter (λ name. has_all set (row_of name)) names)
reached-is set place row_of fit [] same = refl
reached-is set place row_of fit (name ∷ names) same =
    ⊎_elim
    (λ holds. ap (λ answer. (answer && is_in (row_of name) place) || is_reached (map row_of names) set place) holds
    ∙ (ap (λ answer. answer || is_reached (map row_of names) set place) (same name)
    ∙ (ap (λ answer. fit name || answer) (reached-is set place row_of fit names same)
    ∙ sym (ap (λ answer. list_any fit (cond answer (name ∷ filter (λ other. has_all set (row_of other)) names)
    (filter (λ other. has_all set (row_of other)) names))) holds))))
    (λ fails. ap (λ answer. (answer && is_in (row_of name) place) || is_reached (map row_of names) set place) fails
    ∙ (reached-is set place row_of fit names same
    ∙ sym (ap (λ answer. list_any fit (cond answer (name ∷ filter (λ other. has_all set (row_of other)) names)
    (filter (λ other. has_all set (row_of other)) names))) fails)))
    (cases_Bool (has_all set (row_of name)))

-- a place that is reached is in the set
reached_in : (rows : List ℕ) (set place : ℕ) → set < 2 ^ 64 → place < 64 → is_reached rows set place ≡ true
    → is_in set place ≡ true
reached_in [] set place small low reached = cc
reached_in (row ∷ rows) set place small low reached =
    ⊎_elim
    (λ holds. ⊎_elim
    (λ holds_too. in_where_has_all set row place small low holds holds_too)
    (λ fails_too. reached_in rows set place small low (sym (ap (λ answer. answer || is_reached rows set place)
    (ap (λ answer. answer && is_in row place) holds ∙ fails_too)) ∙ reached))
    (cases_Bool (is_in row place)))
    (λ fails. reached_in rows set place small low (sym (ap (λ answer. answer || is_reached rows set place)
    (ap (λ answer. answer && is_in row place) fails)) ∙ reached))
    (cases_Bool (has_all set row))

-- ---- how many

-- one number more passes or not
passing_more : (test : ℕ → Bool) (end : ℕ) → length (passing test (suc
    end)) ≡ length (passing test end) + cond (test end) 1 0
passing_more test end = by_test (test end)
  where
    by_test : (answer : Bool) → length (if answer then end ∷ passing test end else passing test end) ≡ length (passing
        test end) + cond answer 1 0
    by_test true = omega arith
    by_test false = omega arith

-- of the front of a list as many are kept as places below its end pass
count_front : {X : Type 0} (keeps : X → Bool) (test : ℕ → Bool) (xs : List X) (blank : X)
    → ((i : ℕ) → i < length xs → test i ≡ keeps (get_or xs i blank)) → (end : ℕ) → end ≤ length xs
    → length (filter keeps (take end xs)) ≡ length (passing test end)
count_front keeps test xs blank same zero low = refl
count_front keeps test xs blank same (suc end) low =
    let more = length-filter_more keeps xs end blank (omega arith) in
    let before = count_front keeps test xs blank same end (omega arith) in
    let here : cond (test end) 1 0 ≡ cond (keeps (get_or xs end blank)) 1 0 =
    ap {B = ℕ} (λ answer. cond answer 1 0) (same end (omega arith)) in
    let one : length (filter keeps (take (suc end) xs)) ≡ length (filter keeps (take end xs)) + cond
    (keeps (get_or xs end blank)) 1 0 = ap (λ k. length (filter keeps (take k xs))) (sym (add-one end)) ∙ more in
    omega (arith, one, before, here, passing_more test end)

-- of a list as many are kept as places of it pass
count_all : {X : Type 0} (keeps : X → Bool) (test : ℕ → Bool) (xs : List X) (blank : X)
    → ((i : ℕ) → i < length xs → test i ≡ keeps (get_or xs i blank))
    → length (filter keeps xs) ≡ length (passing test (length xs))
count_all keeps test xs blank same = ap (λ ys. length (filter keeps ys)) (sym (take_all (length xs) xs (omega arith)))
    ∙ count_front keeps test xs blank same (length xs) (omega arith)

-- as many names are kept from a place on as places from it on pass
those_long : (test : ℕ → Bool) (start : ℕ) (names : List (List ℕ))
    → length (passing test (start + length names)) ≡ length (passing test start) + length (those_at test start names)
those_long test start [] = ap (λ k. length (passing test k)) (add-zero start) ∙ omega arith
those_long test start (name ∷ names) =
    let shift : length (passing test (start + length (name ∷ names)))
    ≡ length (passing test ((start + 1) + length names)) =
    ap (λ k. length (passing test k)) (shifted start (length names)) in
    let rest = those_long test (start + 1) names in
    let more : length (passing test (start + 1)) ≡ length (passing test start) + cond (test start) 1 0 =
    ap (λ k. length (passing test k)) (add-one start) ∙ passing_more test start in
    omega (arith, shift, rest, more, by_test (test start))
  where
    shifted : (start count : ℕ) → start + suc count ≡ (start + 1) + count
    shifted start count = omega arith

    by_test : (answer : Bool) → length (if answer then name ∷ those_at test (start + 1) names else those_at test
        (start + 1) names) ≡ length (those_at test (start + 1) names) + cond answer 1 0
    by_test true = omega arith
    by_test false = omega arith

-- candidates that are reached stand at places of the set
pub those_few : (rows : List ℕ) (set : ℕ) (names : List (List ℕ)) → set < 2 ^ 64 → length names ≤ 64
    → length (those_at (is_reached rows set) 0 names) ≤ length (places_of set)
unfolding places_of
those_few rows set names small few =
    let within = no_longer (passing (is_reached rows set) (length names)) (passing (is_in set) 64)
    (passing_distinct (is_reached rows set) (length names))
    (λ place has. let passed = has_passing (is_reached rows set) (length names) place has in
    passing_has (is_in set) 64 place (omega (arith, passed.0))
    (reached_in rows set place small (omega (arith, passed.0)) passed.1)) in
    let long = those_long (is_reached rows set) 0 names in
    let same = ap (λ k. length (passing (is_reached rows set) k)) (zero-add (length names)) in
    omega (arith, within, long, same)

-- ---- the shortage

-- a crowd of rows makes a shortage: the roles of these rows, and the tags of all candidates that they reach
pub shortage : (chart : PlainChart) (candidates : List PlainCandidate) (set : ℕ)
    → IsCrowded (rows_for chart candidates) set
    → length (those_at (is_reached (rows_for chart candidates) set) 0 (tags_in candidates)) ≤ length (places_of set)
    → IsShortage chart candidates (those_with (has_all set) (rows_for chart candidates) (role_names chart))
    (those_at (is_reached (rows_for chart candidates) set) 0 (tags_in candidates))
shortage chart candidates set crowded few =
    record {
      roles_of = roles_are ∙ (kept_again kept (role_names chart)
          ∙ ap (λ names. filter (is_among names) (role_names chart)) (sym roles_are));
      tags_of = tags_are ∙ ap (λ names. tags_in (filter (λ candidate. list_any (λ role. fits_role chart role candidate)
          names) candidates)) (sym roles_are);
      fewer =
          let roles_long = ap length roles_are
          ∙ count_all kept (λ row. has_all set (slice_index (rows_for chart candidates) row)) (role_names chart) []
          (λ i low. ap (has_all set) (get_or-map row_of (role_names chart) i [] 0 low)) in
          let long = length-map (role_names chart) row_of in
          let rows_long = ap (λ end. length (passing (λ row. has_all set (slice_index (rows_for chart candidates) row))
          end)) long in
          omega (arith, roles_long, few, crowded, rows_long);
    }
  where
    row_of : List ℕ → ℕ
    row_of role = set_of (map (fits_role chart role) candidates)

    kept : List ℕ → Bool
    kept role = has_all set (row_of role)

    roles_are : those_with (has_all set) (rows_for chart candidates) (role_names chart) ≡ filter kept (role_names chart)
    roles_are = those_with-is (has_all set) row_of (role_names chart)

    reached_at : (i : ℕ) → i < length candidates → is_reached (rows_for chart candidates) set i
        ≡ list_any (λ role. fits_role chart role (get_or candidates i nobody)) (filter kept (role_names chart))
    reached_at i low =
        reached-is set i row_of (λ role. fits_role chart role (get_or candidates i nobody)) (role_names chart)
        (λ name. in_set_of (map (fits_role chart name) candidates) i
        ∙ get_or-map (fits_role chart name) candidates i nobody false low)

    -- the candidate fits one of the roles that are kept
    is_wanted : PlainCandidate → Bool
    is_wanted candidate = list_any (λ role. fits_role chart role candidate) (filter kept (role_names chart))

    tags_are : those_at (is_reached (rows_for chart candidates) set) 0 (tags_in candidates)
        ≡ tags_in (filter is_wanted candidates)
    tags_are = those_at-is (is_reached (rows_for chart candidates) set) is_wanted 0 candidates
        (λ i low. ap (is_reached (rows_for chart candidates) set) (zero-add i) ∙ reached_at i low)

-- the roles and the tags that were answered for a crowd are a shortage
pub shortage_told : (chart : PlainChart) (candidates : List PlainCandidate) (rows : List ℕ) (set : ℕ)
    (roles tags : List (List ℕ)) → rows ≡ rows_for chart candidates
    → roles ≡ those_with (has_all set) rows (role_names chart)
    → tags ≡ those_at (is_reached rows set) 0 (tags_in candidates) → IsCrowded rows set
    → length tags ≤ length (places_of set) → IsShortage chart candidates roles tags
shortage_told chart candidates rows set roles tags same roles_are tags_are crowded few =
    let told_roles = roles_are ∙ ap (λ (table : List ℕ). those_with (has_all set) table (role_names chart)) same in
    let told_tags = tags_are ∙ ap (λ (table : List ℕ). those_at (is_reached table set) 0 (tags_in candidates)) same in
    let base = shortage chart candidates set (subst (λ (table : List ℕ). IsCrowded table set) same crowded)
    (subst (λ (names : List (List ℕ)). length names ≤ length (places_of set)) told_tags few) in
    subst (λ (names : List (List ℕ)). IsShortage chart candidates names tags) (sym told_roles)
    (subst (λ (names : List (List ℕ)). IsShortage chart candidates
    (those_with (has_all set) (rows_for chart candidates) (role_names chart)) names) (sym told_tags) base)
