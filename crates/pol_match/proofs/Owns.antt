-- Places of their own for roles, by the names of the roles: they are there exactly where there is a way.
use Rattle.std.proofs.Common.{◌≡◌, ◌≢◌, ℕ, suc, ◌<◌, Bool, true, false, not, Option, Some, None, List, []}
use Rattle.std.proofs.Common.{◌∷◌, map, length, get_or, take, refl, arith, sym, ◌∙◌, ap, ⊎_elim}
use Rattle.std.specs.Prelude.{is_some, slice_index}
use Rattle.std.specs.List.{AllPairs, list_any, position_or_len}
use Rattle.std.proofs.lemmas.Bool.{and_parts, cases_lt}
use Rattle.std.proofs.lemmas.List.{get_or-map, get_or-take, length-map, length-take-le}
use Rattle.std.proofs.lemmas.List.Folds.{list_any_at}
use Rattle.std.proofs.lemmas.List.Kept.{AllPairs-cons}
use Rattle.std.proofs.lemmas.Slice.Eq.{bytes_eq-Decides}
use Rattle.mtp_codes.specs.Names.{is_among, same_name}
use Rattle.chart_core.specs.Form.{are_distinct}
use Rattle.chart_core.specs.Roles.{PlainChart, role_names}
use Rattle.pol_events.specs.declared.event.Bind.{Bind}
use Rattle.pol_events.specs.Bound.{tags_of}
use Rattle.pol_match.specs.Assignments.{IsAssignment}
use Rattle.pol_match.specs.Bindings.{AreInOrder}
use Rattle.pol_match.specs.Chosen.{can_be_bound, first_way}
use Rattle.pol_match.specs.Fits.{PlainCandidate, fits_role, row_for, rows_for}
use Rattle.pol_match.specs.Places.{is_in}
use Rattle.pol_match.specs.Seats.{holder_at, IsSeating}
use Rattle.pol_match.proofs.BoundTags.{nobody, tag_of}
use Rattle.pol_match.proofs.Bridges.{assigned_by_bound, bound_by_assigned, first_passes, fits_there, places_for, table}
use Rattle.pol_match.proofs.Bridges.{tags_at}
use Rattle.pol_match.proofs.ClosedSets.{held_there}
use Rattle.pol_match.proofs.Ways.{HaveTags, none_first, some_first}

-- ---- names in lists

-- no two of the names are the same
abbrev pub AreOnce : List (List ℕ) → Type 0
AreOnce names = AllPairs (λ one other. one ≢ other) names

-- a name is itself by the test
pub same_itself : (name : List ℕ) → same_name name name ≡ true
same_itself name = (bytes_eq-Decides name name).1 refl

-- the name at a place is among the names
pub at_among : (names : List (List ℕ)) (k : ℕ) → k < length names → is_among names (get_or names k []) ≡ true
at_among names k low =
    list_any_at (λ each. same_name each (get_or names k [])) names k [] low (same_itself (get_or names k []))

-- the place of a name
pub spot_of : List (List ℕ) → List ℕ → ℕ
spot_of names name = position_or_len (λ each. same_name each name) names

-- a name that is among the names is at its place
pub at_spot : (names : List (List ℕ)) (name : List ℕ) → is_among names name ≡ true
    → (spot_of names name < length names) × (get_or names (spot_of names name) [] ≡ name)
unfolding spot_of
at_spot names name among =
    let found = first_passes (λ each. same_name each name) names [] among in
    let at = position_or_len (λ each. same_name each name) names in
    (found.0, (bytes_eq-Decides (get_or names at []) name).0 found.1)

-- where no two are the same, a name has one place
pub one_spot : (names : List (List ℕ)) (i j : ℕ) → AreOnce names → i < length names → j < length names
    → get_or names i [] ≡ get_or names j [] → i ≡ j
one_spot names i j once low also same =
    ⊎_elim
    (λ less. absurd (once i j [] less also same))
    (λ more. ⊎_elim (λ less. absurd (once j i [] less low (sym same))) (λ least. omega arith) (cases_lt j i))
    (cases_lt i j)

-- distinct names are no two the same
pub once_by_test : (names : List (List ℕ)) → are_distinct names ≡ true → AreOnce names
once_by_test [] distinct = λ i j blank less low. absurd (omega arith)
once_by_test (name ∷ names) distinct =
    let parts = and_parts (not (is_among names name)) (are_distinct names) distinct in
    AllPairs-cons (λ one other. one ≢ other) name names
    (λ k blank low equal.
    let among : is_among names name ≡ true = list_any_at (λ each. same_name each name) names k blank low
    ((bytes_eq-Decides (get_or names k blank) name).1 (sym equal)) in
    let fails : not (is_among names name) ≡ false = ap not among in
    let holds = parts.0 in
    cc)
    (once_by_test names parts.1)

-- the first names of such names are such
pub once_first : (names : List (List ℕ)) (count : ℕ) → count < suc (length names) → AreOnce names
    → AreOnce (take count names)
once_first names count few once i j blank less low equal =
    let long = length-take-le count names (omega arith) in
    let below : j < count = omega (arith, long) in
    once i j blank less (omega arith) (sym (get_or-take count names i blank (omega arith)) ∙ (equal
    ∙ get_or-take count names j blank below))

-- ---- places

-- the row of the role at a place
pub row_at : (chart : PlainChart) (candidates : List PlainCandidate) (roles : List (List ℕ)) (k : ℕ) → k < length roles
    → slice_index (table (fits_role chart) candidates roles) k ≡ row_for chart candidates (get_or roles k [])
row_at chart candidates roles k low = get_or-map (row_for chart candidates) roles k [] 0 low

-- a place for each of these roles, that its row has, and for no two the same
pub record HaveOwn (chart : PlainChart) (candidates : List PlainCandidate) (roles : List (List ℕ)) : Type 0 where
  pub place_of : List ℕ → ℕ
  pub fit : (role : List ℕ) → is_among roles role ≡ true → is_in (row_for chart candidates role) (place_of role) ≡ true
  pub once : (one other : List ℕ) → is_among roles one ≡ true → is_among roles other ≡ true
      → place_of one ≡ place_of other → one ≡ other

-- tags for the roles give such places
own_from_tags : (chart : PlainChart) (candidates : List PlainCandidate) (roles bound : List (List ℕ))
    → HaveTags chart candidates roles bound → HaveOwn chart candidates roles
own_from_tags chart candidates roles bound have =
    record {
      place_of = λ role. slice_index places (spot_of roles role);
      fit = λ role among.
          let spot = at_spot roles role among in
          let place = slice_index places (spot_of roles role) in
          sym (ap (λ set. is_in set place) (row_at chart candidates roles (spot_of roles role) spot.0
          ∙ ap (row_for chart candidates) spot.1))
          ∙ assignment.fit (spot_of roles role) (omega (arith, spot.0, long));
      once = λ one other among also same.
          let spot = at_spot roles one among in
          let too = at_spot roles other also in
          let equal = assignment.once (spot_of roles one) (spot_of roles other) (omega (arith, spot.0, long))
          (omega (arith, too.0, long)) same in
          sym spot.1 ∙ (ap (λ at. get_or roles at []) equal ∙ too.1);
    }
  where
    places : List ℕ
    places = places_for tag_of (fits_role chart) candidates roles bound

    assignment : IsAssignment (table (fits_role chart) candidates roles)
        (places_for tag_of (fits_role chart) candidates roles bound)
    assignment = assigned_by_bound tag_of (fits_role chart) candidates roles bound nobody have

    long : length (table (fits_role chart) candidates roles) ≡ length roles
    long = length-map roles (row_for chart candidates)

-- such places give tags, where the candidates are in order and the roles differ
tags_from_own : (chart : PlainChart) (candidates : List PlainCandidate) (roles : List (List ℕ)) → AreInOrder candidates
    → AreOnce roles → (own : HaveOwn chart candidates roles)
    → HaveTags chart candidates roles (tags_at tag_of candidates (map own.place_of roles))
tags_from_own chart candidates roles sorted once own =
    bound_by_assigned tag_of (fits_role chart) candidates roles (map own.place_of roles) nobody sorted
    (record {
      all = length-map roles own.place_of ∙ sym long;
      fit = λ row low.
          let inside : row < length roles = omega (arith, long) in
          ap (λ set. is_in set (slice_index (map own.place_of roles) row)) (row_at chart candidates roles row inside)
          ∙ (ap (is_in (row_for chart candidates (get_or roles row []))) (place_at row inside)
          ∙ own.fit (get_or roles row []) (at_among roles row inside));
      once = λ one other low also same.
          let inside : one < length roles = omega (arith, long) in
          let within : other < length roles = omega (arith, long) in
          one_spot roles one other once inside within
          (own.once (get_or roles one []) (get_or roles other []) (at_among roles one inside)
          (at_among roles other within) (sym (place_at one inside) ∙ (same ∙ place_at other within)));
    })
  where
    long : length (table (fits_role chart) candidates roles) ≡ length roles
    long = length-map roles (row_for chart candidates)

    place_at : (row : ℕ) → row < length roles
        → slice_index (map own.place_of roles) row ≡ own.place_of (get_or roles row [])
    place_at row low = get_or-map own.place_of roles row [] 0 low

-- where there are such places the roles can be bound
pub can_where_own : (chart : PlainChart) (candidates : List PlainCandidate) (roles : List (List ℕ))
    → AreInOrder candidates → AreOnce roles → HaveOwn chart candidates roles
    → can_be_bound chart candidates roles ≡ true
can_where_own chart candidates roles sorted once own = by_way (first_way chart roles candidates) refl
  where
    by_way : (way : Option (List Bind)) → first_way chart roles candidates ≡ way
        → can_be_bound chart candidates roles ≡ true
    by_way None is = absurd (none_first chart roles candidates
        (tags_at tag_of candidates (map own.place_of roles)) is
        (tags_from_own chart candidates roles sorted once own))
    by_way (Some binds) is = ap is_some is

-- where there are none they can't
pub cannot_where_none : (chart : PlainChart) (candidates : List PlainCandidate) (roles : List (List ℕ))
    → (HaveOwn chart candidates roles → ⊥) → can_be_bound chart candidates roles ≡ false
cannot_where_none chart candidates roles none = by_way (first_way chart roles candidates) refl
  where
    by_way : (way : Option (List Bind)) → first_way chart roles candidates ≡ way
        → can_be_bound chart candidates roles ≡ false
    by_way None is = ap is_some is
    by_way (Some binds) is = absurd (none (own_from_tags chart candidates roles (tags_of binds)
        (some_first chart roles candidates binds is).bound))

-- ---- places of rows that hold some

-- a row of this role holds a place
pub record IsSeatedRole (names : List (List ℕ)) (holders : List (Option ℕ)) (role : List ℕ) : Type 0 where
  pub place : ℕ
  pub row : ℕ
  pub held : holder_at holders place ≡ Some row
  pub named : get_or names row [] ≡ role

-- the holder is a row of this role
is_held : List (List ℕ) → List ℕ → Option ℕ → Bool
is_held names role None = false
is_held names role (Some row) = same_name (get_or names row []) role

-- so there is such a row
row_held : (names : List (List ℕ)) (role : List ℕ) (holder : Option ℕ) → is_held names role holder ≡ true
    → (row : ℕ) × (holder ≡ Some row) × (get_or names row [] ≡ role)
unfolding is_held
row_held names role None holds = absurd cc
row_held names role (Some row) holds = (row, refl, (bytes_eq-Decides (get_or names row []) role).0 holds)

-- where each of these roles is seated, they have places of their own
pub own_where_seated : (chart : PlainChart) (candidates : List PlainCandidate) (holders : List (Option ℕ))
    (roles : List (List ℕ)) → IsSeating (rows_for chart candidates) holders 0
    → ((role : List ℕ) → is_among roles role ≡ true → IsSeatedRole (role_names chart) holders role)
    → HaveOwn chart candidates roles
unfolding is_held
own_where_seated chart candidates holders roles seating each =
    record {
      place_of = place_of;
      fit = λ role among.
          let by = held_by role among in
          let there = fits_there (fits_role chart) candidates (role_names chart) by.0 (place_of role) nobody
          (seating.fit (place_of role) by.0 by.1) in
          sym (ap (λ set. is_in set (place_of role)) (row_at chart candidates (role_names chart) by.0 there.0
          ∙ ap (row_for chart candidates) by.2))
          ∙ seating.fit (place_of role) by.0 by.1;
      once = λ one other among also same.
          let by = held_by one among in
          let too = held_by other also in
          let alike : Some by.0 ≡ Some too.0 = sym by.1 ∙ (ap (holder_at holders) same ∙ too.1) in
          let equal : by.0 ≡ too.0 = cc in
          sym by.2 ∙ (ap (λ at. get_or (role_names chart) at []) equal ∙ too.2);
    }
  where
    place_of : List ℕ → ℕ
    place_of role = position_or_len (is_held (role_names chart) role) holders

    held_by : (role : List ℕ) → is_among roles role ≡ true
        → (row : ℕ)
        × (holder_at holders (position_or_len (is_held (role_names chart) role) holders) ≡ Some row)
        × (get_or (role_names chart) row [] ≡ role)
    held_by role among =
        let is = each role among in
        let test = is_held (role_names chart) role in
        let some : list_any (is_held (role_names chart) role) holders ≡ true =
        list_any_at test holders is.place None (held_there holders is.place is.row is.held)
        (ap test is.held ∙ (ap (λ name. same_name name role) is.named ∙ same_itself role)) in
        let found = first_passes test holders None some in
        row_held (role_names chart) role (holder_at holders (position_or_len test holders)) found.1
