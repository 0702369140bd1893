-- The first crowd of rows says which roles are at issue, and with them which shortage is answered.
use Rattle.std.proofs.Common.{◌≡◌, ◌≢◌, ℕ, suc, ◌+◌, ◌^◌, ◌<◌, ◌≤◌, ◌&&◌, ◌||◌, Bool, true, false, not, Option}
use Rattle.std.proofs.Common.{Some, None, List, [], ◌∷◌, map, filter, length, get_or, take, refl, arith, sym, ◌∙◌, ap}
use Rattle.std.proofs.Common.{subst, ⊎_elim, zero-add}
use Rattle.std.specs.Prelude.{slice_index}
use Rattle.std.specs.List.{list_all, list_any, position_or_len, range_with_len}
use Rattle.std.proofs.lemmas.Bool.{and_parts, cases_Bool, cases_eq, cases_lt}
use Rattle.std.proofs.lemmas.List.{get_or_default, get_or-map, get_or-take, length-map, length-take-le}
use Rattle.std.proofs.lemmas.List.Elements.{filter_passes, recursion_from_All}
use Rattle.std.proofs.lemmas.List.Folds.{list_all_at, list_any_at}
use Rattle.std.proofs.lemmas.List.FromFn.{get_or-range_with_len, length-range_with_len}
use Rattle.std.proofs.lemmas.List.Kept.{AllPairs-filter}
use Rattle.std.proofs.lemmas.List.Sums.{fails_before_first, passes_at_first}
use Rattle.mtp_codes.specs.Names.{is_among, same_name}
use Rattle.chart_core.specs.Roles.{PlainChart, role_names}
use Rattle.pol_match.specs.Assignments.{IsFirstCrowd}
use Rattle.pol_match.specs.Bindings.{AreInOrder, tags_in}
use Rattle.pol_match.specs.Chosen.{all_but, at_issue, can_be_bound, first_too_many, fits_wanted_alone, is_wanted}
use Rattle.pol_match.specs.Chosen.{short_roles, short_tags}
use Rattle.pol_match.specs.Fits.{PlainCandidate, fits_role, is_reached, row_for, rows_for, those_at, those_with}
use Rattle.pol_match.specs.Places.{has_all, is_in, IsWithin}
use Rattle.pol_match.specs.Seats.{fits, holder_at, IsClosed}
use Rattle.pol_match.proofs.Assigned.{GetsSeat, GetsStuck, closed_itself, freed_of, is_freed, long_freed, try}
use Rattle.pol_match.proofs.BoundTags.{nobody}
use Rattle.pol_match.proofs.Bridges.{first_passes}
use Rattle.pol_match.proofs.Chains.{forced_itself}
use Rattle.pol_match.proofs.ClosedSets.{IsConcerned, held_there, none_from_closed}
use Rattle.pol_match.proofs.Counting.{unseen}
use Rattle.pol_match.proofs.Owns.{AreOnce, HaveOwn, IsSeatedRole, at_among, at_spot, can_where_own, cannot_where_none}
use Rattle.pol_match.proofs.Owns.{once_first, one_spot, own_where_seated, row_at, spot_of}
use Rattle.pol_match.proofs.PlaceSets.{in_where_has_all, nothing_in, small_where_below, test_from_within}
use Rattle.pol_match.proofs.Reseating.{other_than-none, other_than-some, some_other_than}
use Rattle.pol_match.proofs.Seatings.{next_alone, sits_below}
use Rattle.pol_match.proofs.Shortages.{among_kept, filter_same, reached-is, those_at-is, those_with-is}
use Rattle.pol_match.proofs.Tables.{in_set_of, passes_at}
use Rattle.pol_match.proofs.Ways.{differs_by, differs_so}

-- where a name that is among the first names is
record IsAmongFirst (names : List (List ℕ)) (count : ℕ) (name : List ℕ) : Type 0 where
  at : ℕ
  below : at < count
  low : at < length names
  is : get_or names at [] ≡ name

-- a name that is among the first names is at its place
among_first : (names : List (List ℕ)) (count : ℕ) (name : List ℕ) → count ≤ length names
    → is_among (take count names) name ≡ true → IsAmongFirst names count name
among_first names count name few among =
    let spot = at_spot (take count names) name among in
    let at = spot_of (take count names) name in
    let below : at < count = omega (arith, spot.0, length-take-le count names few) in
    record {
      at = at;
      below = below;
      low = omega arith;
      is = sym (get_or-take count names at [] below) ∙ spot.1;
    }

-- the name at each place below the count is among the first names
first_among : (names : List (List ℕ)) (count at : ℕ) → count ≤ length names → at < count
    → is_among (take count names) (get_or names at []) ≡ true
first_among names count at few below =
    ap (is_among (take count names)) (sym (get_or-take count names at [] below))
    ∙ at_among (take count names) at (omega (arith, length-take-le count names few))

-- tests that agree find alike
any_alike : {X : Type 0} (one other : X → Bool) (xs : List X) → ((x : X) → one x ≡ other x)
    → list_any one xs ≡ list_any other xs
any_alike one other [] alike = refl
any_alike one other (x ∷ xs) alike = rw (alike x, any_alike one other xs alike) refl

-- where each place passes all do
all_pass : {X : Type 0} (test : X → Bool) (xs : List X) (blank : X)
    → ((k : ℕ) → k < length xs → test (get_or xs k blank) ≡ true) → list_all test xs ≡ true
all_pass test [] blank each = refl
all_pass test (x ∷ xs) blank each =
    rw (each 0 (omega arith), all_pass test xs blank (λ k low. each (suc k) (omega arith))) refl

-- where all pass each place does
one_passes : {X : Type 0} (test : X → Bool) (xs : List X) (k : ℕ) (blank : X) → k < length xs
    → list_all test xs ≡ true → test (get_or xs k blank) ≡ true
one_passes test xs k blank low all =
    ⊎_elim
    (λ holds. holds)
    (λ fails. let none = list_all_at test xs k blank low fails in absurd cc)
    (cases_Bool (test (get_or xs k blank)))

-- so many of the first roles can't be bound
abbrev cannot_be : PlainChart → List PlainCandidate → ℕ → Bool
cannot_be chart candidates count = not (can_be_bound chart candidates (take count (role_names chart)))

module _ (chart : PlainChart) (candidates : List PlainCandidate) (sorted : AreInOrder candidates)
    (few : length candidates ≤ 64) (once : AreOnce (role_names chart)) (set : ℕ) (crowd : IsFirstCrowd (rows_for chart candidates) set) where
  -- there is a row for each role
  rows_long : length (rows_for chart candidates) ≡ length (role_names chart)
  rows_long = length-map (role_names chart) (row_for chart candidates)

  -- so the crowd's row is one of a role
  row_low : crowd.row < length (role_names chart)
  row_low = omega (arith, crowd.low, rows_long)

  -- each row has places below 64 alone
  row_small : (row : ℕ) → slice_index (rows_for chart candidates) row < 2 ^ 64
  row_small row = small_where_below (slice_index (rows_for chart candidates) row)
      (λ place there. omega (arith, crowd.inside row place there, crowd.few))

  -- so has the set
  set_small : set < 2 ^ 64
  set_small = small_where_below set (λ place there.
      let by = crowd.stuck.closed.held place there (nothing_in place) in
      omega (arith, held_there crowd.holders place by.holder by.held, crowd.few))

  -- a role whose row passes the test has no place outside the set
  within_where_all : (role : List ℕ) → has_all set (row_for chart candidates role) ≡ true
      → IsWithin (row_for chart candidates role) set
  within_where_all role all place there =
      let low = (passes_at (fits_role chart role) candidates place nobody
      (sym (in_set_of (map (fits_role chart role) candidates) place) ∙ there)).0 in
      in_where_has_all set (row_for chart candidates role) place set_small (omega arith) all there

  -- a row sits somewhere where it is below the crowd's
  seated_role : (row : ℕ) → row < crowd.row → IsSeatedRole (role_names chart) crowd.holders
      (get_or (role_names chart) row [])
  seated_role row low =
      let had = crowd.seated.sits row low in record { place = had.0; row = row; held = had.1; named = refl }

  -- fewer roles than that can be bound
  can_fewer : (count : ℕ) → count ≤ crowd.row → can_be_bound chart candidates (take count (role_names chart)) ≡ true
  can_fewer count few =
      can_where_own chart candidates (take count (role_names chart)) sorted
      (once_first (role_names chart) count (omega (arith, row_low)) once)
      (own_where_seated chart candidates crowd.holders (take count (role_names chart)) crowd.seated.seating
      (λ role among. let is = among_first (role_names chart) count role (omega (arith, row_low)) among in
      subst (λ (name : List ℕ). IsSeatedRole (role_names chart) crowd.holders name) is.is
      (seated_role is.at (omega (arith, is.below)))))

  -- roles among which are all of the crowd have no places of their own
  no_own : (roles : List (List ℕ)) → is_among roles (get_or (role_names chart) crowd.row []) ≡ true
      → ((row : ℕ) → row < crowd.row → IsWithin (slice_index (rows_for chart candidates) row) set
      → is_among roles (get_or (role_names chart) row []) ≡ true)
      → HaveOwn chart candidates roles → ⊥
  no_own roles mine others own =
      none_from_closed (rows_for chart candidates) crowd.holders 0 set crowd.row
      (λ row. own.place_of (get_or (role_names chart) row [])) crowd.seated.seating
      (next_alone (rows_for chart candidates) crowd.holders crowd.row 0 crowd.seated) crowd.stuck.closed
      (record {
        fit = λ each concerned. fit each (below each concerned) (among each concerned);
        outside = λ each concerned. nothing_in (own.place_of (get_or (role_names chart) each []));
        once = λ one other concerned also same.
            one_spot (role_names chart) one other once (below one concerned) (below other also)
            (own.once (get_or (role_names chart) one []) (get_or (role_names chart) other []) (among one concerned)
            (among other also) same);
      })
      (crowd.stuck.within (own.place_of (get_or (role_names chart) crowd.row []))
      (fit crowd.row row_low mine))
    where
      among : (each : ℕ) → IsConcerned (rows_for chart candidates) crowd.holders 0 set crowd.row each
          → is_among roles (get_or (role_names chart) each []) ≡ true
      among each concerned = ⊎_elim
          (λ equal. ap (λ row. is_among roles (get_or (role_names chart) row [])) equal ∙ mine)
          (λ sits. others each (sits_below (rows_for chart candidates) crowd.holders crowd.row 0 each crowd.seated
          sits.0) sits.1)
          concerned

      below : (each : ℕ) → IsConcerned (rows_for chart candidates) crowd.holders 0 set crowd.row each
          → each < length (role_names chart)
      below each concerned = ⊎_elim
          (λ equal. omega (arith, row_low))
          (λ sits. let low = sits_below (rows_for chart candidates) crowd.holders crowd.row 0 each crowd.seated sits.0
          in omega (arith, row_low))
          concerned

      fit : (each : ℕ) → each < length (role_names chart)
          → is_among roles (get_or (role_names chart) each []) ≡ true
          → fits (rows_for chart candidates) each (own.place_of (get_or (role_names chart) each [])) ≡ true
      fit each low is =
          ap (λ row. is_in row (own.place_of (get_or (role_names chart) each [])))
          (row_at chart candidates (role_names chart) each low)
          ∙ own.fit (get_or (role_names chart) each []) is

  -- with the crowd's row they can't
  cannot_first : can_be_bound chart candidates (take (crowd.row + 1) (role_names chart)) ≡ false
  cannot_first =
      cannot_where_none chart candidates (take (crowd.row + 1) (role_names chart))
      (no_own (take (crowd.row + 1) (role_names chart))
      (first_among (role_names chart) (crowd.row + 1) crowd.row (omega (arith, row_low)) (omega arith))
      (λ row low within. first_among (role_names chart) (crowd.row + 1) row (omega (arith, row_low)) (omega arith)))

  -- so these are the roles up to the first with which they can't be bound
  first_is : first_too_many chart candidates ≡ take (crowd.row + 1) (role_names chart)
  unfolding first_too_many
  first_is = ap (λ count. take count (role_names chart)) count_is
    where
      read : (k : ℕ) → k < length (role_names chart) + 1
          → get_or (range_with_len 0 (length (role_names chart) + 1)) k 0 ≡ k
      read k low = get_or-range_with_len 0 (length (role_names chart) + 1) k 0 low ∙ zero-add k

      count_is : position_or_len (cannot_be chart candidates) (range_with_len 0 (length (role_names chart) + 1))
          ≡ crowd.row + 1
      count_is =
          let test : ℕ → Bool = cannot_be chart candidates in
          let all = range_with_len 0 (length (role_names chart) + 1) in
          let at = position_or_len test all in
          ⊎_elim
          (λ less.
          let passes : test (get_or all at 0) ≡ true = passes_at_first test all 0
          (omega (arith, row_low, length-range_with_len 0 (length (role_names chart) + 1))) in
          let here = ap test (read at (omega (arith, row_low))) in
          let not_here : test at ≡ false = ap not (can_fewer at (omega arith)) in
          absurd cc)
          (λ more. ⊎_elim
          (λ less.
          let not_there : test (get_or all (crowd.row + 1) 0) ≡ false = fails_before_first test all (crowd.row + 1) 0
          less in
          let here = ap test (read (crowd.row + 1) (omega (arith, row_low))) in
          let passes : test (crowd.row + 1) ≡ true = ap not cannot_first in
          absurd cc)
          (λ least. omega arith)
          (cases_lt (crowd.row + 1) at))
          (cases_lt at (crowd.row + 1))

  -- ---- the roles at issue

  -- the others of the first roles than that of a row
  abbrev others_first : ℕ → List (List ℕ)
  others_first row = all_but (get_or (role_names chart) row []) (take (crowd.row + 1) (role_names chart))

  -- one of them is at another place of the first
  other_first : (row : ℕ) (role : List ℕ) → is_among (others_first row) role ≡ true
      → (k : ℕ) × (k < crowd.row + 1) × (k ≢ row) × (get_or (role_names chart) k [] ≡ role)
  other_first row role among =
      let gone = get_or (role_names chart) row [] in
      let kept = and_parts (not (same_name role gone)) (is_among (take (crowd.row + 1) (role_names chart)) role)
      (sym (among_kept (λ other. not (same_name other gone)) (take (crowd.row + 1) (role_names chart)) role) ∙ among) in
      let is = among_first (role_names chart) (crowd.row + 1) role (omega (arith, row_low)) kept.1 in (
        is.at,
        is.below,
        λ equal. differs_by role gone kept.0 (sym is.is ∙ ap (λ at. get_or (role_names chart) at []) equal),
        is.is,
      )

  -- the name at another place is one of them
  first_other : (row k : ℕ) → row < length (role_names chart) → k < crowd.row + 1 → k ≢ row
      → is_among (others_first row) (get_or (role_names chart) k []) ≡ true
  first_other row k low below apart =
      let gone = get_or (role_names chart) row [] in
      let role = get_or (role_names chart) k [] in
      let differs : role ≢ gone = λ equal.
      apart (one_spot (role_names chart) k row once (omega (arith, row_low)) low equal) in
      among_kept (λ other. not (same_name other gone)) (take (crowd.row + 1) (role_names chart)) role
      ∙ (ap (λ answer. answer && is_among (take (crowd.row + 1) (role_names chart)) role) (differs_so role gone differs)
      ∙ first_among (role_names chart) (crowd.row + 1) k (omega (arith, row_low)) below)

  -- the others of the first roles are no two the same
  others_once : (row : ℕ) → AreOnce (others_first row)
  others_once row =
      AllPairs-filter (λ one other. one ≢ other) (λ other. not (same_name other (get_or (role_names chart) row [])))
      (take (crowd.row + 1) (role_names chart))
      (once_first (role_names chart) (crowd.row + 1) (omega (arith, row_low)) once)

  -- the table in which a row holds no place
  abbrev without : ℕ → List (Option ℕ)
  without row = freed_of row crowd.holders

  -- who holds a place there held it before
  held_within : (row place who : ℕ) → holder_at (without row) place ≡ Some who
      → (holder_at crowd.holders place ≡ Some who) × (who ≢ row)
  held_within row place who held =
      some_other_than row who (holder_at crowd.holders place) (sym (is_freed row crowd.holders place) ∙ held)

  -- who else held a place holds it there
  holds_still : (row place who : ℕ) → who ≢ row → holder_at crowd.holders place ≡ Some who
      → holder_at (without row) place ≡ Some who
  holds_still row place who apart held =
      is_freed row crowd.holders place ∙ other_than-some row who (holder_at crowd.holders place) apart held

  -- where a row of the crowd gives up its place, the crowd's row gets one
  none_stuck : (row : ℕ) → row < crowd.row → IsWithin (slice_index (rows_for chart candidates) row) set
      → GetsStuck (rows_for chart candidates) (without row) 0 crowd.row → ⊥
  none_stuck row low within stuck =
      let had = crowd.seated.sits row low in
      let free : holder_at (without row) had.0 ≡ None = is_freed row crowd.holders had.0
      ∙ other_than-none row (holder_at crowd.holders had.0) had.1 in
      let closed : IsClosed (rows_for chart candidates) crowd.holders 0 stuck.set = record {
        grown = stuck.stuck.closed.grown;
        held = λ each there out.
            let by = stuck.stuck.closed.held each there out in
            record {
              holder = by.holder;
              held = (held_within row each by.holder by.held).0;
              within = by.within;
            };
      } in
      let there = crowd.stuck.forced stuck.set closed stuck.stuck.within had.0
      (within had.0 (crowd.seated.seating.fit had.0 row had.1)) in
      let by = stuck.stuck.closed.held had.0 there (nothing_in had.0) in
      let held = by.held in
      cc

  -- and the others keep theirs
  others_seated : (row : ℕ) → (got : GetsSeat (rows_for chart candidates) (without row) 0 crowd.row)
      → (role : List ℕ) → is_among (others_first row) role ≡ true
      → IsSeatedRole (role_names chart) got.after role
  others_seated row got role among =
      let is = other_first row role among in
      ⊎_elim
      (λ equal. record {
        place = got.place;
        row = crowd.row;
        held = got.seated.here;
        named = ap (λ at. get_or (role_names chart) at []) (sym equal) ∙ is.3;
      })
      (λ apart.
      let had = crowd.seated.sits is.0 (omega (arith, is.1)) in
      let still = got.seated.still is.0 (record {
        place = had.0;
        outside = nothing_in had.0;
        held = holds_still row had.0 is.0 is.2 had.1;
      }) in
      record { place = still.place; row = is.0; held = still.held; named = is.3 })
      (cases_eq is.0 crowd.row)

  -- so without a row of the crowd the others of the first roles have places
  own_without : (row : ℕ) → row < crowd.row → IsWithin (slice_index (rows_for chart candidates) row) set
      → HaveOwn chart candidates (others_first row)
  own_without row low within =
      ⊎_elim
      (λ got. own_where_seated chart candidates got.after (others_first row) got.seated.seating
      (others_seated row got))
      (λ stuck. absurd (none_stuck row low within stuck))
      (try (suc (unseen 0)) (rows_for chart candidates) (without row) 0 0 crowd.row
      (omega (arith, crowd.few, long_freed row crowd.holders))
      (λ each place fit. omega (arith, crowd.inside each place fit, long_freed row crowd.holders))
      (record {
        fit = λ place who held. crowd.seated.seating.fit place who (held_within row place who held).0;
        once = λ one other who out beyond held also. crowd.seated.seating.once one other who out beyond
            (held_within row one who held).0 (held_within row other who also).0;
      })
      (λ sits. let less = crowd.seated.known sits.place crowd.row (held_within row sits.place crowd.row sits.held).0 in
      omega (arith, less))
      (closed_itself (rows_for chart candidates) (without row) 0)
      (forced_itself (rows_for chart candidates) (without row) 0 crowd.row) (omega arith) (omega arith))

  -- without the crowd's own row the others are seated as they are
  own_before : HaveOwn chart candidates (others_first crowd.row)
  own_before =
      own_where_seated chart candidates crowd.holders (others_first crowd.row) crowd.seated.seating
      (λ role among. let is = other_first crowd.row role among in
      subst (λ (name : List ℕ). IsSeatedRole (role_names chart) crowd.holders name) is.3
      (seated_role is.0 (omega (arith, is.1, is.2))))

  -- without a role of the crowd the others can be bound
  can_without : (row : ℕ) → row < crowd.row + 1 → IsWithin (slice_index (rows_for chart candidates) row) set
      → can_be_bound chart candidates (others_first row) ≡ true
  can_without row low within =
      can_where_own chart candidates (others_first row) sorted (others_once row)
      (⊎_elim
      (λ equal. subst (λ (at : ℕ). HaveOwn chart candidates (others_first at)) (sym equal) own_before)
      (λ apart. own_without row (omega arith) within)
      (cases_eq row crowd.row))

  -- without another role they can't
  cannot_without : (row : ℕ) → row < crowd.row + 1 → (IsWithin (slice_index (rows_for chart candidates) row) set → ⊥)
      → can_be_bound chart candidates (others_first row) ≡ false
  cannot_without row low beyond =
      let apart : (each : ℕ) → IsWithin (slice_index (rows_for chart candidates) each) set → each ≢ row =
      λ each within equal.
      beyond (subst (λ (at : ℕ). IsWithin (slice_index (rows_for chart candidates) at) set) equal within) in
      cannot_where_none chart candidates (others_first row)
      (no_own (others_first row)
      (first_other row crowd.row (omega (arith, row_low)) (omega arith) (apart crowd.row crowd.stuck.within))
      (λ each less within. first_other row each (omega (arith, row_low)) (omega arith) (apart each within)))

  -- the role's row lies within the crowd's places
  abbrev is_within : List ℕ → Bool
  is_within role = has_all set (row_for chart candidates role)

  -- so the roles at issue are those of the first whose rows do
  at_issue_is : at_issue chart candidates ≡ filter is_within (take (crowd.row + 1) (role_names chart))
  unfolding at_issue
  at_issue_is =
      ap (λ roles. filter (λ role. can_be_bound chart candidates (all_but role roles)) roles) first_is
      ∙ filter_same (λ role. can_be_bound chart candidates (all_but role (take (crowd.row + 1) (role_names chart))))
      is_within (take (crowd.row + 1) (role_names chart))
      (recursion_from_All
      (λ role. can_be_bound chart candidates (all_but role (take (crowd.row + 1) (role_names chart))) ≡ is_within role)
      (take (crowd.row + 1) (role_names chart)) each)
    where
      of_row : (row : ℕ) → row < crowd.row + 1
          → can_be_bound chart candidates (others_first row) ≡ is_within (get_or (role_names chart) row [])
      of_row row low =
          let inside : row < length (role_names chart) = omega (arith, row_low) in
          let here = row_at chart candidates (role_names chart) row inside in
          ⊎_elim
          (λ holds. can_without row low (subst (λ (row : ℕ). IsWithin row set) (sym here)
          (within_where_all (get_or (role_names chart) row []) holds)) ∙ sym holds)
          (λ fails. cannot_without row low (λ within.
          let holds : is_within (get_or (role_names chart) row []) ≡ true = ap (has_all set) (sym here)
          ∙ test_from_within set (slice_index (rows_for chart candidates) row) (row_small row) within in
          absurd cc) ∙ sym fails)
          (cases_Bool (is_within (get_or (role_names chart) row [])))

      each : (k : ℕ) (blank : List ℕ) → k < length (take (crowd.row + 1) (role_names chart))
          → can_be_bound chart candidates (all_but (get_or (take (crowd.row + 1) (role_names chart)) k blank)
          (take (crowd.row + 1) (role_names chart)))
          ≡ is_within (get_or (take (crowd.row + 1) (role_names chart)) k blank)
      each k blank low =
          let below : k < crowd.row + 1 = omega (
            arith,
            low,
            length-take-le (crowd.row + 1) (role_names chart) (omega (arith, row_low)),
          ) in
          let same : get_or (take (crowd.row + 1) (role_names chart)) k blank ≡ get_or (role_names chart) k [] =
          get_or-take (crowd.row + 1) (role_names chart) k blank below
          ∙ get_or_default (role_names chart) k blank [] (omega (arith, row_low)) in
          subst (λ (role : List ℕ). can_be_bound chart candidates
          (all_but role (take (crowd.row + 1) (role_names chart))) ≡ is_within role) (sym same) (of_row k below)

  -- ---- the candidates that they want

  -- a place is had by a role whose row lies within the crowd's places exactly where it is one of these, if all such
  -- roles of rows below the crowd's are among the roles
  had_is : (roles : List (List ℕ)) (place : ℕ) → place < 64
      → ((row : ℕ) → row < crowd.row → is_among roles (get_or (role_names chart) row []) ≡ true)
      → list_any (λ role. is_in (row_for chart candidates role) place) (filter is_within roles) ≡ is_in set place
  had_is roles place low among =
      ⊎_elim
      (λ holds. there holds ∙ sym holds)
      (λ fails. ⊎_elim
      (λ some. let holds = here some in absurd cc)
      (λ none. none ∙ sym fails)
      (cases_Bool (list_any (λ role. is_in (row_for chart candidates role) place) (filter is_within roles))))
      (cases_Bool (is_in set place))
    where
      there : is_in set place ≡ true
          → list_any (λ role. is_in (row_for chart candidates role) place) (filter is_within roles) ≡ true
      there holds =
          let by = crowd.stuck.closed.held place holds (nothing_in place) in
          let less = crowd.seated.known place by.holder by.held in
          let role = get_or (role_names chart) by.holder [] in
          let row = row_at chart candidates (role_names chart) by.holder (omega (arith, row_low)) in
          let within : is_within role ≡ true = ap (has_all set) (sym row)
          ∙ test_from_within set (slice_index (rows_for chart candidates) by.holder) (row_small by.holder) by.within in
          let fit : is_in (row_for chart candidates role) place ≡ true = ap (λ row. is_in row place) (sym row)
          ∙ crowd.seated.seating.fit place by.holder by.held in
          let kept : is_among (filter is_within roles) role ≡ true = among_kept is_within roles role
          ∙ (ap (λ answer. answer && is_among roles role) within ∙ among by.holder less) in
          let spot = at_spot (filter is_within roles) role kept in
          list_any_at (λ role. is_in (row_for chart candidates role) place) (filter is_within roles)
          (spot_of (filter is_within roles) role) [] spot.0
          (ap (λ name. is_in (row_for chart candidates name) place) spot.1 ∙ fit)

      here : list_any (λ role. is_in (row_for chart candidates role) place) (filter is_within roles) ≡ true
          → is_in set place ≡ true
      here some =
          let test = λ (role : List ℕ). is_in (row_for chart candidates role) place in
          let found = first_passes test (filter is_within roles) [] some in
          let at = position_or_len test (filter is_within roles) in
          within_where_all (get_or (filter is_within roles) at []) (filter_passes is_within roles at [] found.0) place
          found.1

  -- a candidate fits a role exactly where the role's row has its place
  fits_is_had : (role : List ℕ) (place : ℕ) → place < length candidates
      → fits_role chart role (get_or candidates place nobody) ≡ is_in (row_for chart candidates role) place
  fits_is_had role place low =
      sym (in_set_of (map (fits_role chart role) candidates) place
      ∙ get_or-map (fits_role chart role) candidates place nobody false low)

  -- the candidate at a place is wanted exactly where the place is one of the crowd's
  wanted_is : (place : ℕ) → place < length candidates
      → is_wanted chart candidates (get_or candidates place nobody) ≡ is_in set place
  wanted_is place low =
      any_alike (λ role. fits_role chart role (get_or candidates place nobody))
      (λ role. is_in (row_for chart candidates role) place) (at_issue chart candidates)
      (λ role. fits_is_had role place low)
      ∙ (ap (list_any (λ role. is_in (row_for chart candidates role) place)) at_issue_is
      ∙ had_is (take (crowd.row + 1) (role_names chart)) place (omega arith)
      (λ row less. first_among (role_names chart) (crowd.row + 1) row (omega (arith, row_low)) (omega arith)))

  -- the tags that are answered are those at the places that rows within the crowd reach
  pub tags_told : short_tags chart candidates
      ≡ those_at (is_reached (rows_for chart candidates) set) 0 (tags_in candidates)
  tags_told = sym (those_at-is (is_reached (rows_for chart candidates) set) (is_wanted chart candidates) 0 candidates
      (λ place low. ap (is_reached (rows_for chart candidates) set) (zero-add place)
      ∙ (reached-is set place (row_for chart candidates) (λ role. is_in (row_for chart candidates role) place)
      (role_names chart) (λ role. refl)
      ∙ (had_is (role_names chart) place (omega arith)
      (λ row less. at_among (role_names chart) row (omega (arith, row_low)))
      ∙ sym (wanted_is place low)))))

  -- ---- the roles that fit no others

  -- a role fits wanted candidates alone exactly where its row lies within the crowd's places
  alone_is : (role : List ℕ) → fits_wanted_alone chart candidates role ≡ is_within role
  alone_is role =
      ⊎_elim
      (λ holds. all_pass (λ candidate. not (fits_role chart role candidate) || is_wanted chart candidates candidate)
      candidates nobody (passes holds) ∙ sym holds)
      (λ fails. ⊎_elim
      (λ all. let holds : is_within role ≡ true = test_from_within set (row_for chart candidates role)
      (small_where_below (row_for chart candidates role) (λ place there. omega (arith, (inside place there).0)))
      (within all) in absurd cc)
      (λ none. none ∙ sym fails)
      (cases_Bool (fits_wanted_alone chart candidates role)))
      (cases_Bool (is_within role))
    where
      inside : (place : ℕ) → is_in (row_for chart candidates role) place ≡ true
          → (place < length candidates) × (fits_role chart role (get_or candidates place nobody) ≡ true)
      inside place there =
          passes_at (fits_role chart role) candidates place nobody
          (sym (in_set_of (map (fits_role chart role) candidates) place) ∙ there)

      passes : is_within role ≡ true → (place : ℕ) → place < length candidates
          → (not (fits_role chart role (get_or candidates place nobody))
          || is_wanted chart candidates (get_or candidates place nobody)) ≡ true
      passes holds place low =
          ⊎_elim
          (λ fit. ap (λ answer. not answer || is_wanted chart candidates (get_or candidates place nobody)) fit
          ∙ (wanted_is place low
          ∙ within_where_all role holds place (sym (fits_is_had role place low) ∙ fit)))
          (λ unfit. ap (λ answer. not answer || is_wanted chart candidates (get_or candidates place nobody)) unfit)
          (cases_Bool (fits_role chart role (get_or candidates place nobody)))

      within : fits_wanted_alone chart candidates role ≡ true → IsWithin (row_for chart candidates role) set
      within all place there =
          let is = inside place there in
          let one = one_passes (λ candidate. not (fits_role chart role candidate)
          || is_wanted chart candidates candidate) candidates place nobody is.0 all in
          sym (wanted_is place is.0)
          ∙ (sym (ap (λ answer. not answer || is_wanted chart candidates (get_or candidates place nobody)) is.1) ∙ one)

  -- the roles that are answered are those whose rows lie within the crowd's places
  pub roles_told : short_roles chart candidates
      ≡ those_with (has_all set) (rows_for chart candidates) (role_names chart)
  roles_told =
      filter_same (fits_wanted_alone chart candidates) is_within (role_names chart)
      (recursion_from_All (λ role. fits_wanted_alone chart candidates role ≡ is_within role) (role_names chart)
      (λ k blank low. alone_is (get_or (role_names chart) k blank)))
      ∙ sym (those_with-is (has_all set) (row_for chart candidates) (role_names chart))
