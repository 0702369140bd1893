-- What is answered for a chart by definition is right, and what is found is that answer.
use Rattle.std.proofs.Common.{◌≡◌, ℕ, zero, suc, ◌+◌, ◌*◌, ◌^◌, ◌<◌, ◌≤◌, ◌&&◌, Bool, true, false, if◌then◌else◌, List}
use Rattle.std.proofs.Common.{[], ◌∷◌, Option, Some, None, map, length, refl, arith, sym, ◌∙◌, ap, subst, ⊎_elim}
use Rattle.std.specs.Prelude.{slice_index, nat_le}
use Rattle.std.specs.List.{list_all}
use Rattle.std.proofs.Math.Nat.{pow-suc}
use Rattle.std.proofs.Math.Pow.{pow_mono}
use Rattle.std.proofs.lemmas.Bool.{and_parts}
use Rattle.std.proofs.lemmas.List.{length-map}
use Rattle.mtp_codes.specs.Numbers.{is_between}
use Rattle.chart_core.specs.Form.{are_distinct, is_tree_formed}
use Rattle.chart_core.specs.Roles.{PlainChart, are_roles_formed, is_chart_form, role_names}
use Rattle.chart_core.specs.declared.limits.TheConstants.{LONGEST_WANTED, MOST_ROLES}
use Rattle.pol_events.specs.declared.event.Bind.{Bind}
use Rattle.pol_match.specs.Assignments.{HaveNone, IsFirstCrowd}
use Rattle.pol_match.specs.Bindings.{AreInOrder, IsShortage, tags_in}
use Rattle.pol_match.specs.Chosen.{binding_of, short_roles, short_tags}
use Rattle.pol_match.specs.Findings.{EachIsToldRightly, IsToldRightly, IsToldShort}
use Rattle.pol_match.specs.Fits.{PlainCandidate, fits_role, is_reached, row_for, rows_for, those_at, those_with}
use Rattle.pol_match.specs.Places.{has_all, set_of}
use Rattle.pol_match.specs.Seats.{fits}
use Rattle.pol_match.proofs.Assigned.{AreTooMany, least_or_crowd}
use Rattle.pol_match.proofs.BoundTags.{no_binding, nobody, tag_of}
use Rattle.pol_match.proofs.Bridges.{bound_by_assigned, fits_there, tags_at}
use Rattle.pol_match.proofs.FirstCrowds.{roles_told, tags_told}
use Rattle.pol_match.proofs.Owns.{AreOnce, once_by_test}
use Rattle.pol_match.proofs.Shortages.{shortage, those_few}
use Rattle.pol_match.proofs.Ways.{none_first, none_told, told_least, told_none}

-- ---- rows are small numbers

-- a set of so many tests has so many bits
set_small : (tests : List Bool) → set_of tests < 2 ^ length tests
unfolding set_of
set_small [] = omega arith
set_small (each ∷ others) = go each (set_small others)
  where
    go : (bit : Bool) → set_of others < 2 ^ length others →
        (if bit then 1 else 0) + 2 * set_of others < 2 ^ suc (length others)
    go true low = rw (pow-suc 2 (length others)) (omega arith)
    go false low = rw (pow-suc 2 (length others)) (omega arith)

-- so the row of each role fits a number of 64 bits
pub rows_small : (chart : PlainChart) (candidates : List PlainCandidate) (names : List (List ℕ)) (row : ℕ) →
    length candidates ≤ 64 → slice_index (map (row_for chart candidates) names) row < 2 ^ 64
rows_small chart candidates [] row few = omega arith
rows_small chart candidates (name ∷ names) zero few =
    let tests = map (fits_role chart name) candidates in
    let short : length tests ≤ 64 = omega (arith, length-map candidates (fits_role chart name)) in
    let most : 2 ^ length tests ≤ 2 ^ 64 = pow_mono short in
    omega (arith, set_small tests, most)
rows_small chart candidates (name ∷ names) (suc row) few = rows_small chart candidates names row few

-- ---- the shortage

-- the roles of a formed chart are no two the same
pub roles_once : (chart : PlainChart) → is_chart_form chart ≡ true → AreOnce (role_names chart)
roles_once chart formed =
    let roles = (and_parts (are_roles_formed chart) (is_tree_formed chart.root) formed).0 in
    let parts = and_parts (is_between 1 MOST_ROLES (length chart.roles))
    (are_distinct (role_names chart) && list_all (λ role. nat_le (length role.wants) LONGEST_WANTED) chart.roles)
    roles in
    once_by_test (role_names chart)
    (and_parts (are_distinct (role_names chart))
    (list_all (λ role. nat_le (length role.wants) LONGEST_WANTED) chart.roles) parts.1).0

-- what was found by the first crowd is answered
pub short_told : (chart : PlainChart) (candidates : List PlainCandidate) (rows : List ℕ) (set : ℕ)
    (roles tags : List (List ℕ)) → is_chart_form chart ≡ true → length candidates ≤ 64 → AreInOrder candidates
    → rows ≡ rows_for chart candidates → HaveNone rows → IsFirstCrowd rows set
    → roles ≡ those_with (has_all set) rows (role_names chart)
    → tags ≡ those_at (is_reached rows set) 0 (tags_in candidates) → IsToldShort chart candidates roles tags
short_told chart candidates rows set roles tags formed few sorted same none crowd roles_are tags_are =
    let first = subst (λ (table : List ℕ). IsFirstCrowd table set) same crowd in
    let once = roles_once chart formed in
    record {
      none = none_told chart candidates sorted (no_binding chart candidates (subst HaveNone same none));
      roles_are = roles_are ∙ (ap (λ table. those_with (has_all set) table (role_names chart)) same
          ∙ sym (roles_told chart candidates sorted few once set first));
      tags_are = tags_are ∙ (ap (λ table. those_at (is_reached table set) 0 (tags_in candidates)) same
          ∙ sym (tags_told chart candidates sorted few once set first));
    }

-- the shortage that is answered is one
shortage_told_is : (chart : PlainChart) (candidates : List PlainCandidate) → is_chart_form chart ≡ true
    → length candidates ≤ 64 → AreInOrder candidates → AreTooMany (rows_for chart candidates)
    → IsShortage chart candidates (short_roles chart candidates) (short_tags chart candidates)
shortage_told_is chart candidates formed few sorted many =
    let once = roles_once chart formed in
    let rows = rows_for chart candidates in
    let short : length (tags_in candidates) ≤ 64 = omega (arith, length-map candidates (λ candidate. candidate.tag)) in
    subst (λ (roles : List (List ℕ)). IsShortage chart candidates roles (short_tags chart candidates))
    (sym (roles_told chart candidates sorted few once many.set many.first))
    (subst (λ (tags : List (List ℕ)). IsShortage chart candidates
    (those_with (has_all many.set) rows (role_names chart)) tags)
    (sym (tags_told chart candidates sorted few once many.set many.first))
    (shortage chart candidates many.set many.crowded
    (those_few rows many.set (tags_in candidates) many.small short)))

-- what is answered for each chart is right
pub each_rightly : EachIsToldRightly
each_rightly chart candidates formed few sorted = by_told (binding_of chart candidates) refl
  where
    inside : (row place : ℕ) → fits (rows_for chart candidates) row place ≡ true → place < length candidates
    inside row place fit = (fits_there (fits_role chart) candidates (role_names chart) row place nobody fit).1

    by_told : (told : Option (List Bind)) → binding_of chart candidates ≡ told → IsToldRightly chart candidates
    by_told (Some binds) is = rw is (told_least chart candidates binds sorted is)
    by_told None is =
        rw is (
          ⊎_elim
              (λ least. absurd (none_first chart (role_names chart) candidates (tags_at tag_of candidates least.0) is
              (bound_by_assigned tag_of (fits_role chart) candidates (role_names chart) least.0 nobody sorted
              least.1.assignment)))
              (λ many. shortage_told_is chart candidates formed few sorted many)
              (least_or_crowd (rows_for chart candidates) (length candidates) few inside
              (λ row. rows_small chart candidates (role_names chart) row few)),
          told_none chart candidates is,
        )
