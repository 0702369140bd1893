-- Candidates in a list, seen as plain data.
use Rattle.std.proofs.Common.{◌≡◌, ℕ, ◌<◌, Bool, true, false, List, [], map, length, get_or, arith, sym, ◌∙◌, ap, subst}
use Rattle.std.proofs.lemmas.List.{get_or-map, length-map}
use Rattle.std.proofs.lemmas.Grind.{get_or_default_zero}
use Rattle.chart_core.specs.Roles.{PlainChart, plain_role, role_names}
use Rattle.chart_core.specs.Charts.{plain_chart}
use Rattle.chart_core.specs.declared.chart.Chart.{Chart}
use Rattle.pol_match.specs.declared.candidate.Candidate.{Candidate}
use Rattle.pol_match.specs.Fits.{PlainCandidate, fits_role, row_for, rows_for}
use Rattle.pol_match.specs.Seats.{fits}
use Rattle.pol_match.specs.Candidates.{plain_candidate, plain_candidates}
use Rattle.pol_match.specs.Bindings.{tags_in}
use Rattle.pol_match.specs.Assignments.{IsAssignment}
use Rattle.pol_match.proofs.Bridges.{fits_there}
use Rattle.pol_match.proofs.BoundTags.{nobody}

-- the candidate at a place as plain data
plain_at : (candidates : List Candidate) (place : ℕ) (found : Candidate) → place < length candidates
    → get_or (plain_candidates candidates) place (plain_candidate found)
    ≡ plain_candidate (get_or candidates place found)
plain_at candidates place found low = get_or-map plain_candidate candidates place found (plain_candidate found) low

-- the tag at a place
pub tag_at_place : (candidates : List Candidate) (place : ℕ) (found : Candidate) → place < length candidates
    → found ≡ get_or candidates place found → found.tag ≡ get_or (tags_in (plain_candidates candidates)) place []
tag_at_place candidates place found low is =
    let all = length-map candidates plain_candidate in
    ap (λ candidate. candidate.tag) is
    ∙ sym (get_or-map (λ candidate. candidate.tag) (plain_candidates candidates) place (plain_candidate found) []
    (omega arith) ∙ ap (λ candidate. candidate.tag) (plain_at candidates place found low))

-- whether the candidate at a place fits
pub fits_at_place : (test : PlainCandidate → Bool) (candidates : List Candidate) (place : ℕ) (found : Candidate)
    → place < length candidates → found ≡ get_or candidates place found
    → test (plain_candidate found) ≡ get_or (map test (plain_candidates candidates)) place false
fits_at_place test candidates place found low is =
    let all = length-map candidates plain_candidate in
    ap (λ candidate. test (plain_candidate candidate)) is
    ∙ sym (get_or-map test (plain_candidates candidates) place (plain_candidate found) false (omega arith)
    ∙ ap test (plain_at candidates place found low))

-- a place that a row fits is a candidate's
pub place_there : (chart : PlainChart) (candidates : List Candidate) (rows : List ℕ) (row place : ℕ)
    → rows ≡ rows_for chart (plain_candidates candidates) → fits rows row place ≡ true → place < length candidates
place_there chart candidates rows row place same fit =
    let there = fits_there (fits_role chart) (plain_candidates candidates) (role_names chart) row place nobody
    (subst (λ (table : List ℕ). fits table row place ≡ true) same fit) in
    omega (arith, there.1, length-map candidates plain_candidate)

-- an assigned place is a candidate's
pub assigned_there : (chart : PlainChart) (candidates : List Candidate) (rows places : List ℕ)
    → rows ≡ rows_for chart (plain_candidates candidates) → IsAssignment rows places → (row spare : ℕ)
    → row < length places → get_or places row spare < length candidates
assigned_there chart candidates rows places same assignment row spare low =
    let there = place_there chart candidates rows row (get_or places row 0) same
    (assignment.fit row (omega (arith, assignment.all))) in
    omega (arith, there, get_or_default_zero places row spare low)

-- there is a row for each role
pub rows_long : (chart : Chart) (candidates : List PlainCandidate)
    → length (rows_for (plain_chart chart) candidates) ≡ length chart.roles.items
rows_long chart candidates =
    length-map (role_names (plain_chart chart)) (row_for (plain_chart chart) candidates)
    ∙ (length-map (map plain_role chart.roles.items) (λ role. role.role) ∙ length-map chart.roles.items plain_role)
