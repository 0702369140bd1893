-- A candidate fits a role exactly where it fits what the role needs.
use Rattle.std.proofs.Common.{◌≡◌, ◌∙◌, ℕ, List, [], ◌∷◌, map, refl, ap}
use Rattle.std.specs.Prelude.{◌&&◌, is_none}
use Rattle.std.specs.List.{list_all}
use Rattle.mtp_codes.specs.Names.{is_among}
use Rattle.mtp_desc.specs.Plain.{PlainDescription}
use Rattle.mtp_procs.specs.Covers.{cover_fault}
use Rattle.chart_core.specs.Roles.{PlainChart}
use Rattle.pol_bind.specs.Needs.{PlainNeeds, are_met, needs_of}
use Rattle.pol_match.specs.Fits.{PlainCandidate, fits_role, row_for, services_in, steps_of}
use Rattle.pol_match.specs.Needed.{fits_needs, row_by}
use Rattle.pol_match.specs.Places.{set_of}

-- for each candidate
fits_by_needs : (chart : PlainChart) (role : List ℕ) (needs : PlainNeeds) → needs ≡ needs_of chart role
    → ((description : PlainDescription) → are_met needs description ≡ is_none (cover_fault chart role description))
    → (candidate : PlainCandidate) → fits_needs needs candidate ≡ fits_role chart role candidate
fits_by_needs chart role needs is covers candidate =
    ap (λ each. are_met needs candidate.description
    && list_all (is_among candidate.idle) (map (λ step. step.service) each.steps)) is
    ∙ ap (λ each. each && list_all (is_among candidate.idle) (services_in role (steps_of chart)))
    (covers candidate.description)

-- tests that agree are true at the same places
same_tests : {X Y : Type 0} (one other : X → Y) → ((x : X) → one x ≡ other x) → (xs : List X)
    → map one xs ≡ map other xs
same_tests one other same [] = refl
same_tests one other same (x ∷ xs) = rw (same x, same_tests one other same xs) refl

-- so the row by the needs is the row of the role
pub row_by_needs : (chart : PlainChart) (role : List ℕ) (needs : PlainNeeds) → needs ≡ needs_of chart role
    → ((description : PlainDescription) → are_met needs description ≡ is_none (cover_fault chart role description))
    → (candidates : List PlainCandidate) → row_by needs candidates ≡ row_for chart candidates role
row_by_needs chart role needs is covers candidates =
    ap set_of (same_tests (fits_needs needs) (fits_role chart role) (fits_by_needs chart role needs is covers)
    candidates)
