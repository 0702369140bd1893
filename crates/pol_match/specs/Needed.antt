-- Which candidates can play a role, by what it needs.
use Rattle.std.specs.Prelude.{ℕ, List, map, Bool, ◌&&◌}
use Rattle.std.specs.List.{list_all}
use Rattle.mtp_codes.specs.Names.{is_among}
use Rattle.pol_bind.specs.Needs.{PlainNeeds, are_met}
use Rattle.pol_match.specs.Fits.{PlainCandidate}
use Rattle.pol_match.specs.Places.{set_of}

-- the candidate meets the needs, and each service of the needed steps is idle
abbrev pub fits_needs : PlainNeeds → PlainCandidate → Bool
fits_needs needs candidate =
    are_met needs candidate.description
    && list_all (is_among candidate.idle) (map (λ step. step.service) needs.steps)

-- the set of the places of the candidates that fit a role that needs this
abbrev pub row_by : PlainNeeds → List PlainCandidate → ℕ
row_by needs candidates = set_of (map (fits_needs needs) candidates)
