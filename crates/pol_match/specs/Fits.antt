-- Which candidates can play which roles of a chart.
use Rattle.std.specs.Prelude.{ℕ, List, [], ◌∷◌, map, filter, Bool, ◌&&◌, is_none, ◌+◌, if◌then◌else◌}
use Rattle.std.specs.List.{list_all, list_any}
use Rattle.mtp_codes.specs.Names.{same_name, is_among}
use Rattle.mtp_desc.specs.Plain.{PlainDescription}
use Rattle.chart_core.specs.Roles.{PlainChart, role_names}
use Rattle.chart_core.specs.Trees.{PlainStep, steps}
use Rattle.mtp_procs.specs.Covers.{cover_fault}
use Rattle.pol_match.specs.Places.{has_all, is_in, set_of}

-- a candidate as plain data
pub record PlainCandidate : Type 0 where
  pub tag : List ℕ
  pub description : PlainDescription
  pub idle : List (List ℕ)

-- the services of those of the steps that are of the role
abbrev pub services_in : List ℕ → List PlainStep → List (List ℕ)
services_in role steps = map (λ step. step.service) (filter (λ step. same_name step.role role) steps)

-- the steps of a chart, in chart order
abbrev pub steps_of : PlainChart → List PlainStep
steps_of chart = map (λ placed. placed.step) (steps chart.root 0)

-- the candidate's description covers the role, and each service of the role's steps is idle
abbrev pub fits_role : PlainChart → List ℕ → PlainCandidate → Bool
fits_role chart role candidate =
    is_none (cover_fault chart role candidate.description)
    && list_all (is_among candidate.idle) (services_in role (steps_of chart))

-- for a role the set of the places of the candidates that fit it
abbrev pub row_for : PlainChart → List PlainCandidate → List ℕ → ℕ
row_for chart candidates role = set_of (map (fits_role chart role) candidates)

-- the rows of the chart's roles, in their order
abbrev pub rows_for : PlainChart → List PlainCandidate → List ℕ
rows_for chart candidates = map (row_for chart candidates) (role_names chart)

-- the names whose rows pass a test
abbrev pub those_with : (ℕ → Bool) → List ℕ → List (List ℕ) → List (List ℕ)
those_with test [] names = []
those_with test (row ∷ rows) [] = []
those_with test (row ∷ rows) (name ∷ names) =
    if test row then name ∷ those_with test rows names else those_with test rows names

-- the names whose places pass a test, counted from this one
abbrev pub those_at : (ℕ → Bool) → ℕ → List (List ℕ) → List (List ℕ)
those_at test place [] = []
those_at test place (name ∷ names) =
    if test place then name ∷ those_at test (place + 1) names else those_at test (place + 1) names

-- a row whose places are all in the set has this place
abbrev pub is_reached : List ℕ → ℕ → ℕ → Bool
is_reached rows set place = list_any (λ row. has_all set row && is_in row place) rows
