-- Which of all bindings is answered, and which shortage where there is none, as functions of the chart and the
-- candidates.
use Rattle.std.specs.Prelude.{ℕ, ◌+◌, List, [], ◌∷◌, length, map, filter, take, Bool, not, ◌||◌, Option, Some, is_some}
use Rattle.std.specs.List.{list_all, list_any, position_or_len, range_with_len}
use Rattle.std.specs.Option.{option_map}
use Rattle.mtp_codes.specs.Faults.{first_of}
use Rattle.mtp_codes.specs.Names.{same_name}
use Rattle.chart_core.specs.Roles.{PlainChart, role_names}
use Rattle.pol_events.specs.declared.event.Bind.{Bind}
use Rattle.pol_match.specs.Bindings.{tags_in}
use Rattle.pol_match.specs.Fits.{PlainCandidate, fits_role}

-- the candidates of other tags than this
abbrev pub others_than : List ℕ → List PlainCandidate → List PlainCandidate
others_than tag candidates = filter (λ candidate. not (same_name candidate.tag tag)) candidates

-- each of these roles bound to a candidate of its own that fits it: always the first candidate that leaves fitting
-- ones to the roles behind
unfoldable pub first_way : PlainChart → List (List ℕ) → List PlainCandidate → Option (List Bind)
first_way chart [] candidates = Some []
first_way chart (role ∷ roles) candidates = first_of (map
    (λ candidate. option_map (λ binds. record { role = role; tag = candidate.tag } ∷ binds)
    (first_way chart roles (others_than candidate.tag candidates)))
    (filter (fits_role chart role) candidates))

-- the binding of a chart that is answered
abbrev pub binding_of : PlainChart → List PlainCandidate → Option (List Bind)
binding_of chart candidates = first_way chart (role_names chart) candidates

-- each of the roles can have a candidate of its own that fits it
abbrev pub can_be_bound : PlainChart → List PlainCandidate → List (List ℕ) → Bool
can_be_bound chart candidates roles = is_some (first_way chart roles candidates)

-- the roles up to the first with which they can't be bound
unfoldable pub first_too_many : PlainChart → List PlainCandidate → List (List ℕ)
first_too_many chart candidates =
    take
    (position_or_len (λ count. not (can_be_bound chart candidates (take count (role_names chart))))
    (range_with_len 0 (length (role_names chart) + 1)))
    (role_names chart)

-- the names but this
abbrev pub all_but : List ℕ → List (List ℕ) → List (List ℕ)
all_but name names = filter (λ other. not (same_name other name)) names

-- the roles at issue: of the first roles that are too many, those without any one of which the others can be bound
unfoldable pub at_issue : PlainChart → List PlainCandidate → List (List ℕ)
at_issue chart candidates =
    filter (λ role. can_be_bound chart candidates (all_but role (first_too_many chart candidates)))
    (first_too_many chart candidates)

-- the candidate fits one of the roles at issue
abbrev pub is_wanted : PlainChart → List PlainCandidate → PlainCandidate → Bool
is_wanted chart candidates candidate = list_any (λ role. fits_role chart role candidate) (at_issue chart candidates)

-- the tags of the shortage that is answered: those of all candidates that fit a role at issue
abbrev pub short_tags : PlainChart → List PlainCandidate → List (List ℕ)
short_tags chart candidates = tags_in (filter (is_wanted chart candidates) candidates)

-- only candidates that fit a role at issue fit this role
abbrev pub fits_wanted_alone : PlainChart → List PlainCandidate → List ℕ → Bool
fits_wanted_alone chart candidates role =
    list_all (λ candidate. not (fits_role chart role candidate) || is_wanted chart candidates candidate) candidates

-- the roles of the shortage that is answered: all roles of the chart that only those candidates fit
abbrev pub short_roles : PlainChart → List PlainCandidate → List (List ℕ)
short_roles chart candidates = filter (fits_wanted_alone chart candidates) (role_names chart)
