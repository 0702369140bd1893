-- The modules that could be bound after a history.
use Rattle.std.specs.Prelude.{ℕ, Bool, true, false, ◌&&◌, List, [], map, filter, filter_map, Option, None, is_none}
use Rattle.std.specs.Prelude.{if◌then◌else◌}
use Rattle.std.specs.Option.{option_map}
use Rattle.mtp_desc.specs.Plain.{PlainDescription}
use Rattle.mtp_machine.specs.States.{is_idle}
use Rattle.chart_cursor.specs.declared.sight.Sight.{Sight}
use Rattle.chart_cursor.specs.declared.sight.Sight.TheVariants.{Away, Unreported, Is}
use Rattle.pol_history.specs.Batches.{holder_of}
use Rattle.pol_history.specs.Looking.{History}
use Rattle.pol_history.specs.Modules.{Docking, absent, docked, away, docking_of, description_of, view_of, present_tags}
use Rattle.pol_table.specs.ByteOrder.{in_byte_order}
use Rattle.pol_core.specs.Calls.{module_sight}
use Rattle.pol_match.specs.Fits.{PlainCandidate}
use Rattle.pol_find.specs.declared.candidates.Pool.{Pool}
use Rattle.pol_find.specs.declared.candidates.Pool.TheVariants.{Free, Docked}

-- the service is seen, and is idle
abbrev pub is_seen_idle : Sight → Bool
is_seen_idle Away = false
is_seen_idle Unreported = false
is_seen_idle (Is view) = is_idle view.control.state

-- the service of the tag is seen, and is idle
abbrev pub is_idle_at : History → List ℕ → List ℕ → Bool
is_idle_at history tag service = is_seen_idle (module_sight (docking_of history tag) (view_of history tag service))

-- the services of a description that are idle at the tag
abbrev pub idle_services : History → List ℕ → PlainDescription → List (List ℕ)
idle_services history tag description =
    filter (is_idle_at history tag) (map (λ service. service.name) description.services)

-- the tag is docked
abbrev pub is_docked : Docking → Bool
is_docked absent = false
is_docked (docked count) = true
is_docked (away ticket) = false

-- the tag is docked, and no batch holds it
abbrev pub is_free : History → List ℕ → Bool
is_free history tag = is_docked (docking_of history tag) && is_none (holder_of history tag)

-- the tag as a candidate, with its description and its idle services
abbrev pub candidate_with : History → List ℕ → PlainDescription → PlainCandidate
candidate_with history tag description =
    record { tag = tag; description = description; idle = idle_services history tag description }

-- the tag as a candidate, where it is free
abbrev pub candidate_of : History → List ℕ → Option PlainCandidate
candidate_of history tag =
    if is_free history tag then option_map (candidate_with history tag) (description_of history tag) else None

-- the candidates that are made of the tags that are docked or away, in byte order
abbrev pub candidates_by : (List ℕ → Option PlainCandidate) → History → List PlainCandidate
candidates_by make history = filter_map make (in_byte_order (present_tags history))

-- the candidates: the tags that are free, in byte order
abbrev pub candidates_of : History → List PlainCandidate
candidates_of history = candidates_by (candidate_of history) history

-- the services of a description that a step could be given: of a tag that a batch holds none
abbrev pub spare_services : History → List ℕ → PlainDescription → List (List ℕ)
spare_services history tag description =
    if is_none (holder_of history tag) then idle_services history tag description else []

-- the tag as a candidate to be held or watched, with its spare services: where it has none it fits no role with a step
abbrev pub docked_candidate_with : History → List ℕ → PlainDescription → PlainCandidate
docked_candidate_with history tag description =
    record { tag = tag; description = description; idle = spare_services history tag description }

-- the tag as a candidate to be held or watched, where it is docked, held or not
abbrev pub docked_candidate_of : History → List ℕ → Option PlainCandidate
docked_candidate_of history tag =
    if is_docked (docking_of history tag)
    then option_map (docked_candidate_with history tag) (description_of history tag) else None

-- the candidates to be held or watched: the tags that are docked, in byte order
abbrev pub docked_candidates_of : History → List PlainCandidate
docked_candidates_of history = candidates_by (docked_candidate_of history) history

-- the tag as a candidate of a pool
abbrev pub candidate_in : Pool → History → List ℕ → Option PlainCandidate
candidate_in Free = candidate_of
candidate_in Docked = docked_candidate_of
