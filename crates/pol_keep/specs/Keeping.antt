-- A kept plant as a job on kept items: its events.
use Rattle.std.specs.Prelude.{List, false}
use Rattle.kept_jobs.specs.Keeping.{JobState, job_state}
use Rattle.kept_jobs.specs.Leaving.{KeptJob}
use Rattle.pol_core.specs.Plants.{PlainPlant, plant_history}
use Rattle.pol_events.specs.Events.{PlainEvent}
use Rattle.pol_history.specs.Looking.{History}
use Rattle.pol_kept.specs.Keeping.{KeptState}
use Rattle.pol_store.specs.Keeping.{StoreState}
use Rattle.pol_keep.specs.Kept.{answers_with, events_with}

-- a store, as one whose chronicle is its plant
abbrev pub kept_plant : {D : Type 0} → StoreState D → KeptState PlainPlant D
kept_plant store =
    record { chronicle = store.plant; disk = store.disk; closed = store.closed; waiting = store.waiting }

-- what is seen of a replay on a store, which knows the history of the plant
abbrev pub plant_state : {D : Type 0} → StoreState D → JobState History D
plant_state store = job_state (plant_history store.plant) (kept_plant store)

-- The job keeps, behind the events that the disk read as, those of its lines that are recorded, and begins a store with
-- no event of its own.
abbrev pub plant_job : KeptJob PlainEvent
plant_job = record { items_with = events_with; answers_with = answers_with; begins = false }
