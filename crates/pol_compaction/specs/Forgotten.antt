-- The closed batches of a history may be forgotten.
use Rattle.std.specs.Prelude.{◌≡◌, List, [], map}
use Rattle.pol_events.specs.Events.{PlainEvent, PlainEntry}
use Rattle.pol_history.specs.Runs.{run_after, history_after, AreOrderly}
use Rattle.pol_removal.specs.Removal.{entries_of_others}
use Rattle.pol_compaction.specs.Lasting.{closed_batches}
use Rattle.pol_compaction.specs.Alike.{later_entries}

-- the events of a run that are of no batch that is closed at its end, without those refused for another's sake
abbrev pub events_without_closed : List PlainEvent → List PlainEvent
events_without_closed events =
    map (λ (entry : PlainEntry). entry.event) (entries_of_others (closed_batches (history_after [] events)) events)

-- Without the events of its closed batches and those refused for another's sake a plant answers whatever comes later as
-- before, but for what names one of these batches or was refused as full.
abbrev pub ClosedMayBeForgotten : Type 0
ClosedMayBeForgotten =
    (events later : List PlainEvent) → AreOrderly events →
    run_after (history_after [] (events_without_closed events))
    (map (λ entry. entry.event)
    (later_entries (closed_batches (history_after [] events)) (run_after (history_after [] events) later)))
    ≡ later_entries (closed_batches (history_after [] events)) (run_after (history_after [] events) later)
