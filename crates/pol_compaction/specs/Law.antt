-- What a compacted history still says: everything.
use Rattle.std.specs.Prelude.{◌≡◌, ◌≤◌, not, List, [], length, map, filter}
use Rattle.pol_events.specs.Events.{PlainEvent, PlainEntry}
use Rattle.mtp_codes.specs.Names.{is_among}
use Rattle.pol_history.specs.Looking.{History}
use Rattle.pol_history.specs.Batches.{batches}
use Rattle.pol_record.specs.Texts.{batch_lines, batches_text}
use Rattle.pol_history.specs.Runs.{run_of, run_after, history_after, AreOrderly}
use Rattle.pol_compaction.specs.Lasting.{closed_batches}
use Rattle.pol_compaction.specs.Compaction.{compacted, compacted_events}
use Rattle.pol_compaction.specs.Alike.{later_entries}

-- the entries of later events after a history, without those that name a batch that is closed there and those that are
-- refused as full
abbrev pub entries_after : History → List PlainEvent → List PlainEntry
entries_after history later = later_entries (closed_batches history) (run_after history later)

-- The events that stay, run by themselves, are answered as they were.
abbrev pub KeptIsAnsweredAgain : Type 0
KeptIsAnsweredAgain =
    (events : List PlainEvent) → AreOrderly events →
    run_of (compacted_events (history_after [] events)) ≡ compacted (history_after [] events)

-- Whatever comes later is answered after the events that stay as after the whole history, but for what names a batch
-- that was closed there and what is refused there as full.
abbrev pub LaterIsAnsweredAlike : Type 0
LaterIsAnsweredAlike =
    (events later : List PlainEvent) → AreOrderly events →
    run_after (history_after [] (compacted_events (history_after [] events)))
    (map (λ (entry : PlainEntry). entry.event) (entries_after (history_after [] events) later))
    ≡ entries_after (history_after [] events) later

-- A compacted history is no longer than it was.
abbrev pub CompactionIsNoLonger : Type 0
CompactionIsNoLonger = (history : History) → length (compacted history) ≤ length history

-- The lines of the batches that weren't closed in the whole history are the same after compaction, in the same order,
-- after whatever comes later.
abbrev pub LinesStay : Type 0
LinesStay =
    (events later : List PlainEvent) → AreOrderly events →
    batches_text (history_after (history_after [] (compacted_events (history_after [] events)))
    (map (λ (entry : PlainEntry). entry.event) (entries_after (history_after [] events) later)))
    ≡ batch_lines (history_after (history_after [] events) later)
    (filter (λ batch. not (is_among (closed_batches (history_after [] events)) batch))
    (batches (history_after (history_after [] events) later)))

-- Compacting again changes nothing.
abbrev pub AgainChangesNothing : Type 0
AgainChangesNothing =
    (events : List PlainEvent) → AreOrderly events →
    compacted (history_after [] (compacted_events (history_after [] events))) ≡ compacted (history_after [] events)

-- Compacting once more after later events is compacting them all.
abbrev pub OnceMoreIsAtOnce : Type 0
OnceMoreIsAtOnce =
    (events later : List PlainEvent) → AreOrderly events → AreOrderly later →
    compacted (history_after (history_after [] (compacted_events (history_after [] events)))
    (map (λ (entry : PlainEntry). entry.event) (entries_after (history_after [] events) later)))
    ≡ compacted (history_after (history_after [] events) later)
