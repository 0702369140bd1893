-- The entries that last, run by themselves.
use Rattle.std.specs.Prelude.{◌≡◌, List, [], map, filter}
use Rattle.pol_events.specs.Events.{PlainEvent, PlainEntry}
use Rattle.pol_history.specs.Runs.{run_of, history_after, AreOrderly}
use Rattle.pol_compaction.specs.Lasting.{is_lasting}

-- the entries of a run that last
abbrev pub lasting : List PlainEvent → List PlainEntry
lasting events = filter (is_lasting (history_after [] events)) (run_of events)

-- The events that last, run by themselves, are answered as they were.
abbrev pub LastingRunAlone : Type 0
LastingRunAlone =
    (events : List PlainEvent) → AreOrderly events →
    run_of (map (λ entry. entry.event) (lasting events)) ≡ lasting events
