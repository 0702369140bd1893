-- Runs of events, and legal histories.
use Rattle.std.specs.Prelude.{Bool, true, false, ◌≡◌, List, [], ◌∷◌, map, reverse, if◌then◌else◌}
use Rattle.std.specs.List.{AllByRecursion}
use Rattle.pol_events.specs.Events.{PlainEvent, PlainEntry}
use Rattle.pol_events.specs.declared.answer.Answer.{Answer}
use Rattle.pol_events.specs.declared.answer.Answer.TheVariants.{Refused}
use Rattle.pol_events.specs.declared.answer.Rule.TheVariants.{HistoryFull}
use Rattle.pol_history.specs.Looking.{History}
use Rattle.pol_events.specs.Orderly.{is_orderly}
use Rattle.pol_history.specs.Answers.{answer_of}

-- the event with its answer
abbrev pub entry_of : History → PlainEvent → PlainEntry
entry_of history event = record { event = event; answer = answer_of history event }

-- the answer goes into the history: it isn't the refusal of a full history
abbrev pub is_recorded : Answer → Bool
is_recorded (Refused HistoryFull) = false
is_recorded _ = true

-- the history after the entry
abbrev pub recorded : PlainEntry → History → History
recorded entry history = if is_recorded entry.answer then entry ∷ history else history

-- the entries of the events in their order, after a history
abbrev pub run_after : History → List PlainEvent → List PlainEntry
run_after history [] = []
run_after history (event ∷ events) = entry_of history event ∷ run_after
    (recorded (entry_of history event) history) events

-- the entries of the events in their order
abbrev pub run_of : List PlainEvent → List PlainEntry
run_of events = run_after [] events

-- the history after these entries, of which each is recorded in its turn
abbrev pub recorded_all : History → List PlainEntry → History
recorded_all history [] = history
recorded_all history (entry ∷ entries) = recorded_all (recorded entry history) entries

-- the history after the events: their entries are recorded
abbrev pub history_after : History → List PlainEvent → History
history_after history events = recorded_all history (run_after history events)

-- the events of a history, the oldest first
abbrev pub events_of : History → List PlainEvent
events_of history = reverse (map (λ (entry : PlainEntry). entry.event) history)

-- each answer is the one that the entries before it give
abbrev pub IsLegal : History → Type 0
IsLegal [] = Unit {0}
IsLegal (entry ∷ history) = (entry.answer ≡ answer_of history entry.event) × (is_recorded entry.answer ≡ true)
    × IsLegal history

-- each event is as a line says it: a recipe's chart is valid, a start's binds are in order
abbrev pub AreOrderly : List PlainEvent → Type 0
AreOrderly events = AllByRecursion (λ event. is_orderly event ≡ true) events

-- each event of the history is as a line says it
abbrev pub IsOrderly : History → Type 0
IsOrderly history = AllByRecursion (λ entry. is_orderly entry.event ≡ true) history

-- Whatever events come, the history that they leave is legal; and where they are orderly, its events are orderly.
abbrev pub RunsAreLegal : Type 0
RunsAreLegal =
    (events : List PlainEvent) → IsLegal (history_after [] events)
    × (AreOrderly events → IsOrderly (history_after [] events))
