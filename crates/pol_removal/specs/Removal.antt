-- Taking modules out of a journal.
use Rattle.std.specs.Prelude.{ℕ, Bool, true, false, not, ◌||◌, ◌&&◌, ◌≡◌, List, [], ◌++◌, filter, filter_map, map}
use Rattle.std.specs.Prelude.{Option, None, if◌then◌else◌}
use Rattle.std.specs.List.{flat_map, list_any}
use Rattle.mtp_codes.specs.Names.{is_among}
use Rattle.pol_events.specs.Events.{PlainEvent, PlainEntry}
use Rattle.pol_events.specs.declared.answer.Rule.{Rule}
use Rattle.pol_events.specs.declared.answer.Rule.TheVariants.{PlantFull, Held, Watched, Busy, BatchesFull, ActiveStep}
use Rattle.pol_events.specs.declared.answer.Rule.TheVariants.{HeldBack, HistoryFull}
use Rattle.pol_events.specs.declared.answer.Answer.{Answer}
use Rattle.pol_events.specs.declared.answer.Answer.TheVariants.{Refused}
use Rattle.pol_events.specs.Bound.{tags_of}
use Rattle.pol_history.specs.Looking.{Subject, of_module, of_batch, of_recipe, subject, is_accepted}
use Rattle.pol_history.specs.Batches.{binds_in, started_batch, batches}
use Rattle.pol_history.specs.Runs.{run_of, AreOrderly}
use Rattle.pol_record.specs.Texts.{batch_lines, end_text}
use Rattle.pol_record.specs.Lines.{AnsweredLine, skipped, bad, answered, events_in, input_lines_of}
use Rattle.pol_record.specs.Lines.{answered_lines_after, answered_texts, history_of, output_of}

-- a rule that refuses an event for the sake of another
abbrev pub is_for_another : Rule → Bool
is_for_another PlantFull = true
is_for_another (Held batch) = true
is_for_another (Watched batch) = true
is_for_another (Busy tag batch) = true
is_for_another BatchesFull = true
is_for_another (ActiveStep batch step) = true
is_for_another (HeldBack batch missing) = true
is_for_another HistoryFull = true
is_for_another _ = false

-- the answer refuses an event for the sake of another
abbrev pub is_refused_for_another : Answer → Bool
is_refused_for_another (Refused rule) = is_for_another rule
is_refused_for_another _ = false

-- some name is one of these
abbrev pub is_some_among : List (List ℕ) → List (List ℕ) → Bool
is_some_among names others = list_any (is_among names) others

-- the event is a start that binds or watches one of these modules
abbrev pub binds_one : List (List ℕ) → PlainEvent → Bool
binds_one tags event = is_some_among tags (tags_of (binds_in event))

-- the batch of an accepted start that binds or watches one of these modules
abbrev pub bound_batch : List (List ℕ) → PlainEntry → Option (List ℕ)
bound_batch tags entry = if binds_one tags entry.event && is_accepted entry.answer then started_batch
    entry.event else None

-- the batches that are bound to one of these modules, in these entries
abbrev pub bound_batches : List (List ℕ) → List PlainEntry → List (List ℕ)
bound_batches tags entries = filter_map (bound_batch tags) entries

-- the event is of one of these modules or of one of these batches
abbrev pub is_of : List (List ℕ) → List (List ℕ) → Subject → Bool
is_of tags bound (of_module tag) = is_among tags tag
is_of tags bound (of_batch batch) = is_among bound batch
is_of tags bound (of_recipe name) = false

-- the event names one of these modules, or is of one of these batches
abbrev pub is_named : List (List ℕ) → List (List ℕ) → PlainEvent → Bool
is_named tags bound event = is_of tags bound (subject event) || binds_one tags event

-- the entry names one of the modules, is of one of the batches, or is refused for another's sake
abbrev pub is_concerned : List (List ℕ) → List (List ℕ) → PlainEntry → Bool
is_concerned tags bound entry = is_named tags bound entry.event || is_refused_for_another entry.answer

-- the entry stays where the modules are taken out, and the batches that are bound to them
abbrev pub stays : List (List ℕ) → List (List ℕ) → PlainEntry → Bool
stays tags bound entry = not (is_concerned tags bound entry)

-- the entries of a run that stay
abbrev pub entries_without : List (List ℕ) → List PlainEvent → List PlainEntry
entries_without tags events = filter (stays tags (bound_batches tags (run_of events))) (run_of events)

-- the entries of a run without those of some batches, and without those refused for another's sake
abbrev pub entries_of_others : List (List ℕ) → List PlainEvent → List PlainEntry
entries_of_others gone events = filter (stays [] gone) (run_of events)

-- the line stays where the modules are taken out, and the batches that are bound to them
abbrev pub row_stays : List (List ℕ) → List (List ℕ) → AnsweredLine → Bool
row_stays tags bound (skipped piece) = true
row_stays tags bound (bad piece fault) = true
row_stays tags bound (answered piece entry) = stays tags bound entry

-- the bytes of a row's line
abbrev pub piece_of : AnsweredLine → List ℕ
piece_of (skipped piece) = piece
piece_of (bad piece fault) = piece
piece_of (answered piece entry) = piece

-- the batches that are bound to one of the modules, in the run of an input
abbrev pub bound_in : List (List ℕ) → List ℕ → List (List ℕ)
bound_in tags bytes = bound_batches tags (run_of (events_in (input_lines_of bytes)))

-- the rows of an input that stay
abbrev pub rows_without : List (List ℕ) → List ℕ → List AnsweredLine
rows_without tags bytes = filter (row_stays tags (bound_in tags bytes)) (answered_lines_after [] (input_lines_of bytes))

-- the input without the lines that concern the modules
abbrev pub without : List (List ℕ) → List ℕ → List ℕ
without tags bytes = flat_map piece_of (rows_without tags bytes)

-- the batches of an input that aren't bound to the modules
abbrev pub batches_without : List (List ℕ) → List ℕ → List (List ℕ)
batches_without tags bytes = filter (λ batch. not (is_among (bound_in tags bytes) batch)) (batches (history_of bytes))

-- the output without the answers to the lines that concern the modules, and without the lines of the batches that are
-- bound to the modules
abbrev pub output_without : List (List ℕ) → List ℕ → List ℕ
output_without tags bytes =
    answered_texts (rows_without tags bytes)
    ++ (batch_lines (history_of bytes) (batches_without tags bytes) ++ end_text)

-- Where the events are orderly, the run of those that stay is the run of all of them without the concerned entries.
abbrev pub RemovalOfEvents : Type 0
RemovalOfEvents =
    (tags : List (List ℕ)) (events : List PlainEvent) → AreOrderly events →
    run_of (map (λ entry. entry.event) (entries_without tags events)) ≡ entries_without tags events

-- Leaving out the events of any batches, with those refused for another's sake, leaves the other entries as they are.
abbrev pub RemovalOfBatches : Type 0
RemovalOfBatches =
    (gone : List (List ℕ)) (events : List PlainEvent) → AreOrderly events →
    run_of (map (λ entry. entry.event) (entries_of_others gone events)) ≡ entries_of_others gone events

-- Taking out the lines that concern some modules takes out just their output lines.
abbrev pub RemovalOfLines : Type 0
RemovalOfLines = (tags : List (List ℕ)) (bytes : List ℕ) → output_of (without tags bytes) ≡ output_without tags bytes
