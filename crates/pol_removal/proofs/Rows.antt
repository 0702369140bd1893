-- The answered_lines of the lines that stay are the answered_lines that stay.
use Rattle.std.proofs.Common.{◌≡◌, ℕ, Bool, true, false, cond, List, [], ◌∷◌, map, refl, ap, sym, ◌∙◌}
use Rattle.std.specs.Prelude.{filter}
use Rattle.pol_events.specs.Events.{PlainEntry}
use Rattle.pol_history.specs.Looking.{History}
use Rattle.pol_history.specs.Runs.{entry_of, recorded, run_after, run_of, AreOrderly}
use Rattle.pol_record.specs.Lines.{InputLine, blank, faulty, happening, events_in, AnsweredLine, skipped, bad, answered}
use Rattle.pol_record.specs.Lines.{answered_lines, answered_lines_after}
use Rattle.pol_removal.specs.Removal.{bound_batches, stays, entries_without, row_stays}
use Rattle.pol_removal.proofs.Induction.{events_removed}
use Rattle.pol_removal.proofs.Reading.{item_in}

-- the entries of answered_lines
abbrev pub entries_in : List AnsweredLine → List PlainEntry
entries_in [] = []
entries_in (skipped piece ∷ answered_lines) = entries_in answered_lines
entries_in (bad piece fault ∷ answered_lines) = entries_in answered_lines
entries_in (answered piece entry ∷ answered_lines) = entry ∷ entries_in answered_lines

-- the answered_lines of an input have its items and its entries
pub items_of_rows : (items : List InputLine) (history : History)
    → map item_in (answered_lines_after history items) ≡ items
items_of_rows [] history = refl
items_of_rows (blank piece ∷ items) history = ap (λ items. blank piece ∷ items) (items_of_rows items history)
items_of_rows (faulty piece fault ∷ items) history = ap (λ items. faulty piece fault ∷ items)
    (items_of_rows items history)
items_of_rows (happening piece event ∷ items) history =
    ap (λ items. happening piece event ∷ items) (items_of_rows items (recorded (entry_of history event) history))

-- the entries of the rows are those of the run over the events in the lines
entries_of_rows : (items : List InputLine) (history : History) → entries_in (answered_lines_after history items)
    ≡ run_after history (events_in items)
entries_of_rows [] history = refl
entries_of_rows (blank piece ∷ items) history = entries_of_rows items history
entries_of_rows (faulty piece fault ∷ items) history = entries_of_rows items history
entries_of_rows (happening piece event ∷ items) history =
    ap (λ entries. entry_of history event ∷ entries) (entries_of_rows items (recorded (entry_of history event) history))

-- answered_lines are those of their items and entries
events_of_items : (list : List AnsweredLine)
    → events_in (map item_in list) ≡ map (λ entry. entry.event) (entries_in list)
events_of_items [] = refl
events_of_items (skipped piece ∷ list) = events_of_items list
events_of_items (bad piece fault ∷ list) = events_of_items list
events_of_items (answered piece entry ∷ list) = ap (λ events. entry.event ∷ events) (events_of_items list)

-- lines and entries of the rows give the rows again
rows_again : (list : List AnsweredLine) → answered_lines (map item_in list) (entries_in list) ≡ list
rows_again [] = refl
rows_again (skipped piece ∷ list) = ap (λ list. skipped piece ∷ list) (rows_again list)
rows_again (bad piece fault ∷ list) = ap (λ list. bad piece fault ∷ list) (rows_again list)
rows_again (answered piece entry ∷ list) = ap (λ list. answered piece entry ∷ list) (rows_again list)

-- the entries of the rows that stay are the entries that stay
entries_stay : (tags bound : List (List ℕ)) (list : List AnsweredLine)
    → entries_in (filter (row_stays tags bound) list) ≡ filter (stays tags bound) (entries_in list)
entries_stay tags bound [] = refl
entries_stay tags bound (skipped piece ∷ list) = entries_stay tags bound list
entries_stay tags bound (bad piece fault ∷ list) = entries_stay tags bound list
entries_stay tags bound (answered piece entry ∷ list) = go (stays tags bound entry) (entries_stay tags bound list)
  where
    go : (stay : Bool) → entries_in (filter (row_stays tags bound) list) ≡ filter (stays tags bound) (entries_in list) →
        entries_in (cond stay (answered piece entry ∷ filter (row_stays tags bound) list)
        (filter (row_stays tags bound) list))
        ≡ cond stay (entry ∷ filter (stays tags bound) (entries_in list)) (filter (stays tags bound) (entries_in list))
    go true rest = ap (λ entries. entry ∷ entries) rest
    go false rest = rest

-- the answered_lines of some items that stay
abbrev pub staying_rows : List (List ℕ) → List InputLine → List AnsweredLine
staying_rows tags items =
    filter (row_stays tags (bound_batches tags (run_of (events_in items)))) (answered_lines_after [] items)

-- and so those of the rows without some modules
staying_entries : (tags : List (List ℕ)) (items : List InputLine)
    → entries_in (staying_rows tags items) ≡ entries_without tags (events_in items)
staying_entries tags items =
    entries_stay tags (bound_batches tags (run_of (events_in items))) (answered_lines_after [] items)
    ∙ ap (filter (stays tags (bound_batches tags (run_of (events_in items))))) (entries_of_rows items [])

-- the events that they have are those of the entries that stay
pub staying_events : (tags : List (List ℕ)) (items : List InputLine) →
    events_in (map item_in (staying_rows tags items)) ≡ map (λ entry. entry.event)
    (entries_without tags (events_in items))
staying_events tags items = events_of_items (staying_rows tags items)
    ∙ ap (map (λ entry. entry.event)) (staying_entries tags items)

-- and their own answered_lines are these
pub rows_stay : (tags : List (List ℕ)) (items : List InputLine) → AreOrderly (events_in items) →
    answered_lines_after [] (map item_in (staying_rows tags items)) ≡ staying_rows tags items
rows_stay tags items orderly =
    ap (λ events. answered_lines (map item_in (staying_rows tags items)) (run_of events)) (staying_events tags items)
    ∙ ap (answered_lines (map item_in (staying_rows tags items))) (events_removed tags (events_in items) orderly
    ∙ sym (staying_entries tags items))
    ∙ rows_again (staying_rows tags items)
