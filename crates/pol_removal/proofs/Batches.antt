-- The batches and their lines, where modules are taken out.
use Rattle.std.proofs.Common.{◌≡◌, ℕ, Bool, true, false, not, List, [], ◌∷◌, map, reverse, refl, ap, sym, ◌∙◌, Some}
use Rattle.std.proofs.Common.{if◌then◌else◌}
use Rattle.std.specs.Prelude.{filter, filter_map}
use Rattle.std.specs.List.{AllByRecursion}
use Rattle.std.proofs.lemmas.Bool.{not-true}
use Rattle.mtp_codes.specs.Names.{is_among}
use Rattle.pol_events.specs.Events.{PlainEvent, PlainEntry}
use Rattle.pol_history.specs.Looking.{History}
use Rattle.pol_history.specs.Batches.{start_by, outcome_by, log_by, batches}
use Rattle.pol_history.specs.Runs.{recorded, recorded_all, run_of, history_after, AreOrderly}
use Rattle.pol_record.specs.Texts.{started_text, batch_text, batch_lines, batches_text}
use Rattle.pol_removal.specs.Removal.{bound_batches, stays, entries_without}
use Rattle.pol_removal.proofs.Each.{all_map}
use Rattle.pol_history.proofs.Filters.{filter_reverse}
use Rattle.pol_removal.proofs.Kept.{filter_map_kept, flat_map_kept}
use Rattle.pol_removal.proofs.Sparing.{Covered, newly_started, start_stays, past_of_batch_stays}
use Rattle.pol_removal.proofs.Bound.{bound_covers, covered_recorded}
use Rattle.pol_removal.proofs.Induction.{dropped, grown, events_removed}

-- ---- the history

-- what stays of entries that are recorded on a history
recorded_stay : (tags bound : List (List ℕ)) (entries : List PlainEntry) (history : History) →
    recorded_all (filter (stays tags bound) history) (filter (stays tags bound) entries)
    ≡ filter (stays tags bound) (recorded_all history entries)
recorded_stay tags bound [] history = refl
recorded_stay tags bound (entry ∷ entries) history = go (stays tags bound entry) refl
    (recorded_stay tags bound entries (recorded entry history))
  where
    go : (stay : Bool) → stays tags bound entry ≡ stay →
        recorded_all (filter (stays tags bound) (recorded entry history)) (filter (stays tags bound) entries)
        ≡ filter (stays tags bound) (recorded_all (recorded entry history) entries) →
        recorded_all (filter (stays tags bound) history) (if stay then entry ∷ filter
        (stays tags bound) entries else filter (stays tags bound) entries)
        ≡ filter (stays tags bound) (recorded_all (recorded entry history) entries)
    go false is rest = rw (← dropped tags bound entry history is) rest
    go true is rest = ap (λ history. recorded_all history (filter (stays tags bound) entries))
        (sym (grown tags bound entry history is)) ∙ rest

-- the history that the events that stay leave is the history without the concerned entries
pub history_without : (tags : List (List ℕ)) (events : List PlainEvent) → AreOrderly events →
    history_after [] (map (λ entry. entry.event) (entries_without tags events))
    ≡ filter (stays tags (bound_batches tags (run_of events))) (history_after [] events)
history_without tags events orderly =
    ap (recorded_all []) (events_removed tags events orderly)
    ∙ recorded_stay tags (bound_batches tags (run_of events)) (run_of events) []

-- the batches that bind one of the modules cover the history with its new entries
covered_all : (tags bound : List (List ℕ)) (entries : List PlainEntry) (history : History)
    → AllByRecursion (Covered tags bound) entries →
    AllByRecursion (Covered tags bound) history → AllByRecursion (Covered tags bound) (recorded_all history entries)
covered_all tags bound [] history covers covered = covered
covered_all tags bound (entry ∷ entries) history covers covered =
    covered_all tags bound entries (recorded entry history) covers.1
    (covered_recorded tags bound entry history covers.0 covered)

-- and so the history after all the events
pub covered_after : (tags : List (List ℕ)) (events : List PlainEvent)
    → AllByRecursion (Covered tags (bound_batches tags (run_of events))) (history_after [] events)
covered_after tags events =
    covered_all tags (bound_batches tags (run_of events)) (run_of events) [] (bound_covers tags (run_of events)) tt

-- ---- the batches

-- the batches of what stays are those that aren't taken out
pub batches_stay : (tags bound : List (List ℕ)) (history : History) → AllByRecursion (Covered tags bound) history →
    batches (filter (stays tags bound) history) ≡ filter (λ batch. not (is_among bound batch)) (batches history)
batches_stay tags bound history covered =
    ap reverse (filter_map_kept newly_started (stays tags bound) (λ batch. not (is_among bound batch)) history
    (all_map (Covered tags bound) (λ entry. (batch : List ℕ) → newly_started entry ≡ Some batch
    → stays tags bound entry ≡ not (is_among bound batch))
    (start_stays tags bound) history covered))
    ∙ filter_reverse (λ batch. not (is_among bound batch)) (filter_map newly_started history)

-- ---- their lines

-- the line of a batch, by its past
abbrev text_by : List ℕ → History → List ℕ
text_by batch past = started_text batch (start_by past) (log_by past) (outcome_by past)

-- the lines of the batches that stay are those of the batches that aren't bound
pub batch_lines_stay : (tags bound : List (List ℕ)) (history : History) → AllByRecursion (Covered tags bound) history →
    batches_text (filter (stays tags bound) history) ≡ batch_lines history
    (filter (λ batch. not (is_among bound batch)) (batches history))
batch_lines_stay tags bound history covered =
    ap (batch_lines (filter (stays tags bound) history)) (batches_stay tags bound history covered)
    ∙ flat_map_kept (batch_text (filter (stays tags bound) history)) (batch_text history)
    (λ batch. not (is_among bound batch))
    (λ batch free. ap (text_by batch) (past_of_batch_stays tags bound history covered batch
    (not-true (is_among bound batch) free))) (batches history)
