-- Who holds a module after one more event of a batch.
use Rattle.std.proofs.Common.{◌≡◌, ℕ, true, cond, List, ◌∷◌, Option, Some, None, ap, sym, subst}
use Rattle.std.specs.Option.{option_eq}
use Rattle.std.specs.Str.{bytes_eq}
use Rattle.chart_core.specs.declared.next.Outcome.{Outcome}
use Rattle.pol_events.specs.Events.{PlainEntry}
use Rattle.pol_history.specs.Batches.{starting, closing, outcome_of}
use Rattle.pol_history.specs.Looking.{History, of_batch, subject, is_accepted, past}
use Rattle.pol_core.proofs.Used.{users_if, users_after}
use Rattle.pol_history.proofs.Pasts.{module_past_same}
use Rattle.pol_slots.specs.declared.slot.Slot.{Slot}
use Rattle.pol_table.specs.Rows.{Row, Rows, look, batches_without}
use Rattle.pol_core.specs.Batches.{freed_if}
use Rattle.pol_core.specs.Seats.{users_of, IsSeated, SeatsMirror}

-- the table, freed so, keeps the history with the event
pub seats_freed : (history : History) (entry : PlainEntry) (batch : List ℕ) (old new : Rows Slot) →
    subject entry.event ≡ of_batch batch → starting entry.event ≡ None →
    is_accepted entry.answer ≡ true → outcome_of history batch ≡ None →
    ((tag : List ℕ) → look tag new ≡ freed_if (closing entry.answer) batch (look tag old)) →
    SeatsMirror old history → SeatsMirror new (entry ∷ history)
seats_freed history entry batch old new is start' accepted open' freed mirror tag =
    subst (IsSeated tag (look tag new) (past tag (entry ∷ history)))
    (sym (users_after history entry batch is start' accepted open' tag))
    (subst (λ past. IsSeated tag (look tag new) past (users_if (closing entry.answer) batch
    (users_of history tag))) (sym (module_past_same history entry batch tag is))
    (subst (λ found. IsSeated tag found (past tag history) (users_if (closing entry.answer) batch
    (users_of history tag))) (sym (freed tag))
    (go (closing entry.answer) (look tag old) (mirror tag))))
  where
    go : (closes : Option Outcome) (found : Option (Row Slot)) →
        IsSeated tag found (past tag history) (users_of history tag) →
        IsSeated tag (freed_if closes batch found) (past tag history) (users_if closes batch (users_of history tag))
    go None None seated =
        record { is_absent = seated.is_absent; free = seated.free; unwatched = seated.unwatched }
    go None (Some row) seated =
        record { slot_keeps = seated.slot_keeps; held_by = seated.held_by; watched_by = seated.watched_by }
    go (Some outcome) None seated =
        record {
          is_absent = seated.is_absent;
          free = ap (λ holder. cond (option_eq bytes_eq holder (Some batch)) None holder) seated.free;
          unwatched = ap (batches_without batch) seated.unwatched;
        }
    go (Some outcome) (Some row) seated =
        record {
          slot_keeps = seated.slot_keeps;
          held_by = ap (λ holder. cond (option_eq bytes_eq holder (Some batch)) None holder) seated.held_by;
          watched_by = ap (batches_without batch) seated.watched_by;
        }
