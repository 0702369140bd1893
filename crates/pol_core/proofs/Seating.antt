-- The table of modules after one more event of a module.
use Rattle.std.proofs.Common.{◌≡◌, ℕ, Bool, true, false, cond, List, ◌∷◌, Option, Some, None, refl, ap, sym, ◌∙◌, subst}
use Rattle.std.specs.Option.{option_map}
use Rattle.std.specs.Str.{bytes_eq}
use Rattle.mtp_codes.proofs.Names.{same_true}
use Rattle.pol_events.specs.Events.{PlainEntry}
use Rattle.pol_history.specs.Looking.{History, of_module, subject, past}
use Rattle.pol_history.specs.Refused.{ChangesNothing}
use Rattle.pol_core.proofs.Used.{users_same, users_refused}
use Rattle.pol_history.proofs.Pasts.{past_apart}
use Rattle.pol_slots.specs.declared.slot.Slot.{Slot}
use Rattle.pol_table.specs.Rows.{Row, Rows, look, with_part}
use Rattle.pol_table.proofs.Changed.{look_changed}
use Rattle.pol_core.specs.Seats.{users_of, IsSeated, SeatsMirror}

-- ---- one tag's row changes

-- the new table has this at the tag, and what the old one has at others
abbrev pub Changes : List ℕ → Option (Row Slot) → Rows Slot → Rows Slot → Type 0
Changes tag row old new = (other : List ℕ) → look other new ≡ cond (bytes_eq tag other) row (look other old)

-- an event of a module: one row changes, and all else stays
pub seat_changes : (history : History) (entry : PlainEntry) (tag : List ℕ) (row : Option (Row Slot))
    (old new : Rows Slot) →
    subject entry.event ≡ of_module tag → Changes tag row old new →
    IsSeated tag row (past tag (entry ∷ history)) (users_of history tag) →
    SeatsMirror old history → SeatsMirror new (entry ∷ history)
seat_changes history entry tag row old new is changes seated mirror other =
    subst (IsSeated other (look other new) (past other (entry ∷ history)))
    (sym (users_same history entry tag is other))
    (subst (λ found. IsSeated other found (past other (entry ∷ history)) (users_of history other))
    (sym (changes other)) (go (bytes_eq tag other) refl))
  where
    go : (same : Bool) → bytes_eq tag other ≡ same → IsSeated other (cond same row (look other old))
        (past other (entry ∷ history)) (users_of history other)
    go true same = subst (λ other. IsSeated other row (past other (entry ∷ history)) (users_of history other))
        (same_true tag other same) seated
    go false apart = subst (λ past. IsSeated other (look other old) past (users_of history other))
        (sym (past_apart history entry tag other is apart)) (mirror other)

-- a part that is put in place of another
pub part_changes : (tag : List ℕ) (row : Row Slot) (rows : Rows Slot) (slot : Slot) →
    look tag rows ≡ Some row →
    Changes tag (Some (record row { part = slot })) rows (with_part tag rows slot)
part_changes tag row rows slot found other =
    look_changed tag (λ (row : Row Slot). record row { part = slot }) rows other ∙ go (bytes_eq tag other) refl
  where
    kept : (old : Option (Row Slot)) → option_map (λ row. row) old ≡ old
    kept None = refl
    kept (Some row) = refl

    go : (same : Bool) → bytes_eq tag other ≡ same →
        option_map (λ row. cond same (record row { part = slot }) row) (look other rows)
        ≡ cond same (Some (record row { part = slot })) (look other rows)
    go true same = ap (option_map {T = Row Slot} (λ row. record row { part = slot }))
        (ap (λ tag. look tag rows) (sym (same_true tag other same)) ∙ found)
    go false apart = kept (look other rows)

-- ---- a refused event

-- a refused event changes no row
pub seats_refused : (history : History) (entry : PlainEntry) (rows : Rows Slot) → ChangesNothing entry history →
    SeatsMirror rows history →
    SeatsMirror rows (entry ∷ history)
seats_refused history entry rows nothing mirror tag =
    subst (IsSeated tag (look tag rows) (past tag (entry ∷ history))) (sym (users_refused history entry nothing tag))
    (subst (λ past. IsSeated tag (look tag rows) past (users_of history tag)) (sym (nothing.modules tag))
    (mirror tag))
