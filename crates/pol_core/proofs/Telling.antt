-- The table of modules after a report, and after a variable's value.
use Rattle.std.proofs.Common.{◌≡◌, ℕ, Bool, true, false, cond, List, ◌∷◌, Option, Some, None, is_some, refl, ap, sym}
use Rattle.std.proofs.Common.{◌∙◌, subst}
use Rattle.std.specs.Prelude.{Result, Ok, Err, ⊤, OnOk, OnErr, is_ok}
use Rattle.std.specs.Borrow.{Bor}
use Rattle.std.specs.Option.{option_map, option_copied}
use Rattle.std.specs.Str.{bytes_eq}
use Rattle.mtp_codes.proofs.Names.{same_true}
use Rattle.pol_events.specs.Events.{PlainEvent, PlainEntry}
use Rattle.pol_events.specs.declared.answer.Answer.{Answer}
use Rattle.pol_events.specs.declared.answer.Rule.{Rule}
use Rattle.pol_history.specs.Answers.{answer_of}
use Rattle.pol_history.specs.Looking.{History, of_module, subject, is_accepted, past}
use Rattle.pol_history.specs.Modules.{absent, docking_by, present_tags}
use Rattle.pol_history.specs.Runs.{entry_of}
use Rattle.pol_history.proofs.Pasts.{past_own}
use Rattle.pol_history.proofs.Refused.{refused_nothing}
use Rattle.pol_slots.specs.declared.slot.Slot.{Slot}
use Rattle.pol_table.specs.Rows.{Row, Rows, look, part_of, with_part}
use Rattle.pol_core.specs.Seats.{users_of, SlotKeeps, IsTaken, IsSeated, SeatsMirror, IsCounted, AnswersModule}
use Rattle.pol_core.specs.Seats.{done_or_refused}
use Rattle.pol_core.proofs.Counting.{counted_part, counted_same}
use Rattle.pol_core.proofs.Seating.{seat_changes, part_changes}

-- the row of a part
pub record HasBerth {T : Type 0} (tag : List ℕ) (rows : Rows T) (part : T) : Type 0 where
  pub row : Row T
  pub found : look tag rows ≡ Some row
  pub part_is : row.part ≡ part

-- what a mapped option holds comes from what was there
mapped_some : {A B : Type 0} (f : A → B) (found : Option A) (y : B) → option_map f found ≡ Some y →
    (x : A) × (found ≡ Some x) × (f x ≡ y)
mapped_some f None y is = cc
mapped_some f (Some x) y is = let same : f x ≡ y = cc in (x, refl, same)

-- a part that is found stands in a row
pub has_row : {T : Type 0} (tag : List ℕ) (rows : Rows T) (part : T) → part_of tag rows ≡ Some part →
    HasBerth tag rows part
has_row tag rows part is =
    let (row, found, same) = mapped_some (λ row. row.part) (look tag rows) part is in
    record { row = row; found = found; part_is = same }

-- a seated slot keeps its module's past
pub seated_slot : (history : History) (tag : List ℕ) (rows : Rows Slot) (slot : Slot) →
    SeatsMirror rows history → part_of tag rows ≡ Some slot
    → SlotKeeps tag slot (past tag history)
seated_slot history tag rows slot mirror is =
    let has = has_row tag rows slot is in
    let taken : IsTaken tag has.row (past tag history) (users_of history tag)
    = subst (λ found. IsSeated tag found (past tag history) (users_of history tag)) has.found (mirror tag) in
    subst (λ slot. SlotKeeps tag slot (past tag history)) has.part_is taken.slot_keeps

-- a tag without a part has no row
no_row : {T : Type 0} (found : Option (Row T)) → option_map (λ row. row.part) found ≡ None → found ≡ None
no_row None none = refl
no_row (Some row) none = cc

-- a tag without a slot is absent
pub absent_without : (history : History) (tag : List ℕ) (rows : Rows Slot) → SeatsMirror rows history →
    part_of tag rows ≡ None → docking_by (past tag history) ≡ absent
absent_without history tag rows mirror none =
    (subst (λ found. IsSeated tag found (past tag history) (users_of history tag)) (no_row (look tag rows) none)
    (mirror tag)).is_absent

-- a slot in the place of another, after an event of its module
pub slot_changes : (history : History) (event : PlainEvent) (tag : List ℕ) (rows : Rows Slot) (old new : Slot) →
    subject event ≡ of_module tag →
    SeatsMirror rows history → part_of tag rows ≡ Some old →
    SlotKeeps tag new (past tag (entry_of history event ∷ history)) →
    SeatsMirror (with_part tag rows new) (entry_of history event ∷ history)
slot_changes history event tag rows old new is mirror found keeps =
    let has = has_row tag rows old found in
    let taken : IsTaken tag has.row (past tag history) (users_of history tag)
    = subst (λ found. IsSeated tag found (past tag history) (users_of history tag)) has.found (mirror tag) in
    seat_changes history (entry_of history event) tag (Some (record has.row { part = new })) rows
    (with_part tag rows new) is
    (part_changes tag has.row rows new has.found)
    (record { slot_keeps = keeps; held_by = taken.held_by; watched_by = taken.watched_by }) mirror

-- a slot that an accepted event of its module leaves as it is
pub seats_unmoved : (history : History) (entry : PlainEntry) (tag : List ℕ) (slot : Slot) (rows : Rows Slot) →
    subject entry.event ≡ of_module tag →
    is_accepted entry.answer ≡ true → part_of tag rows ≡ Some slot →
    (SlotKeeps tag slot (past tag history) → SlotKeeps tag slot (entry ∷ past tag history)) →
    SeatsMirror rows history → SeatsMirror rows (entry ∷ history)
seats_unmoved history entry tag slot rows is accepted found keeps mirror =
    let has = has_row tag rows slot found in
    let taken : IsTaken tag has.row (past tag history) (users_of history tag)
    = subst (λ found. IsSeated tag found (past tag history) (users_of history tag)) has.found (mirror tag) in
    seat_changes history entry tag (Some has.row) rows rows is (same has.row has.found)
    (record {
      slot_keeps = subst (λ past. SlotKeeps tag has.row.part past) (sym (past_own history entry tag is accepted))
          (subst (λ slot. SlotKeeps tag slot (entry ∷ past tag history)) (sym has.part_is)
          (keeps (seated_slot history tag rows slot mirror found)));
      held_by = taken.held_by;
      watched_by = taken.watched_by;
    }) mirror
  where
    same : (row : Row Slot) → look tag rows ≡ Some row → (other : List ℕ) →
        look other rows ≡ cond (bytes_eq tag other) (Some row) (look other rows)
    same row found other = go (bytes_eq tag other) refl
      where
        go : (here : Bool) → bytes_eq tag other ≡ here → look other rows ≡ cond here (Some row) (look other rows)
        go true here = ap (λ name. look name rows) (sym (same_true tag other here)) ∙ found
        go false apart = refl

-- after an event that is refused, or that is done
pub slot_told : (history : History) (event : PlainEvent) (tag : List ℕ) (rows : Rows Slot)
    (old new : Slot) (result : Result ⊤ Rule) → subject event ≡ of_module tag →
    done_or_refused result ≡ answer_of history event → SeatsMirror rows history → part_of tag rows ≡ Some old →
    OnOk result (SlotKeeps tag new (entry_of history event ∷ past tag history)) →
    OnErr result (SlotKeeps tag new (past tag history)) → SeatsMirror (with_part tag rows new)
    (entry_of history event ∷ history)
slot_told history event tag rows old new (Ok done) is answer mirror found accepted refused =
    slot_changes history event tag rows old new is mirror found
    (subst (SlotKeeps tag new) (sym (past_own history (entry_of history event) tag is
    (ap is_accepted (sym answer)))) accepted)
slot_told history event tag rows old new (Err rule) is answer mirror found accepted refused =
    slot_changes history event tag rows old new is mirror found
    (subst (SlotKeeps tag new)
    (sym ((refused_nothing (entry_of history event) history (ap is_accepted (sym answer))).modules tag)) refused)

-- what holds anyway holds after an error
pub on_err_of : {X E : Type 0} {A : Type 0} (result : Result X E) → A → OnErr result A
on_err_of (Ok done) holds = tt
on_err_of (Err fault) holds = holds

-- what holds after success, where it is known to be one
pub from_ok : {X E : Type 0} {A : Type 0} (result : Result X E) → is_ok result ≡ true → OnOk result A → A
from_ok (Ok done) ok holds = holds
from_ok (Err fault) ok holds = cc

-- a row has a part
pub part_some : {T : Type 0} (found : Option (Row T)) → is_some (option_map (λ row. row.part) found)
    ≡ is_some found
part_some None = refl
part_some (Some row) = refl

-- a reference is there where its part is
pub copied_some : {T : Type 0} (found : Option (Bor T)) → is_some (option_copied found) ≡ is_some found
copied_some None = refl
copied_some (Some part) = refl

-- an event of a module that its slot answers by itself
pub slot_answered : (history : History) (event : PlainEvent) (tag : List ℕ) (rows : Rows Slot)
    (old new : Slot) (result : Result ⊤ Rule) (answer : Answer) →
    subject event ≡ of_module tag → present_tags (entry_of history event ∷ history) ≡ present_tags history →
    answer ≡ done_or_refused result →
    done_or_refused result ≡ answer_of history event → SeatsMirror rows history → IsCounted rows history →
    part_of tag rows ≡ Some old →
    OnOk result (SlotKeeps tag new (entry_of history event ∷ past tag history)) →
    OnErr result (SlotKeeps tag new (past tag history)) →
    AnswersModule history event answer (with_part tag rows new)
slot_answered history event tag rows old new result answer is present told judged seats counted
    found accepted refused =
    record {
      answer_is = told ∙ judged;
      seats = slot_told history event tag rows old new result is judged seats found accepted refused;
      counted = counted_same history (entry_of history event) (with_part tag rows new) present
          (counted_part history tag new rows counted);
    }
