-- What happens to one service or one variable of a module, as marks: it is reported, the module is read, or the module
-- is moved. The first mark after a report or a value decides whether it stays.
use Rattle.std.specs.Prelude.{ℕ, Bool, true, false, not, ◌&&◌, List, [], ◌∷◌, filter_map, Option, Some, None}
use Rattle.std.specs.Prelude.{option_map, if◌then◌else◌}
use Rattle.mtp_codes.specs.declared.state.State.{State}
use Rattle.mtp_codes.specs.declared.value.Value.{Value}
use Rattle.mtp_machine.specs.Machine.{same_state}
use Rattle.mtp_assembly.specs.declared.control.ServiceControl.{ServiceControl}
use Rattle.pol_events.specs.Events.{PlainEvent, PlainEntry}
use Rattle.pol_history.specs.Looking.{History, is_module, subject}
use Rattle.pol_compaction.specs.Reading.{moves, reads}

-- what an event is to a service, or to a variable
pub data Mark (A : Type 0) : Type 0 where
  told : A → Mark A
  read : Mark A
  moved : Mark A

-- what an event of the module says
abbrev pub said_of : {A : Type 0} → List ℕ → (PlainEvent → Option A) → PlainEvent → Option A
said_of tag says event = if is_module tag (subject event) then says event else None

-- the mark that an event is, by what its module's events say of the service or variable
abbrev pub mark_of : {A : Type 0} → History → List ℕ → (PlainEvent → Option A) → PlainEvent → Option (Mark A)
mark_of whole tag says event =
    if reads whole tag event then Some read
    else (if moves tag event then Some moved else option_map told (said_of tag says event))

-- the marks of some entries, the oldest first
abbrev pub marks_of : {A : Type 0} → History → List ℕ → (PlainEvent → Option A) → List PlainEntry → List (Mark A)
marks_of whole tag says entries = filter_map (λ entry. mark_of whole tag says entry.event) entries

-- a report of this state stays, by whether something has read the module since it moved last, and by the next mark
abbrev pub report_stays : State → Bool → List (Mark ServiceControl) → Bool
report_stays state was_read [] = true
report_stays state was_read (told control ∷ marks) = was_read && not (same_state control.state state)
report_stays state was_read (read ∷ marks) = true
report_stays state was_read (moved ∷ marks) = was_read

-- a value stays, by the next mark
abbrev pub value_stays : List (Mark Value) → Bool
value_stays [] = true
value_stays (told value ∷ marks) = false
value_stays (read ∷ marks) = true
value_stays (moved ∷ marks) = false
