-- What a slot keeps after one more event of its module.
use Rattle.std.proofs.Common.{◌≡◌, ℕ, Bool, true, false, cond, List, ◌∷◌, Option, Some, None, refl, ap, sym, ◌∙◌}
use Rattle.std.specs.Option.{option_or}
use Rattle.std.specs.Str.{bytes_eq}
use Rattle.mtp_codes.specs.declared.value.Value.{Value}
use Rattle.mtp_assembly.specs.declared.control.ServiceControl.{ServiceControl}
use Rattle.pol_events.specs.Events.{report, variable}
use Rattle.pol_events.specs.declared.answer.Answer.{Answer}
use Rattle.pol_history.specs.Looking.{History}
use Rattle.pol_history.specs.Modules.{control_by, value_by}
use Rattle.pol_history.proofs.Accepted.{paired}
use Rattle.pol_slots.specs.Slots.{last_control, last_value, SameModule, SameControls, SameValues}
use Rattle.pol_slots.specs.declared.slot.Slot.{Slot}
use Rattle.pol_core.specs.Seats.{SlotKeeps}

-- a slot that contracts see unchanged
pub unchanged_keeps : (tag : List ℕ) (old new : Slot) (past : History) → SameModule old new →
    SameControls old new → SameValues old new →
    SlotKeeps tag old past → SlotKeeps tag new past
unchanged_keeps tag old new past same controls values keeps =
    record {
      tag_is = same.tag ∙ keeps.tag_is;
      is_there = keeps.is_there;
      ticket = same.ticket ∙ keeps.ticket;
      description = keeps.description ∙ ap Some (sym same.description);
      begins = same.begins ∙ keeps.begins;
      dockings = rw (same.begins, same.ticket) keeps.dockings;
      controls = λ service. controls service ∙ keeps.controls service;
      values = λ name. values name ∙ keeps.values name;
    }

-- a value that was put, or what was there before
either_or : {A : Type 0} (same : Bool) (here : A) (was found : Option A) → was ≡ found →
    (cond same (Some here) was) ≡ option_or (cond same (Some here) None) found
either_or true here was found is = refl
either_or false here was found is = is

-- a service reports
pub report_keeps : (tag : List ℕ) (old new : Slot) (past : History) (at : ℕ) (other service : List ℕ)
    (control : ServiceControl) (answer : Answer) →
    SameModule old new → SameValues old new →
    ((name : List ℕ) → last_control new name ≡ (cond (bytes_eq service name) (Some control) (last_control old name))) →
    SlotKeeps tag old past → SlotKeeps tag new (paired (report at other service control) answer ∷ past)
report_keeps tag old new past at other service control answer same values reported keeps =
    record {
      tag_is = same.tag ∙ keeps.tag_is;
      is_there = keeps.is_there;
      ticket = same.ticket ∙ keeps.ticket;
      description = keeps.description ∙ ap Some (sym same.description);
      begins = same.begins ∙ keeps.begins;
      dockings = rw (same.begins, same.ticket) keeps.dockings;
      controls = λ name. reported name ∙ either_or (bytes_eq service name) control (last_control old name)
          (control_by name past) (keeps.controls name);
      values = λ name. values name ∙ keeps.values name;
    }

-- a variable is reported
pub variable_keeps : (tag : List ℕ) (old new : Slot) (past : History) (at : ℕ) (other variable_name : List ℕ)
    (value : Value) (answer : Answer) →
    SameModule old new → SameControls old new →
    ((name : List ℕ) → last_value new name ≡ (cond (bytes_eq variable_name name) (Some value) (last_value old name))) →
    SlotKeeps tag old past → SlotKeeps tag new (paired (variable at other variable_name value) answer ∷ past)
variable_keeps tag old new past at other variable_name value answer same controls reported keeps =
    record {
      tag_is = same.tag ∙ keeps.tag_is;
      is_there = keeps.is_there;
      ticket = same.ticket ∙ keeps.ticket;
      description = keeps.description ∙ ap Some (sym same.description);
      begins = same.begins ∙ keeps.begins;
      dockings = rw (same.begins, same.ticket) keeps.dockings;
      controls = λ service. controls service ∙ keeps.controls service;
      values = λ name. reported name ∙ either_or (bytes_eq variable_name name) value (last_value old name)
          (value_by name past) (keeps.values name);
    }
