-- What contracts see of a slot.
use Rattle.std.specs.Prelude.{ℕ, ◌≡◌, List, Option, None, option_and_then}
use Rattle.mtp_assembly.specs.declared.control.ServiceControl.{ServiceControl}
use Rattle.mtp_codes.specs.declared.value.Value.{Value}
use Rattle.mtp_desc.specs.Plain.{PlainDescription}
use Rattle.mtp_desc.specs.PlainDescription.{plain_description}
use Rattle.pol_slots.specs.Berths.{ticket_in, docked_in}
use Rattle.pol_slots.specs.LastValues.{last_in}
use Rattle.pol_slots.specs.declared.slot.Slot.{Slot}

-- the tag of the slot's module
abbrev pub slot_tag : Slot → List ℕ
slot_tag slot = slot.tag

-- the description of the slot's module; while the module is away, the old one
abbrev pub slot_description : Slot → PlainDescription
slot_description slot = plain_description slot.description.value

-- how often the slot's module began an exchange
abbrev pub slot_begins : Slot → ℕ
slot_begins slot = slot.begins

-- the ticket under which the slot's module is away; none while it is docked
abbrev pub slot_ticket : Slot → Option ℕ
slot_ticket slot = ticket_in slot.berth

-- what the service reported last since docking
unfoldable pub last_control : Slot → List ℕ → Option ServiceControl
last_control slot service = option_and_then (λ reported. last_in service reported.controls) (docked_in slot.berth)

-- the value that the variable was reported with last since docking
unfoldable pub last_value : Slot → List ℕ → Option Value
last_value slot name = option_and_then (λ reported. last_in name reported.values) (docked_in slot.berth)

-- the slot has the module of this tag as before: with its description, as often in exchange, and docked or away
pub record SameModule (old new : Slot) : Type 0 where
  pub tag : slot_tag new ≡ slot_tag old
  pub description : slot_description new ≡ slot_description old
  pub begins : slot_begins new ≡ slot_begins old
  pub ticket : slot_ticket new ≡ slot_ticket old

-- each service has the same last report
abbrev pub SameControls : Slot → Slot → Type 0
SameControls old new = (service : List ℕ) → last_control new service ≡ last_control old service

-- each variable has the same last value
abbrev pub SameValues : Slot → Slot → Type 0
SameValues old new = (name : List ℕ) → last_value new name ≡ last_value old name

-- nothing that contracts see has changed
pub record IsUnchanged (old new : Slot) : Type 0 where
  pub same_module : SameModule old new
  pub controls : SameControls old new
  pub values : SameValues old new

-- no service and no variable was reported since docking
pub record IsUnreported (slot : Slot) : Type 0 where
  pub controls : (service : List ℕ) → last_control slot service ≡ None
  pub values : (name : List ℕ) → last_value slot name ≡ None

-- the slot has a module of this description docked under the same tag, as often in exchange, and nothing was reported
-- of it
pub record IsDocked (old new : Slot) (described : PlainDescription) : Type 0 where
  pub tag : slot_tag new ≡ slot_tag old
  pub description : slot_description new ≡ described
  pub begins : slot_begins new ≡ slot_begins old
  pub docked : slot_ticket new ≡ None
  pub unreported : IsUnreported new
