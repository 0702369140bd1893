-- What a module reported.
use Rattle.std.specs.Prelude.{ℕ, ◌≡◌, List, None, is_some}
use Rattle.std.specs.Map.{lookup}
use Rattle.std.specs.Str.{bytes_eq}
use Rattle.mtp_codes.specs.declared.value.Value.{Value}
use Rattle.mtp_assembly.specs.declared.control.ServiceControl.{ServiceControl}
use Rattle.mtp_desc.specs.Plain.{PlainDescription}
use Rattle.mtp_desc.specs.Lookup.{service_named, variable_named}
use Rattle.pol_slots.specs.LastValues.{last_in, Puts, Forgets, SameLastValues}
use Rattle.pol_slots.specs.declared.reported.Reported.{Reported}

-- there is a place for each service of the description, and for no other
abbrev pub KnowsServices : PlainDescription → Reported → Type 0
KnowsServices description reported =
    (name : List ℕ) → is_some (lookup (bytes_eq name) reported.controls) ≡ is_some (service_named name description)

-- there is a place for each variable of the description, and for no other
abbrev pub KnowsVariables : PlainDescription → Reported → Type 0
KnowsVariables description reported =
    (name : List ℕ) → is_some (lookup (bytes_eq name) reported.values) ≡ is_some (variable_named name description)

-- nothing was reported
pub record ReportedNothing (reported : Reported) : Type 0 where
  pub controls : (name : List ℕ) → last_in name reported.controls ≡ None
  pub values : (name : List ℕ) → last_in name reported.values ≡ None

-- a service reported this, and nothing else was reported
pub record ReportsControl (service : List ℕ) (control : ServiceControl) (old new : Reported) : Type 0 where
  pub controls : Puts service control old.controls new.controls
  pub values : new.values ≡ old.values

-- all that was reported is kept
pub record ReportsSame (old new : Reported) : Type 0 where
  pub controls : SameLastValues old.controls new.controls
  pub values : new.values ≡ old.values

-- a variable was reported with this value, and nothing else was reported
pub record ReportsValue (name : List ℕ) (value : Value) (old new : Reported) : Type 0 where
  pub controls : new.controls ≡ old.controls
  pub values : Puts name value old.values new.values

-- all that was reported is forgotten
pub record ForgetsAll (old new : Reported) : Type 0 where
  pub controls : Forgets old.controls new.controls
  pub values : Forgets old.values new.values
