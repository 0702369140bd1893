-- What each module reported last since it was docked, by its tag and the name of a service or a variable.
use Rattle.std.specs.Prelude.{◌≡◌, ℕ, Bool, List, Option, Some, None, if◌then◌else◌}
use Rattle.std.specs.HashMap.{HashMap}
use Rattle.std.specs.Map.{lookup}
use Rattle.std.specs.Option.{option_and_then, option_or}
use Rattle.std.specs.Str.{bytes_eq}
use Rattle.mtp_codes.specs.declared.value.Value.{Value}
use Rattle.mtp_assembly.specs.declared.control.ServiceControl.{ServiceControl}
use Rattle.pol_events.specs.Events.{PlainEvent, report, variable}
use Rattle.pol_audit.specs.Listed.{is_this}

-- what was reported last under a tag and a name
abbrev pub told_under : {T S : Type 0} → List (List ℕ × HashMap (List ℕ) T S) → List ℕ → List ℕ → Option T
told_under tagged tag name =
    option_and_then (λ named. lookup (bytes_eq name) named.entries) (lookup (bytes_eq tag) tagged)

-- what is reported of this name, by the one name of which something is reported, if there is one
abbrev pub told_of : {T : Type 0} → Option (List ℕ × T) → List ℕ → Option T
told_of more name = option_and_then (λ one. if bytes_eq one.0 name then Some one.1 else None) more

-- what was reported last, where the module was moved or may have reported something more
abbrev pub told_after : {T : Type 0} → Bool → Option T → Option T → Option T
told_after moved more before = if moved then None else option_or more before

-- what was reported last is brought up to date under each name of the module, if there is one; what other modules
-- reported stays
abbrev pub Tells : {T S : Type 0} → List (List ℕ × HashMap (List ℕ) T S) → List (List ℕ × HashMap (List ℕ) T S) →
    Option (List ℕ) → Bool → Option (List ℕ × T) → Type 0
Tells old new whom moved more =
    (tag name : List ℕ) → told_under new tag name
    ≡ (if is_this tag whom then told_after moved (told_of more name) (told_under old tag name)
    else told_under old tag name)

-- the service that an event reports, with its control
abbrev pub told_control : PlainEvent → Option (List ℕ × ServiceControl)
told_control (report at tag service control) = Some (service, control)
told_control _ = None

-- the variable that an event reports, with its value
abbrev pub told_value : PlainEvent → Option (List ℕ × Value)
told_value (variable at tag name value) = Some (name, value)
told_value _ = None
