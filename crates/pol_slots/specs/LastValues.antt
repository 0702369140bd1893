-- The last values of some names.
use Rattle.std.specs.Prelude.{ℕ, ◌≡◌, List, Option, Some, None, option_and_then, option_map, if◌then◌else◌}
use Rattle.std.specs.Map.{lookup}
use Rattle.std.specs.Str.{bytes_eq}
use Rattle.mtp_codes.specs.declared.state.State.{State}
use Rattle.mtp_assembly.specs.declared.control.ServiceControl.{ServiceControl}
use Rattle.pol_events.specs.Refusals.{not_an_edge}
use Rattle.pol_events.specs.declared.answer.Rule.{Rule}
use Rattle.pol_events.specs.declared.answer.Rule.TheVariants.{NoService}

module _ {A : Type 0} where
  -- the last value of the name, if it is one of these and has one
  abbrev pub last_in : List ℕ → List (List ℕ × Option A) → Option A
  last_in name last_values = option_and_then (λ last. last) (lookup (bytes_eq name) last_values)

  -- the value is put as the last one of the name, if it is one of these; the other names are as before
  abbrev pub Puts : List ℕ → A → List (List ℕ × Option A) → List (List ℕ × Option A) → Type 0
  Puts name value old new =
      (other : List ℕ) → lookup (bytes_eq other) new
      ≡ option_map (λ last. if bytes_eq name other then Some value else last) (lookup (bytes_eq other) old)

  -- all values are forgotten, and the names stay
  abbrev pub Forgets : List (List ℕ × Option A) → List (List ℕ × Option A) → Type 0
  Forgets old new = (name : List ℕ) → lookup (bytes_eq name) new
      ≡ option_map (λ last. None) (lookup (bytes_eq name) old)

  -- each name has the same last value
  abbrev pub SameLastValues : List (List ℕ × Option A) → List (List ℕ × Option A) → Type 0
  SameLastValues old new = (name : List ℕ) → lookup (bytes_eq name) new ≡ lookup (bytes_eq name) old

-- why a report of this state is refused, by the last control of the service, if there is such a service
abbrev pub report_rule : State → Option (Option ServiceControl) → Option Rule
report_rule state None = Some NoService
report_rule state (Some last) = not_an_edge state last
