-- The variables that are left are added to those that are known.
use Rattle.std.proofs.Common.{◌≡◌, ℕ, List, drop, Some, None, if◌then◌else◌}
use Rattle.std.specs.List.{list_any}
use Rattle.std.specs.Map.{lookup}
use Rattle.std.specs.Str.{bytes_eq}
use Rattle.pol_slots.proofs.reported.of_variables.Given as goal

abbrev pub invariant-loop-variable : goal.invariant-loop-variable
invariant-loop-variable l =
    (name : List ℕ) → (if list_any (λ variable. bytes_eq variable.name name) (drop l.variable-index l.variables)
    then Some None else lookup (bytes_eq name) l.last_values)
    ≡ (if list_any (λ variable. bytes_eq variable.name name) l.variables then Some None else None)
