-- The services that are left are added to those that are known.
use Rattle.std.proofs.Common.{◌≡◌, ℕ, List, drop, Some, None, if◌then◌else◌}
use Rattle.std.specs.List.{list_any}
use Rattle.std.specs.Map.{lookup}
use Rattle.std.specs.Str.{bytes_eq}
use Rattle.pol_slots.proofs.reported.of_services.Given as goal

abbrev pub invariant-loop-service : goal.invariant-loop-service
invariant-loop-service l =
    (name : List ℕ) → (if list_any (λ service. bytes_eq service.name name)
    (drop l.service-index l.services) then Some None else lookup (bytes_eq name) l.last_values)
    ≡ (if list_any (λ service. bytes_eq service.name name) l.services then Some None else None)
