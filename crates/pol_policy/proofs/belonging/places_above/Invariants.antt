use Rattle.std.proofs.Common.{◌≡◌, ◌&&◌, ℕ, take, get_or}
use Rattle.std.specs.List.{list_any}
use Rattle.pol_policy.specs.Deciding.{leads_through}
use Rattle.pol_policy.specs.Names.{name_has}
use Rattle.pol_policy.specs.Places.{has}
use Rattle.pol_policy.specs.Tables.{is_next_group}
use Rattle.pol_policy.specs.declared.parts.Group.{Group}
use Rattle.pol_policy.proofs.belonging.places_above.Given as goal

abbrev pub invariant-loop-from : goal.invariant-loop-from
invariant-loop-from l = (group : Group) (place : ℕ) → has l.places place
    ≡ list_any (λ first. leads_through is_next_group l.groups first (get_or l.groups l.last group)
    && name_has l.index first.group place)
    (take l.from l.groups)
