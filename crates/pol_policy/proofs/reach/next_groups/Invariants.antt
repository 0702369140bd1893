use Rattle.std.proofs.Common.{◌≡◌, ◌<◌, ℕ, length, get_or}
use Rattle.pol_policy.specs.Places.{IsPlacesOf}
use Rattle.pol_policy.specs.Tables.{is_next_group}
use Rattle.pol_policy.specs.declared.parts.Group.{Group}
use Rattle.pol_policy.specs.declared.place_set.PlaceSet.{PlaceSet}
use Rattle.pol_policy.proofs.reach.next_groups.Given as goal

abbrev pub invariant-loop-group : goal.invariant-loop-group
invariant-loop-group l = record {
  whole : length l.sets.items ≡ l.group-index;
  each : (from : ℕ) (group : Group) (set : PlaceSet) → from < l.group-index
      → IsPlacesOf (is_next_group (get_or l.groups from group)) l.groups (get_or l.sets.items from set);
}
