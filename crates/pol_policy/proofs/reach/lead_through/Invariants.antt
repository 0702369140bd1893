use Rattle.std.proofs.Common.{◌≡◌, ◌<◌, ◌≤◌, ◌&&◌, ◌||◌, ℕ, length, get_or}
use Rattle.pol_policy.specs.Places.{has}
use Rattle.pol_policy.specs.declared.place_set.PlaceSet.{PlaceSet}
use Rattle.pol_policy.proofs.reach.lead_through.Given as goal

abbrev pub invariant-loop-set : goal.invariant-loop-set
invariant-loop-set l = record {
  whole : length l.sets ≡ length l.initial.sets;
  done : (from : ℕ) (set : PlaceSet) → from < l.set-index → (other : ℕ)
      → has (get_or l.sets from set) other
      ≡ (has (get_or l.initial.sets from set) other || (has (get_or l.initial.sets from set) l.place
      && has l.through other));
  rest : (from : ℕ) (set : PlaceSet) → l.set-index ≤ from → get_or l.sets from set ≡ get_or l.initial.sets from set;
}
