-- The binds that are left, put in one after the other, complete what is in order so far.
use Rattle.std.proofs.Common.{◌≡◌, vec_len}
use Rattle.pol_events.specs.ByRole.{by_role}
use Rattle.pol_find.proofs.Sorting.{with_each}
use Rattle.pol_find.proofs.lines.by_role.Given as goal

abbrev pub invariant-loop-bind : goal.invariant-loop-bind
invariant-loop-bind l = with_each l.left.items l.sorted.items ≡ by_role l.fn.binds.items

abbrev pub decreases-loop-bind : goal.decreases-loop-bind
decreases-loop-bind l = vec_len l.left
