use Rattle.std.proofs.Common.{◌≡◌, drop}
use Rattle.pol_events.specs.Bound.{bound_tag}
use Rattle.pol_events.proofs.bound.bound_tag.Given as goal

abbrev pub invariant-loop-bind : goal.invariant-loop-bind
invariant-loop-bind l = bound_tag (drop l.bind-index l.binds) l.role ≡ bound_tag l.binds l.role
