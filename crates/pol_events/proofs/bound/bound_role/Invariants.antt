use Rattle.std.proofs.Common.{◌≡◌, drop}
use Rattle.pol_events.specs.Bound.{bound_role}
use Rattle.pol_events.proofs.bound.bound_role.Given as goal

abbrev pub invariant-loop-bind : goal.invariant-loop-bind
invariant-loop-bind l = bound_role (drop l.bind-index l.binds) l.tag ≡ bound_role l.binds l.tag
