use Rattle.std.proofs.Common.{◌≡◌, map, take}
use Rattle.pol_core.specs.Steps.{bound_step}
use Rattle.pol_core.proofs.steps.bound_steps.Given as goal

abbrev pub invariant-loop-one : goal.invariant-loop-one
invariant-loop-one l = l.steps.items ≡ map (bound_step l.binds) (take l.one-index l.running)
