use Rattle.std.proofs.Common.{◌≡◌, drop}
use Rattle.chart_core.specs.Trees.{arms, arm_conditions}
use Rattle.pol_bind.specs.Walks.{variable_among}
use Rattle.pol_bind.proofs.picks.first_of_choice.Given as goal

abbrev pub invariant-loop-arm : goal.invariant-loop-arm
invariant-loop-arm g l =
    variable_among (g.P.Picks.property l.wanted) (arm_conditions (arms (drop l.arm-index l.each)))
    ≡ variable_among (g.P.Picks.property l.wanted) (arm_conditions (arms l.each))
