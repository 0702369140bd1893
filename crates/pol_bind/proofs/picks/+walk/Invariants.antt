use Rattle.std.proofs.Common.{◌≡◌, drop}
use Rattle.chart_core.specs.Trees.{trees, arms}
use Rattle.pol_bind.specs.Walks.{variable_under_all, variable_under_arms}
use Rattle.pol_bind.proofs.picks.+walk.Given as goal

abbrev pub invariant-first_under-loop-kid : goal.invariant-first_under-loop-kid
invariant-first_under-loop-kid g l =
    variable_under_all (g.P.Picks.property l.wanted) (trees (drop l.kid-index l.kids))
    ≡ variable_under_all (g.P.Picks.property l.wanted) (trees l.kids)

abbrev pub invariant-first_in_arms-loop-arm : goal.invariant-first_in_arms-loop-arm
invariant-first_in_arms-loop-arm g l =
    variable_under_arms (g.P.Picks.property l.wanted) (arms (drop l.arm-index l.each))
    ≡ variable_under_arms (g.P.Picks.property l.wanted) (arms l.each)
