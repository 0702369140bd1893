use Rattle.std.proofs.Common.{◌≡◌, drop}
use Rattle.chart_core.specs.Finding.{first_passing_among, first_passing_in_arms}
use Rattle.chart_core.specs.Trees.{trees, arms}
use Rattle.chart_core.proofs.finding.+find.Given as goal

abbrev pub invariant-find_among-loop-kid : goal.invariant-find_among-loop-kid
invariant-find_among-loop-kid g l =
    first_passing_among (g.T.StepTest.test l.test) (trees (drop l.kid-index l.kids))
    ≡ first_passing_among (g.T.StepTest.test l.test) (trees l.kids)

abbrev pub invariant-find_in_arms-loop-arm : goal.invariant-find_in_arms-loop-arm
invariant-find_in_arms-loop-arm g l =
    first_passing_in_arms (g.T.StepTest.test l.test) (arms (drop l.arm-index l.each))
    ≡ first_passing_in_arms (g.T.StepTest.test l.test) (arms l.each)
