use Rattle.std.proofs.Common.{◌≡◌, ◌+◌, drop}
use Rattle.chart_core.specs.Trees.{trees, arms, sizes, arm_sizes}
use Rattle.chart_core.proofs.size.+count.Given as goal

abbrev pub invariant-kids_count-loop-kid : goal.invariant-kids_count-loop-kid
invariant-kids_count-loop-kid l = l.total + sizes (trees (drop l.kid-index l.kids)) ≡ sizes (trees l.kids)

abbrev pub invariant-arms_count-loop-arm : goal.invariant-arms_count-loop-arm
invariant-arms_count-loop-arm l = l.total + arm_sizes (arms (drop l.arm-index l.each)) ≡ arm_sizes (arms l.each)
