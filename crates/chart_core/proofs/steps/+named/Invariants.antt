use Rattle.std.proofs.Common.{◌≡◌, ◌-◌, drop, not}
use Rattle.mtp_codes.specs.Faults.{when}
use Rattle.chart_core.specs.Trees.{trees, arms, sizes, arm_sizes}
use Rattle.chart_core.specs.Valid.{some_has_name, arm_has_name}
use Rattle.chart_core.proofs.steps.+named.Given as goal

abbrev pub invariant-all_left_unnamed-loop-kid : goal.invariant-all_left_unnamed-loop-kid
invariant-all_left_unnamed-loop-kid l =
    when (not (some_has_name (trees (drop l.kid-index l.kids)) l.left l.name))
    (l.left - sizes (trees (drop l.kid-index l.kids)))
    ≡ when (not (some_has_name (trees l.kids) l.count l.name)) (l.count - sizes (trees l.kids))

abbrev pub invariant-arms_left_unnamed-loop-arm : goal.invariant-arms_left_unnamed-loop-arm
invariant-arms_left_unnamed-loop-arm l =
    when (not (arm_has_name (arms (drop l.arm-index l.each)) l.left l.name))
    (l.left - arm_sizes (arms (drop l.arm-index l.each)))
    ≡ when (not (arm_has_name (arms l.each) l.count l.name)) (l.count - arm_sizes (arms l.each))
