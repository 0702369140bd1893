use Rattle.std.proofs.Common.{◌≡◌, ◌++◌, drop}
use Rattle.chart_core.specs.Trees.{trees, arms}
use Rattle.chart_core.specs.Order.{all_step_plans, arm_step_plans, plans_seen}
use Rattle.chart_core.proofs.order.+order.Given as goal

abbrev pub invariant-put_all-loop-kid : goal.invariant-put_all-loop-kid
invariant-put_all-loop-kid l =
    plans_seen l.found.items ++ all_step_plans (trees (drop l.kid-index l.kids))
    ≡ plans_seen l.fn.found.items ++ all_step_plans (trees l.kids)

abbrev pub invariant-put_arms-loop-arm : goal.invariant-put_arms-loop-arm
invariant-put_arms-loop-arm l =
    plans_seen l.found.items ++ arm_step_plans (arms (drop l.arm-index l.each))
    ≡ plans_seen l.fn.found.items ++ arm_step_plans (arms l.each)
