use Rattle.std.proofs.Common.{◌≡◌, ◌+◌, ◌*◌, ◌<◌, ◌≤◌, drop, IsTrue}
use Rattle.chart_core.specs.declared.limits.TheConstants.{DEEPEST_NODE, MOST_STEPS}
use Rattle.chart_core.specs.Trees.{trees, arms}
use Rattle.chart_core.specs.Form.{are_trees_formed, are_arms_formed}
use Rattle.chart_core.specs.Charts.{plain_chart}
use Rattle.chart_core.specs.Walks.{walked_all, walked_arms}
use Rattle.chart_core.proofs.valid.+walk.Given as goal

abbrev pub invariant-walk_all-loop-kid : goal.invariant-walk_all-loop-kid
invariant-walk_all-loop-kid l = record {
  formed : IsTrue (are_trees_formed (trees (drop l.kid-index l.kids)));
  near : l.here.number < DEEPEST_NODE * l.here.steps + l.depth;
  behind : 0 < l.kid-index → l.here.number ≤ DEEPEST_NODE * l.here.steps;
  few : l.here.steps ≤ MOST_STEPS;
  rest : walked_all (plain_chart l.chart) (trees (drop l.kid-index l.kids)) l.depth l.here
      ≡ walked_all (plain_chart l.chart) (trees l.kids) l.depth l.fn.first;
}

abbrev pub invariant-walk_arms-loop-arm : goal.invariant-walk_arms-loop-arm
invariant-walk_arms-loop-arm l = record {
  formed : IsTrue (are_arms_formed (arms (drop l.arm-index l.each)));
  near : l.here.number < DEEPEST_NODE * l.here.steps + l.depth;
  behind : 0 < l.arm-index → l.here.number ≤ DEEPEST_NODE * l.here.steps;
  few : l.here.steps ≤ MOST_STEPS;
  rest : walked_arms (plain_chart l.chart) (arms (drop l.arm-index l.each)) l.depth l.here
      ≡ walked_arms (plain_chart l.chart) (arms l.each) l.depth l.fn.first;
}
