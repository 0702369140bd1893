use Rattle.std.proofs.Common.{◌+◌, ◌*◌, ◌≤◌, drop, ap, sym, ◌∙◌, arith}
use Rattle.chart_core.specs.declared.limits.TheConstants.{DEEPEST_NODE}
use Rattle.chart_core.specs.Formulas.{plain_condition}
use Rattle.chart_core.specs.Trees.{plain_node, arms}
use Rattle.chart_core.specs.Charts.{plain_chart}
use Rattle.chart_core.specs.Walks.{and_on, walked_arms}
use Rattle.chart_core.proofs.Items.{arms_cut}
use Rattle.chart_core.proofs.Formed.{arms_formed}
use Rattle.chart_core.proofs.valid.+walk.Goals as goal

pub walk_arms-loop-arm-preserved : goal.walk_arms-loop-arm-preserved
walk_arms-loop-arm-preserved t c =
    let chart = plain_chart c.args.chart.now in
    let depth = c.args.depth in
    let rest = arms (drop (c.loop-arm.arm-index + 1) c.args.each.now) in
    let cut = arms_cut c.args.each.now c.loop-arm.arm-index c.arm-item.result c.loop-arm-test.true c.arm-item.is in
    let passed = sym c.walk.ensures.value ∙ c.in_ok-here.was in
    let near : c.in_ok-here.here.number ≤ DEEPEST_NODE * c.in_ok-here.here.steps = c.in_ok-here.ensures.near in
    record {
      formed = arms_formed (plain_condition c.arm-item.result.when) (plain_node c.arm-item.result.body) rest
          (rw cut at c.loop-arm.invariant.formed);
      near = omega (arith, near, c.requires.below);
      behind = λ _. near;
      few = c.in_ok-here.ensures.few;
      rest =
          sym (ap (λ walk. and_on walk (walked_arms chart rest depth)) passed)
          ∙ ap (λ each. walked_arms chart each depth c.loop-arm.here) (sym cut)
          ∙ c.loop-arm.invariant.rest;
    }
