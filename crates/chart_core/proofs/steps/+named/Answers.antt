use Rattle.std.proofs.Common.{◌≡◌, ◌-◌, arith, refl}
use Rattle.chart_core.specs.Trees.{plain_node, size}
use Rattle.chart_core.proofs.Seeking.{none_named}
use Rattle.chart_core.proofs.steps.+named.Goals as goal

pub left_unnamed-returns-then-count-eq0 : goal.left_unnamed-returns-then-count-eq0
left_unnamed-returns-then-count-eq0 t c =
    let tree = plain_node c.args.node.now in
    let none_left : 0 - size tree ≡ 0 = omega arith in
    rw (c.if-count-eq0.true, none_named tree c.args.name, none_left) refl
