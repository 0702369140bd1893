use Rattle.std.proofs.Common.{◌≡◌, drop, take, map}
use Rattle.serde_json.specs.View.{view}
use Rattle.chart_core.specs.Formulas.{plain_condition}
use Rattle.chart_core.specs.Trees.{arms, plain_node, trees}
use Rattle.chart_json.specs.Sound.{are_arms_sound, are_trees_sound}
use Rattle.chart_json.specs.Written.{written_arm, written_formula, written_tree}
use Rattle.chart_json.proofs.written_nodes.+written.Given as goal

abbrev pub invariant-write_each-loop-node : goal.invariant-write_each-loop-node
invariant-write_each-loop-node l = record {
  value : map view l.list.items ≡ map (λ node. written_tree (plain_node node)) (take l.node-index l.nodes);
  sound : are_trees_sound (trees (drop l.node-index l.nodes)) ≡ are_trees_sound (trees l.nodes);
}

abbrev pub invariant-write_arms-loop-arm : goal.invariant-write_arms-loop-arm
invariant-write_arms-loop-arm l = record {
  value : map view l.list.items ≡ map (λ arm. written_arm (written_formula (plain_condition arm.when))
      (written_tree (plain_node arm.body))) (take l.arm-index l.each);
  sound : are_arms_sound (arms (drop l.arm-index l.each)) ≡ are_arms_sound (arms l.each);
}
