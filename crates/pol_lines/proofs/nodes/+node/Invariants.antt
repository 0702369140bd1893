use Rattle.std.proofs.Common.{◌+◌, ◌*◌, ◌-◌, length, map}
use Rattle.chart_core.specs.Trees.{plain_arm, plain_node}
use Rattle.chart_core.specs.declared.limits.TheConstants.{MOST_ARMS}
use Rattle.chart_json.specs.Form.{arm_of, tree_of}
use Rattle.pol_lines.specs.Begins.{OpensList}
use Rattle.pol_lines.proofs.nodes.+node.Given as goal

abbrev pub decreases-read_inner : goal.decreases-read_inner
decreases-read_inner l = 5 * l.levels + 1

abbrev pub decreases-read_seq : goal.decreases-read_seq
decreases-read_seq l = 5 * l.levels + 2

abbrev pub decreases-read_par : goal.decreases-read_par
decreases-read_par l = 5 * l.levels + 2

abbrev pub decreases-read_when_first : goal.decreases-read_when_first
decreases-read_when_first l = 5 * l.levels + 1

abbrev pub decreases-read_then_first : goal.decreases-read_then_first
decreases-read_then_first l = 5 * l.levels + 1

abbrev pub decreases-read_arm : goal.decreases-read_arm
decreases-read_arm l = 5 * l.levels + 2

abbrev pub decreases-read_arms : goal.decreases-read_arms
decreases-read_arms l = 5 * l.levels + 3

abbrev pub decreases-read_sel : goal.decreases-read_sel
decreases-read_sel l = 5 * l.levels + 4

abbrev pub decreases-read_loop : goal.decreases-read_loop
decreases-read_loop l = 5 * l.levels + 1

abbrev pub decreases-read_node : goal.decreases-read_node
decreases-read_node l = 5 * l.levels

abbrev pub invariant-read_inner-loop : goal.invariant-read_inner-loop
invariant-read_inner-loop l = OpensList tree_of (3 * l.levels + 16) l.fn.text (map plain_node l.nodes.items) l.rest

abbrev pub invariant-read_arms-loop-rest : goal.invariant-read_arms-loop-rest
invariant-read_arms-loop-rest l = OpensList (arm_of tree_of) (3 * l.levels + 17) l.fn.text (map plain_arm l.each.items)
    l.rest

abbrev pub decreases-read_arms-loop-rest : goal.decreases-read_arms-loop-rest
decreases-read_arms-loop-rest l = MOST_ARMS - length l.each.items
