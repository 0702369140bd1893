use Rattle.std.proofs.Common.{◌≡◌, ◌+◌, ◌*◌, drop, map}
use Rattle.serde_json.specs.Data.{depth, items_depth}
use Rattle.serde_json.specs.View.{items_view, view}
use Rattle.mtp_json.specs.Form.{each}
use Rattle.mtp_json.proofs.Each.{with_front}
use Rattle.chart_core.specs.Trees.{plain_arm, plain_node}
use Rattle.chart_json.specs.Form.{arm_of, tree_of}
use Rattle.chart_json.proofs.nodes.+node.Given as goal

abbrev pub decreases-read_inner : goal.decreases-read_inner
decreases-read_inner l = 8 * depth (view l.value.now) + 7

abbrev pub decreases-read_by_key : goal.decreases-read_by_key
decreases-read_by_key l = 8 * depth (view l.value.now) + 6

abbrev pub decreases-read_seq : goal.decreases-read_seq
decreases-read_seq l = 8 * depth (view l.value.now) + 5

abbrev pub decreases-read_par : goal.decreases-read_par
decreases-read_par l = 8 * depth (view l.value.now) + 5

abbrev pub decreases-read_sel : goal.decreases-read_sel
decreases-read_sel l = 8 * depth (view l.value.now) + 5

abbrev pub decreases-read_loop : goal.decreases-read_loop
decreases-read_loop l = 8 * depth (view l.value.now) + 5

abbrev pub decreases-read_arm : goal.decreases-read_arm
decreases-read_arm l = 8 * depth (view l.value.now) + 5

abbrev pub decreases-read_under : goal.decreases-read_under
decreases-read_under l = 8 * depth (view l.value.now) + 8

abbrev pub decreases-read_each : goal.decreases-read_each
decreases-read_each l = 8 * items_depth (items_view l.values.now) + 8

abbrev pub decreases-read_each_under : goal.decreases-read_each_under
decreases-read_each_under l = 8 * items_depth (items_view l.values.now) + 9

abbrev pub decreases-read_each_arm : goal.decreases-read_each_arm
decreases-read_each_arm l = 8 * items_depth (items_view l.values.now) + 8

abbrev pub decreases-read_arms_under : goal.decreases-read_arms_under
decreases-read_arms_under l = 8 * items_depth (items_view l.values.now) + 9

abbrev pub invariant-read_each-loop-i : goal.invariant-read_each-loop-i
invariant-read_each-loop-i l =
    with_front (map plain_node l.found.items) (each tree_of l.i (items_view (drop l.i l.values)))
    ≡ each tree_of 0 (items_view l.values)

abbrev pub invariant-read_each_arm-loop-i : goal.invariant-read_each_arm-loop-i
invariant-read_each_arm-loop-i l =
    with_front (map plain_arm l.found.items) (each (arm_of tree_of) l.i (items_view (drop l.i l.values)))
    ≡ each (arm_of tree_of) 0 (items_view l.values)
