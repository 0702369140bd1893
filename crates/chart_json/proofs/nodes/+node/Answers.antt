use Rattle.std.proofs.Common.{arith, codes, map, refl, rules}
use Rattle.serde_json.specs.View.{items_view, view}
use Rattle.std.proofs.lemmas.Result.{err_from_is_err_and}
use Rattle.mtp_json.proofs.Each.{reads_next, stops_at, is_done}
use Rattle.chart_core.specs.declared.limits.TheConstants.{MOST_ARMS}
use Rattle.chart_core.specs.Trees.{plain_arm, plain_node}
use Rattle.chart_json.specs.Form.{arm_of, tree_of}
use Rattle.chart_json.proofs.Within.{item_below, list_below, list_from_below, needed_below, tree_steps}
use Rattle.chart_json.proofs.nodes.+node.Goals as goal

pub read_each-loop-i-preserved : goal.read_each-loop-i-preserved
read_each-loop-i-preserved t c =
    reads_next plain_node tree_of c.loop-i.found.items c.push.new.self.items c.args.values.now c.loop-i.i
    c.index-values-i.result c.read_inner.result c.in_ok-node.node _
    c.loop-i-test.true c.index-values-i.is c.read_inner.ensures c.in_ok-node.ensures c.in_ok-push.ensures.items
    c.loop-i.invariant

pub read_each-returns-in_err-node : goal.read_each-returns-in_err-node
read_each-returns-in_err-node t c =
    let p = err_from_is_err_and c.from_residual.result c.from_residual.ensures.1 in
    rw (p.1, p.2) (stops_at plain_node tree_of
    (map plain_node c.loop-i.found.items) c.args.values.now c.loop-i.i c.index-values-i.result c.read_inner.result
    c.in_err-node.field-0.0 _
    c.loop-i-test.true c.index-values-i.is c.read_inner.ensures c.in_err-node.ensures c.loop-i.invariant)

pub read_each-returns : goal.read_each-returns
read_each-returns t c =
    rw c.shrink_to_fit.ensures.items (is_done tree_of
    (map plain_node c.loop-i.found.items) c.args.values.now c.loop-i.i _ c.loop-i-test.false c.loop-i.invariant)

pub read_each_arm-loop-i-preserved : goal.read_each_arm-loop-i-preserved
read_each_arm-loop-i-preserved t c =
    reads_next plain_arm (arm_of tree_of) c.loop-i.found.items c.push.new.self.items c.args.values.now c.loop-i.i
    c.index-values-i.result c.read_arm.result c.in_ok-arm.arm _
    c.loop-i-test.true c.index-values-i.is c.read_arm.ensures c.in_ok-arm.ensures c.in_ok-push.ensures.items
    c.loop-i.invariant

pub read_each_arm-returns-in_err-arm : goal.read_each_arm-returns-in_err-arm
read_each_arm-returns-in_err-arm t c =
    let p = err_from_is_err_and c.from_residual.result c.from_residual.ensures.1 in
    rw (p.1, p.2) (stops_at plain_arm (arm_of tree_of)
    (map plain_arm c.loop-i.found.items) c.args.values.now c.loop-i.i c.index-values-i.result c.read_arm.result
    c.in_err-arm.field-0.0 _
    c.loop-i-test.true c.index-values-i.is c.read_arm.ensures c.in_err-arm.ensures c.loop-i.invariant)

pub read_each_arm-returns : goal.read_each_arm-returns
read_each_arm-returns t c =
    rw c.shrink_to_fit.ensures.items (is_done (arm_of tree_of)
    (map plain_arm c.loop-i.found.items) c.args.values.now c.loop-i.i _ c.loop-i-test.false c.loop-i.invariant)

pub read_seq-read_each_under-requires : goal.read_seq-read_each_under-requires
read_seq-read_each_under-requires t c =
    let below = list_from_below 1 (codes "seq") (view c.args.value.now)
    (items_view c.in_ok-values.values.now) c.in_ok-values.ensures in
    (omega (arith, below, c.decreases), refl)

pub read_par-read_each_under-requires : goal.read_par-read_each_under-requires
read_par-read_each_under-requires t c =
    let below = list_from_below 2 (codes "par") (view c.args.value.now)
    (items_view c.in_ok-values.values.now) c.in_ok-values.ensures in
    (omega (arith, below, c.decreases), refl)

pub read_sel-read_arms_under-requires : goal.read_sel-read_arms_under-requires
read_sel-read_arms_under-requires t c =
    let below = list_below 1 MOST_ARMS (codes "sel") (view c.args.value.now)
    (items_view c.in_ok-values.values.now) c.in_ok-values.ensures.gives in
    (omega (arith, below, c.decreases), refl)

pub read_loop-read_under-requires : goal.read_loop-read_under-requires
read_loop-read_under-requires t c =
    let below = needed_below (codes "loop") (view c.args.value.now)
    (view c.in_ok-inner.inner.now) c.in_ok-inner.ensures in
    (omega (arith, below, c.decreases), refl)

pub read_arm-read_under-requires : goal.read_arm-read_under-requires
read_arm-read_under-requires t c =
    let below = needed_below (codes "then") (view c.args.value.now)
    (view c.in_ok-inner.inner.now) c.in_ok-inner.ensures in
    (omega (arith, below, c.decreases), refl)

pub read_each-read_inner-requires : goal.read_each-read_inner-requires
read_each-read_inner-requires t c =
    let below = item_below c.args.values.now c.loop-i.i c.index-values-i.result c.loop-i-test.true
    c.index-values-i.is in
    (omega (arith, below, c.decreases), tt)

pub read_each_arm-read_arm-requires : goal.read_each_arm-read_arm-requires
read_each_arm-read_arm-requires t c =
    let below = item_below c.args.values.now c.loop-i.i c.index-values-i.result c.loop-i-test.true
    c.index-values-i.is in
    (omega (arith, below, c.decreases), tt)

pub read_inner-returns-in_err-object_here : goal.read_inner-returns-in_err-object_here
read_inner-returns-in_err-object_here t c = rw (tree_steps (view c.args.value.now)) (search rules)

pub read_inner-returns : goal.read_inner-returns
read_inner-returns t c = rw (tree_steps (view c.args.value.now)) (search rules)
