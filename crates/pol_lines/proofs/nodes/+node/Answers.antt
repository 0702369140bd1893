use Rattle.std.proofs.Common.{◌≡◌, ◌+◌, ◌*◌, ◌-◌, ◌<◌, ◌≤◌, suc, ◌∷◌, length, map, take, drop, sym, ◌∙◌, subst, arith}
use Rattle.std.proofs.lemmas.Grind.{common_steps}
use Rattle.std.proofs.lemmas.List.{map_push}
use Rattle.chart_core.specs.Formulas.{plain_condition}
use Rattle.chart_core.specs.Trees.{plain_arm, plain_node}
use Rattle.chart_json.specs.Form.{arm_of, tree_of}
use Rattle.pol_lines.specs.Begins.{Reads}
use Rattle.pol_lines.proofs.Listing.{list_closes, list_more, list_opens}
use Rattle.pol_lines.proofs.Noding.{loop_node, par_node, sel_node, seq_node, then_first, when_first}
use Rattle.pol_lines.proofs.Printed.{reads_as}
use Rattle.pol_lines.proofs.nodes.+node.Goals as goal

pub read_inner-loop-init : goal.read_inner-loop-init
read_inner-loop-init t c = rw c.requires (list_opens tree_of
    (3 * c.args.levels + 16) c.args.text.now c.in_ok-rest.rest.now c.in_ok-rest.ensures)

pub read_inner-loop-preserved : goal.read_inner-loop-preserved
read_inner-loop-preserved t c =
    let deep = 3 * c.args.levels + 16 in
    let after = c.last.result.now in
    let comma : after ≡ 44 ∷ take (length after - 1) (drop 1 after) = grind (arith, common_steps) in
    let reads = subst (λ s. Reads tree_of deep c.loop.rest.now (plain_node c.in_ok-node.node) s)
    (sym c.last.ensures ∙ comma) c.in_ok-node.ensures in
    rw (c.in-Ok.ensures.items, map_push plain_node c.loop.nodes.items c.in_ok-node.node)
    (list_more tree_of deep c.args.text.now c.loop.rest.now _ _ _ c.loop.invariant reads)

pub read_inner-returns-in-93 : goal.read_inner-returns-in-93
read_inner-returns-in-93 t c =
    let deep = 3 * c.args.levels + 16 in
    let after = c.last.result.now in
    let more = take (length after - 1) (drop 1 after) in
    let closing : after ≡ 93 ∷ more = grind (arith, common_steps) in
    let reads = subst (λ s. Reads tree_of deep c.loop.rest.now (plain_node c.in_ok-node.node) s)
    (sym c.last.ensures ∙ closing) c.in_ok-node.ensures in
    let levels : suc deep ≡ 3 * c.args.levels + 17 = omega arith in
    rw (c.in-Ok.ensures.items, map_push plain_node c.loop.nodes.items c.in_ok-node.node, ← levels)
    (list_closes tree_of deep c.args.text.now c.loop.rest.now more _ _ c.loop.invariant reads)

pub read_arms-loop-rest-init : goal.read_arms-loop-rest-init
read_arms-loop-rest-init t c = rw c.requires (list_opens (arm_of tree_of)
    (3 * c.args.levels + 17) c.args.text.now c.in_ok-rest.rest.now c.in_ok-rest.ensures)

pub read_arms-loop-rest-preserved : goal.read_arms-loop-rest-preserved
read_arms-loop-rest-preserved t c =
    let deep = 3 * c.args.levels + 17 in
    let after = c.last.result.now in
    let comma : after ≡ 44 ∷ take (length after - 1) (drop 1 after) = grind (arith, common_steps) in
    let reads = subst (λ s. Reads (arm_of tree_of) deep c.loop-rest.rest.now (plain_arm c.in_ok-arm.arm) s)
    (sym c.last.ensures ∙ comma) c.in_ok-arm.ensures in
    rw (c.in-Ok.ensures.items, map_push plain_arm c.loop-rest.each.items c.in_ok-arm.arm)
    (list_more (arm_of tree_of) deep c.args.text.now c.loop-rest.rest.now _ _ _ c.loop-rest.invariant reads)

pub read_arms-returns-in-93-clause-list : goal.read_arms-returns-in-93-clause-list
read_arms-returns-in-93-clause-list t c =
    let deep = 3 * c.args.levels + 17 in
    let after = c.last.result.now in
    let more = take (length after - 1) (drop 1 after) in
    let closing : after ≡ 93 ∷ more = grind (arith, common_steps) in
    let reads = subst (λ s. Reads (arm_of tree_of) deep c.loop-rest.rest.now (plain_arm c.in_ok-arm.arm) s)
    (sym c.last.ensures ∙ closing) c.in_ok-arm.ensures in
    let levels : suc deep ≡ 3 * c.args.levels + 18 = omega arith in
    rw (c.in-Ok.ensures.items, map_push plain_arm c.loop-rest.each.items c.in_ok-arm.arm, ← levels)
    (list_closes (arm_of tree_of) deep c.args.text.now c.loop-rest.rest.now more _ _ c.loop-rest.invariant reads)

pub read_seq-returns : goal.read_seq-returns
read_seq-returns t c =
    let deep = 3 * c.args.levels + 17 in
    let text = c.args.text.now in
    let nodes = map plain_node c.read_inner.new.nodes.items in
    let some : 0 < length nodes = grind (arith, common_steps, c.if-is_empty.ensures) in
    reads_as tree_of (suc deep) (3 * c.args.levels + 19) text _ _ _ c.in_sequence.ensures (omega arith)
    (seq_node deep text c.in_ok-inner.inner.now c.in_ok-rest.rest.now c.in_ok-rest-2.rest.now nodes
    c.in_ok-inner.ensures c.in_ok-rest.ensures c.in_ok-rest-2.ensures some)

pub read_par-returns : goal.read_par-returns
read_par-returns t c =
    let deep = 3 * c.args.levels + 17 in
    let text = c.args.text.now in
    let nodes = map plain_node c.read_inner.new.nodes.items in
    let some : 2 ≤ length nodes = grind (arith, common_steps, c.if-len-lt2.false) in
    reads_as tree_of (suc deep) (3 * c.args.levels + 19) text _ _ _ c.in_parallel.ensures (omega arith)
    (par_node deep text c.in_ok-inner.inner.now c.in_ok-rest.rest.now c.in_ok-rest-2.rest.now nodes
    c.in_ok-inner.ensures c.in_ok-rest.ensures c.in_ok-rest-2.ensures some)

pub read_when_first-returns : goal.read_when_first-returns
read_when_first-returns t c =
    let deep = 3 * c.args.levels + 16 in
    reads_as (arm_of tree_of) (suc deep) (3 * c.args.levels + 17) c.args.text.now _ _ _ c.of_arm.ensures (omega arith)
    (when_first deep c.args.text.now c.in_ok-inner.inner.now _ c.in_ok-then.then.now _ c.in_ok-rest.rest.now
    (plain_condition c.in_ok-when.when) (plain_node c.in_ok-body.body) c.in_ok-inner.ensures c.in_ok-when.ensures
    (sym c.last.ensures ∙ c.in_ok-then.ensures) c.in_ok-body.ensures
    (sym c.last-2.ensures ∙ c.in_ok-rest.ensures) (omega arith))

pub read_then_first-returns : goal.read_then_first-returns
read_then_first-returns t c =
    let deep = 3 * c.args.levels + 16 in
    reads_as (arm_of tree_of) (suc deep) (3 * c.args.levels + 17) c.args.text.now _ _ _ c.of_arm.ensures (omega arith)
    (then_first deep _ c.args.text.now c.in_ok-inner.inner.now _ (plain_condition c.in_ok-when.when)
    (plain_node c.in_ok-body.body) c.in_ok-inner.ensures c.in_ok-body.ensures
    (rw (← c.last.ensures) c.in_ok-when.ensures) (omega arith))

pub read_sel-returns : goal.read_sel-returns
read_sel-returns t c =
    let deep = 3 * c.args.levels + 18 in
    let arms = map plain_arm c.read_arms.new.each.items in
    let some : 1 ≤ length arms = grind (arith, common_steps, c.in_ok-rest.ensures.some) in
    let few : length arms ≤ 16 = grind (arith, common_steps, c.in_ok-rest.ensures.few) in
    reads_as tree_of (suc deep) (3 * c.args.levels + 19) c.args.text.now _ _ _ c.by_choice.ensures (omega arith)
    (sel_node deep c.args.text.now c.in_ok-inner.inner.now c.in_ok-rest.rest.now c.in_ok-rest-2.rest.now arms
    c.in_ok-inner.ensures c.in_ok-rest.ensures.list c.in_ok-rest-2.ensures some few)

pub read_loop-returns : goal.read_loop-returns
read_loop-returns t c =
    let deep = 3 * c.args.levels + 16 in
    reads_as tree_of (suc deep) (3 * c.args.levels + 19) c.args.text.now _ _ _ c.in_ok-node.ensures (omega arith)
    (loop_node deep _ c.args.text.now c.in_ok-inner.inner.now _ (plain_node c.in_ok-body.body)
    (plain_condition c.in_ok-until.until) c.in_ok-inner.ensures c.in_ok-body.ensures
    (rw (← c.last.ensures) c.in_ok-until.ensures) (omega arith))
