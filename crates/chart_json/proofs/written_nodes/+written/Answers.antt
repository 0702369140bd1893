use Rattle.std.proofs.lemmas.List.{take_all}
use Rattle.chart_json.proofs.Listed.{nodes_written, arms_written}
use Rattle.chart_json.proofs.written_nodes.+written.Goals as goal

pub write_each-returns-clause-value : goal.write_each-returns-clause-value
write_each-returns-clause-value t c =
    nodes_written c.loop-node.list c.args.nodes.now
    (rw (take_all c.loop-node.node-index c.args.nodes.now c.loop-node-test.false) at c.loop-node.invariant.value)

pub write_arms-returns-clause-value : goal.write_arms-returns-clause-value
write_arms-returns-clause-value t c =
    arms_written c.loop-arm.list c.args.each.now
    (rw (take_all c.loop-arm.arm-index c.args.each.now c.loop-arm-test.false) at c.loop-arm.invariant.value)
