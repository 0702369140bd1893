use Rattle.std.proofs.Common.{arith}
use Rattle.chart_core.proofs.Few.{few_nodes}
use Rattle.chart_core.proofs.marks.chart_size.Goals as goal

pub node_count-requires : goal.node_count-requires
node_count-requires c = let small = few_nodes c.args.chart.now c.requires in omega arith

pub returns-clause-small : goal.returns-clause-small
returns-clause-small c = let small = few_nodes c.args.chart.now c.requires in omega (arith, small, c.node_count.ensures)
