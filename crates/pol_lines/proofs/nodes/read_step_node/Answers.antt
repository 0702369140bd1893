use Rattle.std.proofs.Common.{arith}
use Rattle.chart_core.specs.Trees.{plain_step}
use Rattle.chart_json.specs.Form.{tree_of}
use Rattle.pol_lines.proofs.Noding.{step_node}
use Rattle.pol_lines.proofs.Printed.{reads_as}
use Rattle.pol_lines.proofs.nodes.read_step_node.Goals as goal

pub returns : goal.returns
returns c =
    reads_as tree_of 16 16 c.args.text.now _ _ _ c.of_step.ensures (omega arith)
    (step_node 16 c.args.text.now _ (plain_step c.in_ok-step.step) c.in_ok-step.ensures)
