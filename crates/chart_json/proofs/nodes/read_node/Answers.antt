use Rattle.std.proofs.Common.{◌≡◌, true}
use Rattle.serde_json.specs.View.{view}
use Rattle.chart_core.specs.Form.{is_tree_formed}
use Rattle.chart_core.specs.Trees.{plain_node}
use Rattle.chart_json.specs.Form.{tree_of}
use Rattle.chart_json.proofs.Formed.{tree_formed}
use Rattle.chart_json.proofs.Told.{told_of}
use Rattle.chart_json.proofs.nodes.read_node.Goals as goal

pub returns-clause-formed : goal.returns-clause-formed
unfolding tree_of
returns-clause-formed c =
    told_of plain_node (λ node. is_tree_formed node ≡ true) c.read_inner.result
    (tree_of (view c.args.value.now)) c.read_inner.ensures (tree_formed (view c.args.value.now))
