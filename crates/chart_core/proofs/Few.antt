-- A valid chart has few nodes.
use Rattle.std.specs.Prelude.{◌≡◌, ◌≤◌, ◌<◌, ◌^◌, List, length}
use Rattle.std.proofs.Common.{arith}
use Rattle.chart_core.specs.declared.limits.TheConstants.{MOST_NODES}
use Rattle.chart_core.specs.Trees.{plain_node, size}
use Rattle.chart_core.specs.Charts.{plain_chart}
use Rattle.chart_core.specs.Valid.{IsValid}
use Rattle.chart_core.specs.declared.chart.Chart.{Chart}
use Rattle.chart_core.specs.declared.progress.Progress.{Progress}
use Rattle.chart_core.proofs.Validity.{valid_small}

-- at most 4,096 nodes
pub few_nodes : (chart : Chart) → IsValid (plain_chart chart) → size (plain_node chart.root) ≤ MOST_NODES
few_nodes chart valid = valid_small (plain_chart chart) chart.form valid

-- and so few marks
pub few_marks : (chart : Chart) (marks : List Progress) → IsValid (plain_chart chart)
    → length marks ≡ size (plain_node chart.root)
    → length marks < 2 ^ 32
few_marks chart marks valid room = let small = few_nodes chart valid in omega arith
