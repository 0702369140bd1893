-- A chart as plain data.
use Rattle.std.specs.Prelude.{map}
use Rattle.chart_core.specs.Roles.{PlainChart, plain_role}
use Rattle.chart_core.specs.Trees.{plain_node}
use Rattle.chart_core.specs.declared.chart.Chart.{Chart}

-- the chart as plain data
abbrev pub plain_chart : Chart → PlainChart
plain_chart chart = record { roles = map plain_role chart.roles.items; root = plain_node chart.root }
