use Rattle.std.proofs.Common.{◌≡◌, length, take}
use Rattle.chart_core.specs.Trees.{plain_node, size}
use Rattle.chart_core.specs.Charts.{plain_chart}
use Rattle.chart_core.specs.Standing.{StandsFor}
use Rattle.chart_runs.proofs.take_all.Given as goal

abbrev pub invariant-loop-entry : goal.invariant-loop-entry
invariant-loop-entry l = record {
  room : length l.marks ≡ size (plain_node l.chart.root);
  taken : StandsFor (plain_chart l.chart) l.marks (take l.entry-index l.log);
}
