use Rattle.std.proofs.Common.{◌≡◌, take}
use Rattle.chart_core.specs.Charts.{plain_chart}
use Rattle.chart_core.specs.Standing.{AreAfter}
use Rattle.pol_audit.proofs.cursors.cursor_along.Given as goal

abbrev pub invariant-loop-entry : goal.invariant-loop-entry
invariant-loop-entry l =
    (l.cursor.chart ≡ l.chart.value)
    × AreAfter (plain_chart l.cursor.chart) l.cursor.marks (take l.entry-index l.run)
