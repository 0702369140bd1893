-- Every batch log follows its chart.
use Rattle.std.specs.Prelude.{ℕ, ◌≡◌, List, Some}
use Rattle.chart_core.specs.Roles.{PlainChart}
use Rattle.chart_core.specs.Runs.{IsPartial, IsComplete}
use Rattle.chart_core.specs.declared.next.Outcome.TheVariants.{Completed}
use Rattle.chart_cursor.specs.Logs.{chart_entries}
use Rattle.pol_history.specs.Looking.{History}
use Rattle.pol_history.specs.Batches.{chart_of, log_of, outcome_of}
use Rattle.pol_history.specs.Runs.{IsLegal, IsOrderly}

-- the chart's entries in the batch's log are a partial run of the chart, and a complete one where the batch was
-- completed
pub record FollowsChart (history : History) (batch : List ℕ) (chart : PlainChart) : Type 0 where
  pub partial : IsPartial chart (chart_entries (log_of history batch))
  pub complete : outcome_of history batch ≡ Some Completed → IsComplete chart (chart_entries (log_of history batch))

-- In every legal history of orderly events the log of each batch follows the chart of its recipe.
abbrev pub LogsFollowCharts : Type 0
LogsFollowCharts =
    (history : History) (batch : List ℕ) (chart : PlainChart) → IsLegal history → IsOrderly history →
    chart_of history batch ≡ Some chart → FollowsChart history batch chart
