use Rattle.chart_core.specs.Charts.{plain_chart}
use Rattle.chart_core.proofs.Logs.{complete_is_partial}
use Rattle.chart_runs.proofs.ends.Goals as goal

pub returns-else-take_all : goal.returns-else-take_all
returns-else-take_all c = (
  λ no. cc,
  λ complete. c.if-take_all.ensures.partial
      (complete_is_partial (plain_chart c.args.chart.now) c.args.log.now complete),
)
