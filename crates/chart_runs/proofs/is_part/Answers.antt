use Rattle.chart_core.specs.Charts.{plain_chart}
use Rattle.chart_core.proofs.Logs.{stands_is_partial}
use Rattle.chart_runs.proofs.is_part.Goals as goal

pub returns : goal.returns
returns c = (
  λ yes. stands_is_partial (plain_chart c.args.chart.now) c.take_all.new.marks c.args.log.now c.requires
      (c.take_all.ensures.taken yes),
  c.take_all.ensures.partial,
)
