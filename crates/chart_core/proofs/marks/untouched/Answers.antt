use Rattle.chart_core.specs.Charts.{plain_chart}
use Rattle.chart_core.proofs.Logs.{start_stands}
use Rattle.chart_core.proofs.marks.untouched.Goals as goal

pub returns-clause-empty : goal.returns-clause-empty
returns-clause-empty c =
    start_stands (plain_chart c.args.chart.now) c.loop.marks.items c.requires c.loop.invariant.fresh
