use Rattle.std.proofs.Common.{◌∙◌, ap, is_some}
use Rattle.chart_core.proofs.Passing.{found_plain}
use Rattle.chart_core.proofs.finding.has_passing.Goals as goal

pub returns : goal.returns
returns g c = c.is_some.ensures ∙ found_plain c.find_step.result ∙ ap is_some c.find_step.ensures
