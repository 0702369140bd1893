use Rattle.std.proofs.Common.{◌∙◌, ap}
use Rattle.std.specs.Prelude.{filter}
use Rattle.std.proofs.lemmas.Result.{IfOk-weaker}
use Rattle.chart_core.specs.Charts.{plain_chart}
use Rattle.pol_audit.specs.Starts.{is_active_step}
use Rattle.pol_audit.proofs.Steps.{active_is}
use Rattle.pol_audit.proofs.following.chart_steps.Goals as goal

pub returns : goal.returns
returns c =
    IfOk-weaker c.steps_in_order.result _ _ (λ steps is log. ap (filter (is_active_step log)) is
    ∙ active_is (plain_chart c.args.chart.now) log) c.steps_in_order.ensures
