use Rattle.std.proofs.Common.{◌∙◌, ap, sym, suc, drop}
use Rattle.std.specs.Prelude.{filter}
use Rattle.chart_core.specs.Order.{plans_seen}
use Rattle.chart_cursor.specs.NextEntry.{stop_next}
use Rattle.pol_events.specs.Bound.{given, plain_allocation}
use Rattle.pol_events.specs.Events.{plain_history}
use Rattle.pol_history.specs.Looking.{past}
use Rattle.pol_history.specs.Following.{sights_by}
use Rattle.pol_audit.specs.Starts.{is_active_step}
use Rattle.pol_audit.proofs.Steps.{kept_first}
use Rattle.pol_audit.proofs.following.stop_next.Goals as goal

pub returns-then-is_active_step : goal.returns-then-is_active_step
returns-then-is_active_step c =
    let seen = sights_by (given (plain_allocation c.args.seen.now.binds))
    (λ tag. past tag (plain_history c.args.seen.now.history.now)) in
    let test = is_active_step c.args.log.now.whole.now in
    c.stop_seen.ensures c.args.broken (filter test (plans_seen (drop (suc c.loop-step.step-index) c.args.steps.now)))
    ∙ ap (stop_next seen c.args.broken)
    (kept_first test c.args.steps.now c.loop-step.step-index c.step-item.result c.loop-step-test.true c.step-item.is
    (sym c.is_active_step.ensures ∙ c.if-is_active_step.true))
    ∙ c.loop-step.invariant
