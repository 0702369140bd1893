-- The steps that are left decide.
use Rattle.std.proofs.Common.{◌≡◌, drop}
use Rattle.chart_core.specs.Order.{plans_seen}
use Rattle.pol_events.specs.BindRules.{has_step}
use Rattle.pol_find.proofs.offers.has_step.Given as goal

abbrev pub invariant-loop-step : goal.invariant-loop-step
invariant-loop-step l =
    has_step (plans_seen (drop l.step-index l.steps)) l.role ≡ has_step (plans_seen l.steps) l.role
