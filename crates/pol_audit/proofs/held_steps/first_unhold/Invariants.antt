use Rattle.std.proofs.Common.{◌≡◌, drop}
use Rattle.chart_core.specs.Order.{plans_seen}
use Rattle.chart_cursor.specs.OpenNodes.{first_next}
use Rattle.pol_audit.specs.HeldSteps.{plain_sights}
use Rattle.pol_audit.proofs.HeldSteps.{first_owed}
use Rattle.pol_audit.proofs.held_steps.first_unhold.Given as goal

abbrev pub invariant-loop-step : goal.invariant-loop-step
invariant-loop-step l =
    first_next l.next (first_owed (plain_sights l.seen) l.log.whole.now (plans_seen (drop l.step-index l.steps)))
    ≡ first_owed (plain_sights l.seen) l.log.whole.now (plans_seen l.steps)
