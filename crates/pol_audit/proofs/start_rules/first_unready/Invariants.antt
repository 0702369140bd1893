use Rattle.std.proofs.Common.{◌≡◌, drop}
use Rattle.chart_core.specs.Order.{plans_seen}
use Rattle.pol_events.specs.Events.{plain_history}
use Rattle.pol_history.specs.Looking.{past}
use Rattle.pol_history.specs.Rules.{not_ready}
use Rattle.pol_audit.specs.Holding.{services_in}
use Rattle.pol_audit.proofs.start_rules.first_unready.Given as goal

abbrev pub invariant-loop-step : goal.invariant-loop-step
invariant-loop-step l =
    not_ready l.tag (past l.tag (plain_history l.history)) (services_in l.role (plans_seen (drop l.step-index l.steps)))
    ≡ not_ready l.tag (past l.tag (plain_history l.history)) (services_in l.role (plans_seen l.steps))
