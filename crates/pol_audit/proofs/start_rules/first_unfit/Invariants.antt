use Rattle.std.proofs.Common.{◌≡◌, drop}
use Rattle.chart_core.specs.Charts.{plain_chart}
use Rattle.pol_events.specs.Bound.{given, plain_allocation}
use Rattle.pol_events.specs.Events.{plain_history}
use Rattle.pol_history.specs.Rules.{modules_unfit}
use Rattle.pol_bind.specs.Roles.{names_in}
use Rattle.pol_audit.proofs.start_rules.first_unfit.Given as goal

abbrev pub invariant-loop-role : goal.invariant-loop-role
invariant-loop-role l =
    modules_unfit (plain_history l.history) (plain_chart l.chart) (given (plain_allocation l.binds))
    (names_in (drop l.role-index l.roles))
    ≡ modules_unfit (plain_history l.history) (plain_chart l.chart) (given (plain_allocation l.binds))
    (names_in l.roles)
