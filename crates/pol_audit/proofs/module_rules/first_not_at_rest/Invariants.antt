use Rattle.std.proofs.Common.{◌≡◌, drop, map}
use Rattle.mtp_desc.specs.PlainService.{plain_service}
use Rattle.pol_events.specs.Events.{plain_history}
use Rattle.pol_events.specs.Refusals.{not_at_rest}
use Rattle.pol_history.specs.Looking.{past}
use Rattle.pol_history.specs.Modules.{control_by}
use Rattle.pol_audit.proofs.module_rules.first_not_at_rest.Given as goal

abbrev pub invariant-loop-service : goal.invariant-loop-service
invariant-loop-service l =
    not_at_rest (λ service. control_by service (past l.tag (plain_history l.history)))
    (map plain_service (drop l.service-index l.services))
    ≡ not_at_rest (λ service. control_by service (past l.tag (plain_history l.history))) (map plain_service l.services)
