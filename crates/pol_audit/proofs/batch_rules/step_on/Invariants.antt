use Rattle.std.proofs.Common.{◌≡◌, drop}
use Rattle.std.specs.Option.{option_map}
use Rattle.pol_events.specs.Bound.{given, plain_allocation, step_on}
use Rattle.pol_audit.specs.Starts.{active_seen}
use Rattle.pol_audit.proofs.batch_rules.step_on.Given as goal

abbrev pub invariant-loop-step : goal.invariant-loop-step
invariant-loop-step l =
    option_map (λ step. step.name)
    (step_on (given (plain_allocation l.binds)) l.tag
    (active_seen l.log.whole.now (drop l.step-index l.steps)))
    ≡ option_map (λ step. step.name)
    (step_on (given (plain_allocation l.binds)) l.tag (active_seen l.log.whole.now l.steps))
