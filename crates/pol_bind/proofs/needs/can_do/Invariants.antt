use Rattle.std.proofs.Common.{◌≡◌, drop}
use Rattle.mtp_desc.specs.PlainDescription.{plain_description}
use Rattle.chart_core.specs.Order.{plans_seen}
use Rattle.pol_bind.specs.Needs.{are_done}
use Rattle.pol_bind.proofs.needs.can_do.Given as goal

-- what is left decides
abbrev pub invariant-loop-step : goal.invariant-loop-step
invariant-loop-step l = are_done (plain_description l.description) (plans_seen (drop l.step-index l.steps))
    ≡ are_done (plain_description l.description) (plans_seen l.steps)
