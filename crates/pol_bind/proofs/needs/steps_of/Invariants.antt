use Rattle.std.proofs.Common.{◌≡◌, ◌++◌, drop, filter}
use Rattle.mtp_codes.specs.Names.{same_name}
use Rattle.chart_core.specs.Order.{plans_seen}
use Rattle.pol_bind.proofs.needs.steps_of.Given as goal

-- the steps found and those of the role that are left
abbrev pub invariant-loop-step : goal.invariant-loop-step
invariant-loop-step l =
    plans_seen l.found.items ++ filter (λ step. same_name step.role l.role) (plans_seen (drop l.step-index l.all))
    ≡ filter (λ step. same_name step.role l.role) (plans_seen l.all)
