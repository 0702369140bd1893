use Rattle.std.proofs.Common.{◌≡◌, drop}
use Rattle.std.specs.Option.{option_map}
use Rattle.chart_core.specs.Active.{phase_by, phase_after, is_running, last_of}
use Rattle.chart_core.specs.Order.{or_before}
use Rattle.chart_core.proofs.order.is_active.Given as goal

abbrev pub invariant-loop-entry : goal.invariant-loop-entry
invariant-loop-entry l =
    or_before (option_map is_running (last_of (phase_by l.name) (drop l.entry-index l.log))) l.active
    ≡ is_running (phase_after l.log l.name)
