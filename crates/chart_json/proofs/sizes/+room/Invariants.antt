use Rattle.std.proofs.Common.{◌≡◌, ◌-◌, drop}
use Rattle.chart_core.specs.Formulas.{formulas}
use Rattle.chart_core.specs.Form.{test_counts}
use Rattle.chart_json.proofs.sizes.+room.Given as goal

abbrev pub invariant-room_beside_all-loop-each : goal.invariant-room_beside_all-loop-each
invariant-room_beside_all-loop-each l = l.left - test_counts (formulas (drop l.each-index l.conditions))
    ≡ l.room - test_counts (formulas l.conditions)
