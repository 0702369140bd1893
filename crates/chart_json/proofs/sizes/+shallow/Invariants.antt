use Rattle.std.proofs.Common.{◌≡◌, drop}
use Rattle.std.specs.Prelude.{nat_le}
use Rattle.chart_core.specs.Formulas.{formulas}
use Rattle.chart_core.specs.Form.{nestings}
use Rattle.chart_json.proofs.sizes.+shallow.Given as goal

abbrev pub invariant-are_shallow-loop-each : goal.invariant-are_shallow-loop-each
invariant-are_shallow-loop-each l = nat_le (nestings (formulas (drop l.each-index l.conditions))) l.depth
    ≡ nat_le (nestings (formulas l.conditions)) l.depth
