use Rattle.std.proofs.Common.{◌≡◌, drop, take, map}
use Rattle.serde_json.specs.View.{view}
use Rattle.chart_core.specs.Formulas.{plain_condition, formulas}
use Rattle.chart_json.specs.Sound.{are_formulas_sound}
use Rattle.chart_json.specs.Written.{written_formula}
use Rattle.chart_json.proofs.written_conditions.+written.Given as goal

abbrev pub invariant-write_each-loop-each : goal.invariant-write_each-loop-each
invariant-write_each-loop-each l = record {
  value : map view l.list.items ≡ map (λ condition. written_formula (plain_condition condition))
      (take l.each-index l.conditions);
  sound : are_formulas_sound (formulas (drop l.each-index l.conditions)) ≡ are_formulas_sound (formulas l.conditions);
}
