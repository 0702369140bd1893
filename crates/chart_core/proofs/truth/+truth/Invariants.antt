use Rattle.std.proofs.Common.{◌≡◌, drop}
use Rattle.chart_core.specs.Formulas.{formulas, all_hold, some_holds}
use Rattle.chart_core.specs.Reads.{stored}
use Rattle.chart_core.proofs.truth.+truth.Given as goal

abbrev pub invariant-are_all_true-loop-each : goal.invariant-are_all_true-loop-each
invariant-are_all_true-loop-each l =
    all_hold (formulas (drop l.each-index l.all)) (stored l.reads l.values)
    ≡ all_hold (formulas l.all) (stored l.reads l.values)

abbrev pub invariant-is_some_true-loop-each : goal.invariant-is_some_true-loop-each
invariant-is_some_true-loop-each l =
    some_holds (formulas (drop l.each-index l.any)) (stored l.reads l.values)
    ≡ some_holds (formulas l.any) (stored l.reads l.values)
