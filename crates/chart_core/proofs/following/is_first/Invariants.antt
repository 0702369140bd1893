use Rattle.std.proofs.Common.{◌≡◌, ◌-◌, ◌≤◌, drop}
use Rattle.chart_core.specs.Trees.{arms, arm_conditions}
use Rattle.chart_core.specs.Reads.{stored}
use Rattle.chart_core.specs.Runs.{is_first_true}
use Rattle.chart_core.proofs.following.is_first.Given as goal

abbrev pub invariant-loop-i : goal.invariant-loop-i
invariant-loop-i l = record {
  before : l.i ≤ l.place;
  rest : is_first_true (arm_conditions (arms (drop l.i l.each))) (l.place - l.i) (stored l.reads l.values)
      ≡ is_first_true (arm_conditions (arms l.each)) l.place (stored l.reads l.values);
}
