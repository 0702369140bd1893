use Rattle.std.proofs.Common.{◌≤◌, ◌+◌, ◌*◌, ◌-◌, length, map}
use Rattle.chart_core.specs.Form.{nestings, test_counts}
use Rattle.chart_core.specs.Formulas.{formulas, plain_condition}
use Rattle.chart_core.specs.declared.limits.TheConstants.{MOST_JOINED}
use Rattle.chart_json.specs.Form.{formula_of}
use Rattle.pol_lines.specs.Begins.{OpensList}
use Rattle.pol_lines.proofs.conditions.+condition.Given as goal

abbrev pub decreases-read_formula : goal.decreases-read_formula
decreases-read_formula l = 3 * l.levels

abbrev pub decreases-read_each : goal.decreases-read_each
decreases-read_each l = 3 * l.levels + 1

abbrev pub decreases-read_all : goal.decreases-read_all
decreases-read_all l = 3 * l.levels + 2

abbrev pub decreases-read_any : goal.decreases-read_any
decreases-read_any l = 3 * l.levels + 2

abbrev pub decreases-read_not : goal.decreases-read_not
decreases-read_not l = 3 * l.levels + 1

abbrev pub invariant-read_each-loop-rest : goal.invariant-read_each-loop-rest
invariant-read_each-loop-rest l = record {
  opens : OpensList formula_of (2 * l.levels + 1) l.fn.text (map plain_condition l.found.items) l.rest;
  nested : nestings (formulas l.found.items) ≤ l.levels + 1;
  tests : test_counts (formulas l.found.items) + l.room ≤ l.fn.room;
}

abbrev pub decreases-read_each-loop-rest : goal.decreases-read_each-loop-rest
decreases-read_each-loop-rest l = MOST_JOINED - length l.found.items
