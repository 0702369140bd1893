use Rattle.std.proofs.Common.{◌≡◌, ◌≤◌, drop, length}
use Rattle.chart_core.specs.declared.limits.TheConstants.{MOST_READS}
use Rattle.chart_core.specs.Formulas.{formulas}
use Rattle.chart_core.specs.Reads.{with_all_reads}
use Rattle.chart_core.proofs.reads.+gather.Given as goal

abbrev pub invariant-gather_all-loop-each : goal.invariant-gather_all-loop-each
invariant-gather_all-loop-each l = record {
  few : length l.reads.items ≤ MOST_READS;
  rest : with_all_reads (formulas (drop l.each-index l.conditions)) l.reads.items
      ≡ with_all_reads (formulas l.conditions) l.fn.reads.items;
}
