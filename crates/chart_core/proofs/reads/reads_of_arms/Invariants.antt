use Rattle.std.proofs.Common.{◌≡◌, ◌≤◌, drop, length}
use Rattle.chart_core.specs.declared.limits.TheConstants.{MOST_READS}
use Rattle.chart_core.specs.Trees.{arms, arm_conditions}
use Rattle.chart_core.specs.Reads.{with_all_reads, reads_of}
use Rattle.chart_core.proofs.reads.reads_of_arms.Given as goal

abbrev pub invariant-loop-arm : goal.invariant-loop-arm
invariant-loop-arm l = record {
  few : length l.reads.items ≤ MOST_READS;
  rest : with_all_reads (arm_conditions (arms (drop l.arm-index l.each))) l.reads.items
      ≡ reads_of (arm_conditions (arms l.each));
}
