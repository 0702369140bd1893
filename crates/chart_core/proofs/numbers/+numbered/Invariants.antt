use Rattle.std.proofs.Common.{◌≡◌, ◌+◌, drop}
use Rattle.chart_core.specs.Numbers.{number_among, number_in_arms}
use Rattle.chart_core.specs.Trees.{trees, arms, sizes, arm_sizes}
use Rattle.chart_core.proofs.numbers.+numbered.Given as goal

abbrev pub invariant-number_among-loop-kid : goal.invariant-number_among-loop-kid
invariant-number_among-loop-kid l = record {
  room : l.number + sizes (trees (drop l.kid-index l.kids)) ≡ l.first + sizes (trees l.kids);
  rest : number_among l.name (trees (drop l.kid-index l.kids)) l.number ≡ number_among l.name (trees l.kids) l.first;
}

abbrev pub invariant-number_in_arms-loop-arm : goal.invariant-number_in_arms-loop-arm
invariant-number_in_arms-loop-arm l = record {
  room : l.number + arm_sizes (arms (drop l.arm-index l.each)) ≡ l.first + arm_sizes (arms l.each);
  rest : number_in_arms l.name (arms (drop l.arm-index l.each)) l.number ≡ number_in_arms l.name (arms l.each) l.first;
}
