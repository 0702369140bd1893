use Rattle.std.proofs.Common.{◌≡◌, ◌<◌, ◌^◌, ◌++◌, drop}
use Rattle.chart_core.specs.Sizes.{all_sizes_in, arm_sizes_in}
use Rattle.chart_core.specs.Trees.{trees, arms, sizes, arm_sizes}
use Rattle.chart_core.proofs.size.+sized.Given as goal

abbrev pub invariant-put_all_sizes-loop-kid : goal.invariant-put_all_sizes-loop-kid
invariant-put_all_sizes-loop-kid l = record {
  small : sizes (trees (drop l.kid-index l.kids)) < 2 ^ 32;
  rest : l.found.items ++ all_sizes_in (trees (drop l.kid-index l.kids))
      ≡ l.fn.found.items ++ all_sizes_in (trees l.kids);
}

abbrev pub invariant-put_arm_sizes-loop-arm : goal.invariant-put_arm_sizes-loop-arm
invariant-put_arm_sizes-loop-arm l = record {
  small : arm_sizes (arms (drop l.arm-index l.each)) < 2 ^ 32;
  rest : l.found.items ++ arm_sizes_in (arms (drop l.arm-index l.each))
      ≡ l.fn.found.items ++ arm_sizes_in (arms l.each);
}
