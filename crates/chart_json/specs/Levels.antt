-- How deep the nodes of a chart lie: its root has depth 1.
use Rattle.std.specs.Prelude.{ℕ, suc, max}
use Rattle.chart_core.specs.Trees.{Tree, Trees, Arms, leaf, seq, par, choice, loop, no_trees, more_trees, no_arms, more_arms}

-- the depth of the deepest node
abbrev mutual
  pub levels : Tree → ℕ
  levels (leaf step) = 1
  levels (seq each) = suc (all_levels each)
  levels (par each) = suc (all_levels each)
  levels (choice each) = suc (arm_levels each)
  levels (loop body until) = suc (levels body)

  pub all_levels : Trees → ℕ
  all_levels no_trees = 0
  all_levels (more_trees each others) = max (levels each) (all_levels others)

  pub arm_levels : Arms → ℕ
  arm_levels no_arms = 0
  arm_levels (more_arms when each others) = max (levels each) (arm_levels others)
