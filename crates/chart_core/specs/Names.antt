-- The names of a chart's steps.
use Rattle.std.specs.Prelude.{ℕ, ◌≡◌, ◌⊎◌, List, [], ◌∷◌, ◌++◌}
use Rattle.chart_core.specs.Trees.{Tree, Trees, Arms, leaf, seq, par, choice, loop, no_trees, more_trees, no_arms, more_arms}

-- the names of the steps of a tree, in chart order
abbrev mutual
  pub names : Tree → List (List ℕ)
  names (leaf step) = step.name ∷ []
  names (seq each) = all_names each
  names (par each) = all_names each
  names (choice each) = arm_names each
  names (loop body until) = names body

  pub all_names : Trees → List (List ℕ)
  all_names no_trees = []
  all_names (more_trees each others) = names each ++ all_names others

  pub arm_names : Arms → List (List ℕ)
  arm_names no_arms = []
  arm_names (more_arms when each others) = names each ++ arm_names others

-- the name is in the list
abbrev pub In : List ℕ → List (List ℕ) → Type 0
In name [] = ⊥
In name (each ∷ others) = (name ≡ each) ⊎ In name others

-- no name is in the list twice
abbrev pub Distinct : List (List ℕ) → Type 0
Distinct [] = Unit {0}
Distinct (name ∷ others) = (In name others → ⊥) × Distinct others
