-- The number of a step, by its name.
use Rattle.std.specs.Prelude.{ℕ, ◌+◌, List, Option, None, find, option_map}
use Rattle.std.specs.Option.{option_or}
use Rattle.mtp_codes.specs.Faults.{when}
use Rattle.mtp_codes.specs.Names.{same_name}
use Rattle.chart_core.specs.Trees.{Placed, Tree, Trees, Arms, leaf, seq, par, choice, loop, no_trees, more_trees, no_arms, more_arms, size}

-- the number of the first of these steps that has the name
abbrev pub number_named : List ℕ → List Placed → Option ℕ
number_named name placed =
    option_map (λ placed. placed.number) (find (λ placed. same_name placed.step.name name) placed)

-- the number of the first step of a tree that has the name; the tree's first node has the number n
abbrev mutual
  pub number_in : List ℕ → Tree → ℕ → Option ℕ
  number_in name (leaf step) n = when (same_name step.name name) n
  number_in name (seq each) n = number_among name each (n + 1)
  number_in name (par each) n = number_among name each (n + 1)
  number_in name (choice each) n = number_in_arms name each (n + 1)
  number_in name (loop body until) n = number_in name body (n + 1)

  pub number_among : List ℕ → Trees → ℕ → Option ℕ
  number_among name no_trees n = None
  number_among name (more_trees each others) n =
      option_or (number_in name each n) (number_among name others (n + size each))

  pub number_in_arms : List ℕ → Arms → ℕ → Option ℕ
  number_in_arms name no_arms n = None
  number_in_arms name (more_arms when each others) n =
      option_or (number_in name each n) (number_in_arms name others (n + size each))
