-- How many nodes each node of a tree has, itself among them, by its number.
use Rattle.std.specs.Prelude.{ℕ, ◌≡◌, ◌+◌, List, [], ◌∷◌, ◌++◌, get_or}
use Rattle.chart_core.specs.Trees.{Tree, Trees, Arms, leaf, seq, par, choice, loop, no_trees, more_trees, no_arms, more_arms, size, sizes, arm_sizes}

-- the numbers of this list, by their places; 0 behind the last
abbrev pub sizes_of : List ℕ → ℕ → ℕ
sizes_of list place = get_or list place 0

-- the sizes of the nodes of a tree in chart order
abbrev mutual
  pub sizes_in : Tree → List ℕ
  sizes_in (leaf step) = 1 ∷ []
  sizes_in (seq each) = (1 + sizes each) ∷ all_sizes_in each
  sizes_in (par each) = (1 + sizes each) ∷ all_sizes_in each
  sizes_in (choice each) = (1 + arm_sizes each) ∷ arm_sizes_in each
  sizes_in (loop body until) = (1 + size body) ∷ sizes_in body

  pub all_sizes_in : Trees → List ℕ
  all_sizes_in no_trees = []
  all_sizes_in (more_trees each others) = sizes_in each ++ all_sizes_in others

  pub arm_sizes_in : Arms → List ℕ
  arm_sizes_in no_arms = []
  arm_sizes_in (more_arms when each others) = sizes_in each ++ arm_sizes_in others

-- below the first node of a tree, which has the number n, each node has its size at its number
abbrev mutual
  pub SizesWithin : Tree → ℕ → (ℕ → ℕ) → Type 0
  SizesWithin (leaf step) n known = Unit {0}
  SizesWithin (seq each) n known = SizesAmong each (n + 1) known
  SizesWithin (par each) n known = SizesAmong each (n + 1) known
  SizesWithin (choice each) n known = SizesInArms each (n + 1) known
  SizesWithin (loop body until) n known = (known (n + 1) ≡ size body) × SizesWithin body (n + 1) known

  pub SizesAmong : Trees → ℕ → (ℕ → ℕ) → Type 0
  SizesAmong no_trees n known = Unit {0}
  SizesAmong (more_trees each others) n known =
      (known n ≡ size each) × SizesWithin each n known × SizesAmong others (n + size each) known

  pub SizesInArms : Arms → ℕ → (ℕ → ℕ) → Type 0
  SizesInArms no_arms n known = Unit {0}
  SizesInArms (more_arms when each others) n known =
      (known n ≡ size each) × SizesWithin each n known × SizesInArms others (n + size each) known

-- each node of a tree, whose first has the number n, has its size at its number
abbrev pub HasSizes : Tree → ℕ → (ℕ → ℕ) → Type 0
HasSizes each n known = (known n ≡ size each) × SizesWithin each n known
