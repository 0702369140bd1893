-- The first step of a tree, in chart order, that passes a test.
use Rattle.std.specs.Prelude.{ℕ, List, Bool, ◌&&◌, Option, Some, None, if◌then◌else◌}
use Rattle.std.specs.Option.{option_or}
use Rattle.mtp_codes.specs.Names.{same_name}
use Rattle.chart_core.specs.Trees.{PlainStep, Tree, Trees, Arms, leaf, seq, par, choice, loop, no_trees, more_trees, no_arms, more_arms}

-- the first step of the tree that passes
abbrev mutual
  pub first_passing : (PlainStep → Bool) → Tree → Option PlainStep
  first_passing test (leaf step) = if test step then Some step else None
  first_passing test (seq each) = first_passing_among test each
  first_passing test (par each) = first_passing_among test each
  first_passing test (choice each) = first_passing_in_arms test each
  first_passing test (loop body until) = first_passing test body

  pub first_passing_among : (PlainStep → Bool) → Trees → Option PlainStep
  first_passing_among test no_trees = None
  first_passing_among test (more_trees each others) =
      option_or (first_passing test each) (first_passing_among test others)

  pub first_passing_in_arms : (PlainStep → Bool) → Arms → Option PlainStep
  first_passing_in_arms test no_arms = None
  first_passing_in_arms test (more_arms when each others) =
      option_or (first_passing test each) (first_passing_in_arms test others)

-- the step has this role and this service
abbrev pub is_of_service : List ℕ → List ℕ → PlainStep → Bool
is_of_service role service step = same_name step.role role && same_name step.service service
