-- The steps of a tree in chart order, without their numbers.
use Rattle.std.specs.Prelude.{List, [], ◌∷◌, ◌++◌, map, Bool, Option, Some, None}
use Rattle.std.specs.Borrow.{Bor}
use Rattle.chart_core.specs.Trees.{PlainStep, Tree, Trees, Arms, leaf, seq, par, choice, loop, no_trees, more_trees, no_arms, more_arms, plain_step}
use Rattle.chart_core.specs.declared.node.Step.{Step}

abbrev mutual
  pub step_plans : Tree → List PlainStep
  step_plans (leaf step) = step ∷ []
  step_plans (seq each) = all_step_plans each
  step_plans (par each) = all_step_plans each
  step_plans (choice each) = arm_step_plans each
  step_plans (loop body until) = step_plans body

  pub all_step_plans : Trees → List PlainStep
  all_step_plans no_trees = []
  all_step_plans (more_trees each others) = step_plans each ++ all_step_plans others

  pub arm_step_plans : Arms → List PlainStep
  arm_step_plans no_arms = []
  arm_step_plans (more_arms when each others) = step_plans each ++ arm_step_plans others

-- steps that are lent, as plain data
abbrev pub plans_seen : List (Bor Step) → List PlainStep
plans_seen steps = map (λ step. plain_step step.now) steps

-- what a later entry says; where it says nothing, what was so before
abbrev pub or_before : Option Bool → Bool → Bool
or_before None before = before
or_before (Some later) before = later
