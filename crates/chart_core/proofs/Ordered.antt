-- The steps without their numbers, and what a log says of a step.
use Rattle.std.proofs.Common.{◌≡◌, ℕ, ◌+◌, refl, ◌∙◌}
use Rattle.std.specs.Prelude.{map}
use Rattle.std.proofs.lemmas.List.{map-append}
use Rattle.chart_core.specs.Trees.{PlainStep, Placed, Tree, Trees, Arms, leaf, seq, par, choice, loop, no_trees, more_trees, no_arms, more_arms, size, steps, all_steps, arm_steps}
use Rattle.chart_core.specs.Order.{step_plans, all_step_plans, arm_step_plans}

-- a step of a chart
abbrev step_in : Placed → PlainStep
step_in placed = placed.step

-- The numbered steps of a tree, of some trees and of some arms are its steps in chart order, with their numbers.
mutual
  pub plans_are : (each : Tree) (number : ℕ) → map step_in (steps each number) ≡ step_plans each
  plans_are (leaf step) number = refl
  plans_are (seq each) number = all_plans_are each (number + 1)
  plans_are (par each) number = all_plans_are each (number + 1)
  plans_are (choice each) number = arm_plans_are each (number + 1)
  plans_are (loop body until) number = plans_are body (number + 1)

  all_plans_are : (each : Trees) (number : ℕ) → map step_in (all_steps each number) ≡ all_step_plans each
  all_plans_are no_trees number = refl
  all_plans_are (more_trees each others) number =
      map-append step_in (steps each number) (all_steps others (number + size each))
      ∙ rw (plans_are each number, all_plans_are others (number + size each)) refl

  arm_plans_are : (each : Arms) (number : ℕ) → map step_in (arm_steps each number) ≡ arm_step_plans each
  arm_plans_are no_arms number = refl
  arm_plans_are (more_arms when each others) number =
      map-append step_in (steps each number) (arm_steps others (number + size each))
      ∙ rw (plans_are each number, arm_plans_are others (number + size each)) refl
