-- The first step that passes is the first of the steps in chart order that does.
use Rattle.std.proofs.Common.{◌≡◌, ℕ, Bool, true, false, cond, List, [], ◌∷◌, map, Option, Some, None, is_some, refl, ap, sym, ◌∙◌}
use Rattle.std.specs.Prelude.{◌||◌, find, option_copied, option_map}
use Rattle.std.specs.Borrow.{Bor}
use Rattle.std.specs.Option.{option_or}
use Rattle.std.proofs.lemmas.List.Folds.{find-append}
use Rattle.chart_core.specs.declared.node.Step.{Step}
use Rattle.chart_core.specs.Finding.{first_passing, first_passing_among, first_passing_in_arms, is_of_service}
use Rattle.chart_core.specs.Order.{step_plans, all_step_plans, arm_step_plans}
use Rattle.chart_core.specs.Trees.{PlainStep, Placed, Tree, Trees, Arms, leaf, seq, par, choice, loop, no_trees, more_trees, no_arms, more_arms, plain_step, steps}
use Rattle.chart_core.specs.Valid.{uses, some_uses, arm_uses}
use Rattle.chart_core.proofs.Ordered.{plans_are}

-- The first that passes, of a tree, of some trees and of some arms, is the first that passes of the steps in order.
mutual
  passing_plan : (test : PlainStep → Bool) (each : Tree) → first_passing test each ≡ find test (step_plans each)
  passing_plan test (leaf step) = refl
  passing_plan test (seq each) = passing_plan_among test each
  passing_plan test (par each) = passing_plan_among test each
  passing_plan test (choice each) = passing_plan_in_arms test each
  passing_plan test (loop body until) = passing_plan test body

  passing_plan_among : (test : PlainStep → Bool) (each : Trees) →
      first_passing_among test each ≡ find test (all_step_plans each)
  passing_plan_among test no_trees = refl
  passing_plan_among test (more_trees each others) =
      rw (passing_plan test each, passing_plan_among test others)
      (sym (find-append test (step_plans each) (all_step_plans others)))

  passing_plan_in_arms : (test : PlainStep → Bool) (each : Arms) →
      first_passing_in_arms test each ≡ find test (arm_step_plans each)
  passing_plan_in_arms test no_arms = refl
  passing_plan_in_arms test (more_arms when each others) =
      rw (passing_plan test each, passing_plan_in_arms test others)
      (sym (find-append test (step_plans each) (arm_step_plans others)))

-- so too of the numbered steps, with their numbers left out
pub passing_is : (test : PlainStep → Bool) (each : Tree) (number : ℕ) →
    first_passing test each ≡ find test (map (λ placed. placed.step) (steps each number))
passing_is test each number = passing_plan test each ∙ ap (find test) (sym (plans_are each number))

-- The first that passes of steps without their numbers is that of the numbered steps, without its number.
found_in_map : (test : PlainStep → Bool) (placed : List Placed) →
    find test (map (λ (each : Placed). each.step) placed)
    ≡ option_map (λ (each : Placed). each.step) (find (λ (each : Placed). test each.step) placed)
found_in_map test [] = refl
found_in_map test (each ∷ placed) = go (test each.step) (found_in_map test placed)
  where
    go : (here : Bool) → find test (map (λ (each : Placed). each.step) placed)
        ≡ option_map (λ (each : Placed). each.step) (find (λ (each : Placed). test each.step) placed) →
        cond here (Some each.step) (find test (map (λ (each : Placed). each.step) placed))
        ≡ option_map (λ (each : Placed). each.step)
        (cond here (Some each) (find (λ (each : Placed). test each.step) placed))
    go true later = refl
    go false later = later

-- What is made of the first step that passes is made of the first of the numbered steps that does.
pub passing_part : {A : Type 0} (part : PlainStep → A) (test : PlainStep → Bool) (each : Tree) (number : ℕ) →
    option_map part (first_passing test each)
    ≡ option_map (λ (placed : Placed). part placed.step)
    (find (λ (placed : Placed). test placed.step) (steps each number))
passing_part part test each number =
    ap (option_map part) (passing_is test each number ∙ found_in_map test (steps each number))
    ∙ go (find (λ (placed : Placed). test placed.step) (steps each number))
  where
    go : (found : Option Placed) → option_map part (option_map (λ (placed : Placed). placed.step) found)
        ≡ option_map (λ (placed : Placed). part placed.step) found
    go None = refl
    go (Some placed) = refl

-- a step is found where its plain form is
pub found_plain : (found : Option (Bor Step)) → is_some found ≡ is_some (option_map plain_step (option_copied found))
found_plain None = refl
found_plain (Some step) = refl

-- one of two is there where the first is or the second is
either_is : (found later : Option PlainStep) → is_some (option_or found later) ≡ (is_some found || is_some later)
either_is None later = refl
either_is (Some step) later = refl

-- A tree uses a service of a role where a step of both is found, and so do some trees and some arms.
mutual
  pub uses_is : (role service : List ℕ) (each : Tree) →
      is_some (first_passing (is_of_service role service) each) ≡ uses each role service
  uses_is role service (leaf step) = go (is_of_service role service step)
    where
      go : (here : Bool) → is_some (cond here (Some step) None) ≡ here
      go true = refl
      go false = refl
  uses_is role service (seq each) = some_uses_is role service each
  uses_is role service (par each) = some_uses_is role service each
  uses_is role service (choice each) = arm_uses_is role service each
  uses_is role service (loop body until) = uses_is role service body

  some_uses_is : (role service : List ℕ) (each : Trees) →
      is_some (first_passing_among (is_of_service role service) each) ≡ some_uses each role service
  some_uses_is role service no_trees = refl
  some_uses_is role service (more_trees each others) =
      either_is (first_passing (is_of_service role service) each)
      (first_passing_among (is_of_service role service) others)
      ∙ rw (uses_is role service each, some_uses_is role service others) refl

  arm_uses_is : (role service : List ℕ) (each : Arms) →
      is_some (first_passing_in_arms (is_of_service role service) each) ≡ arm_uses each role service
  arm_uses_is role service no_arms = refl
  arm_uses_is role service (more_arms when each others) =
      either_is (first_passing (is_of_service role service) each)
      (first_passing_in_arms (is_of_service role service) others)
      ∙ rw (uses_is role service each, arm_uses_is role service others) refl
