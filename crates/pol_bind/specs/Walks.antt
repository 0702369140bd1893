-- The first test with a property, by a walk through the tree that doesn't count nodes.
use Rattle.std.specs.Prelude.{ℕ, List, Bool, Option, Some, None, if◌then◌else◌}
use Rattle.std.specs.Option.{option_or}
use Rattle.chart_core.specs.Formulas.{Formula, Formulas, constant, all_of, any_of, not_of, test, no_formulas}
use Rattle.chart_core.specs.Formulas.{more_formulas}
use Rattle.chart_core.specs.Trees.{Tree, Trees, Arms, leaf, seq, par, choice, loop, no_trees, more_trees, no_arms}
use Rattle.chart_core.specs.Trees.{more_arms, arm_conditions}
use Rattle.mtp_procs.specs.Tests.{PlainTest}

-- the variable of the first test of the condition with this property
abbrev mutual
  pub variable_in : (PlainTest → Bool) → Formula → Option (List ℕ)
  variable_in property (constant value) = None
  variable_in property (all_of each) = variable_among property each
  variable_in property (any_of each) = variable_among property each
  variable_in property (not_of inner) = variable_in property inner
  variable_in property (test role variable op value) =
      if property (record { role = role; variable = variable; value = value }) then Some variable else None

  pub variable_among : (PlainTest → Bool) → Formulas → Option (List ℕ)
  variable_among property no_formulas = None
  variable_among property (more_formulas each others) = option_or (variable_in property each)
      (variable_among property others)

-- the variable of the first test of a step's finish with this property
abbrev pub variable_in_finish : (PlainTest → Bool) → Option Formula → Option (List ℕ)
variable_in_finish property None = None
variable_in_finish property (Some condition) = variable_in property condition

-- the variable of the first test of the tree with this property
abbrev mutual
  pub variable_under : (PlainTest → Bool) → Tree → Option (List ℕ)
  variable_under property (leaf step) = variable_in_finish property step.finish
  variable_under property (seq each) = variable_under_all property each
  variable_under property (par each) = variable_under_all property each
  variable_under property (choice each) =
      option_or (variable_among property (arm_conditions each)) (variable_under_arms property each)
  variable_under property (loop body until) = option_or (variable_in property until) (variable_under property body)

  pub variable_under_all : (PlainTest → Bool) → Trees → Option (List ℕ)
  variable_under_all property no_trees = None
  variable_under_all property (more_trees each others) =
      option_or (variable_under property each) (variable_under_all property others)

  pub variable_under_arms : (PlainTest → Bool) → Arms → Option (List ℕ)
  variable_under_arms property no_arms = None
  variable_under_arms property (more_arms when each others) =
      option_or (variable_under property each) (variable_under_arms property others)
