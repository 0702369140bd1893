-- The form of a chart: how long its lists may be, and which values may occur in it.
use Rattle.std.specs.Prelude.{ℕ, ◌+◌, suc, max, length, List, [], ◌∷◌, map, Bool, true, false, not, ◌&&◌, nat_le, Option, Some, None}
use Rattle.mtp_codes.specs.Numbers.{is_between}
use Rattle.mtp_codes.specs.declared.value.Reading.{Reading}
use Rattle.mtp_codes.specs.declared.value.Reading.TheVariants.{Whole, Bit}
use Rattle.mtp_codes.specs.Names.{is_among}
use Rattle.chart_core.specs.declared.limits.TheConstants.{MOST_SETTINGS, MOST_ARMS, MOST_JOINED, MOST_TESTS, DEEPEST_CONDITION}
use Rattle.chart_core.specs.Formulas.{Formula, Formulas, constant, all_of, any_of, not_of, test, no_formulas, more_formulas}
use Rattle.chart_core.specs.Trees.{PlainStep, Tree, Trees, Arms, leaf, seq, par, choice, loop, no_trees, more_trees, no_arms, more_arms, arm_count}
use Rattle.chart_core.specs.declared.condition.Op.{Op}
use Rattle.chart_core.specs.declared.condition.Op.TheVariants.{Lt, Le, Eq, Ne, Ge, Gt}

-- no name is in the list twice
abbrev pub are_distinct : List (List ℕ) → Bool
are_distinct [] = true
are_distinct (name ∷ others) = not (is_among others name) && are_distinct others

-- the operator may compare with this value: a truth value has no order
abbrev pub may_compare : Op → Reading → Bool
may_compare op (Whole value) = true
may_compare Lt (Bit value) = false
may_compare Le (Bit value) = false
may_compare Eq (Bit value) = true
may_compare Ne (Bit value) = true
may_compare Ge (Bit value) = false
may_compare Gt (Bit value) = false

-- how many conditions are in the list
abbrev pub formula_count : Formulas → ℕ
formula_count no_formulas = 0
formula_count (more_formulas each others) = suc (formula_count others)

-- each list in the condition has 1 to 16 members, and each test may compare with its value
abbrev mutual
  pub has_parts_formed : Formula → Bool
  has_parts_formed (constant value) = true
  has_parts_formed (all_of each) = is_between 1 MOST_JOINED (formula_count each) && have_parts_formed each
  has_parts_formed (any_of each) = is_between 1 MOST_JOINED (formula_count each) && have_parts_formed each
  has_parts_formed (not_of inner) = has_parts_formed inner
  has_parts_formed (test role variable op value) = may_compare op value

  pub have_parts_formed : Formulas → Bool
  have_parts_formed no_formulas = true
  have_parts_formed (more_formulas each others) = has_parts_formed each && have_parts_formed others

-- how many tests are in the condition
abbrev mutual
  pub test_count : Formula → ℕ
  test_count (constant value) = 0
  test_count (all_of each) = test_counts each
  test_count (any_of each) = test_counts each
  test_count (not_of inner) = test_count inner
  test_count (test role variable op value) = 1

  pub test_counts : Formulas → ℕ
  test_counts no_formulas = 0
  test_counts (more_formulas each others) = test_count each + test_counts others

-- how deep the condition is nested: a constant and a test have depth 1
abbrev mutual
  pub nesting : Formula → ℕ
  nesting (constant value) = 1
  nesting (all_of each) = suc (nestings each)
  nesting (any_of each) = suc (nestings each)
  nesting (not_of inner) = suc (nesting inner)
  nesting (test role variable op value) = 1

  pub nestings : Formulas → ℕ
  nestings no_formulas = 0
  nestings (more_formulas each others) = max (nesting each) (nestings others)

-- a condition has formed parts and at most 16 tests, and is nested at most 8 deep
abbrev pub is_formula_formed : Formula → Bool
is_formula_formed each =
    has_parts_formed each && (nat_le (test_count each) MOST_TESTS && nat_le (nesting each) DEEPEST_CONDITION)

-- a finish, where there is one, is a formed condition
abbrev pub is_finish_formed : Option Formula → Bool
is_finish_formed None = true
is_finish_formed (Some condition) = is_formula_formed condition

-- a step's procedure is from 1, the step sets at most 32 parameters, none twice, and its finish is formed
abbrev pub is_step_formed : PlainStep → Bool
is_step_formed step =
    nat_le 1 step.procedure
    && (nat_le (length step.settings) MOST_SETTINGS
    && (are_distinct (map (λ setting. setting.name) step.settings) && is_finish_formed step.finish))

-- how many nodes are in the list
abbrev pub tree_count : Trees → ℕ
tree_count no_trees = 0
tree_count (more_trees each others) = suc (tree_count others)

-- A sequence has at least one child, a parallel at least two, a selection 1 to 16 arms.
abbrev mutual
  pub is_tree_formed : Tree → Bool
  is_tree_formed (leaf step) = is_step_formed step
  is_tree_formed (seq each) = nat_le 1 (tree_count each) && are_trees_formed each
  is_tree_formed (par each) = nat_le 2 (tree_count each) && are_trees_formed each
  is_tree_formed (choice each) = is_between 1 MOST_ARMS (arm_count each) && are_arms_formed each
  is_tree_formed (loop body until) = is_tree_formed body && is_formula_formed until

  pub are_trees_formed : Trees → Bool
  are_trees_formed no_trees = true
  are_trees_formed (more_trees each others) = is_tree_formed each && are_trees_formed others

  pub are_arms_formed : Arms → Bool
  are_arms_formed no_arms = true
  are_arms_formed (more_arms when each others) = is_tree_formed each &&
      (is_formula_formed when && are_arms_formed others)
