-- How deep what is written nests.
use Rattle.std.proofs.Common.{◌≡◌, ◌≤◌, ◌+◌, ◌*◌, ℕ, true, ◌&&◌, List, length, map, arith}
use Rattle.std.specs.Prelude.{nat_le, Option, Some, None}
use Rattle.std.proofs.lemmas.Bool.{and_parts}
use Rattle.std.proofs.lemmas.Bool.Decides.{nat_tests}
use Rattle.serde_json.specs.Data.{object, depth, items_depth}
use Rattle.mtp_codes.specs.declared.value.Reading.{Reading}
use Rattle.mtp_codes.specs.declared.value.Reading.TheVariants as reading
use Rattle.mtp_codes.specs.declared.value.Setting.{Setting}
use Rattle.mtp_codes.specs.declared.value.Value.{Value}
use Rattle.mtp_codes.specs.declared.value.Value.TheVariants.{Whole, Bit, Text}
use Rattle.mtp_codes.specs.Numbers.{is_between}
use Rattle.mtp_json.specs.Written.{scalar_data}
use Rattle.mtp_json.proofs.Again.{items_depth_below}
use Rattle.chart_core.specs.declared.limits.TheConstants.{MOST_SETTINGS, MOST_ARMS, MOST_TESTS, DEEPEST_CONDITION, DEEPEST_NODE}
use Rattle.chart_core.specs.Form.{are_distinct, has_parts_formed, test_count, nesting, nestings, is_formula_formed, is_finish_formed, is_step_formed, tree_count, is_tree_formed, are_trees_formed, are_arms_formed}
use Rattle.chart_core.specs.Formulas.{Formula, Formulas, constant, all_of, any_of, not_of, test, no_formulas, more_formulas}
use Rattle.chart_core.specs.Trees.{PlainStep, Tree, Trees, Arms, leaf, seq, par, choice, loop, no_trees, more_trees, no_arms, more_arms, arm_count}
use Rattle.chart_core.specs.Roles.{PlainChart, PlainRole, are_roles_formed, is_chart_form}
use Rattle.chart_json.specs.Levels.{levels, all_levels, arm_levels}
use Rattle.chart_json.specs.Written.{written_role, written_roles, written_compared, written_formula, written_formulas, written_setting, finish_first, step_keys, written_settings, written_step, written_tree, written_trees, written_arms}

-- a role is one level deep
role_depth : (role : PlainRole) → depth (written_role role) ≤ 1
unfolding written_role
role_depth role = omega arith

-- written roles nest at most two deep
pub roles_depth : (roles : List PlainRole) → depth (written_roles roles) ≤ 2
unfolding written_roles
roles_depth roles = omega (arith, items_depth_below written_role 1 role_depth roles)

-- what a value is compared with has no level
compared_depth : (value : Reading) → depth (written_compared value) ≤ 0
compared_depth (reading.Whole z) = omega arith
compared_depth (reading.Bit bit) = omega arith

mutual
  unfolding written_formula written_formulas

  -- a condition has two levels for each that is nested
  formula_depth : (formula : Formula) → depth (written_formula formula) ≤ 2 * nesting formula
  formula_depth (constant holds) = omega arith
  formula_depth (all_of each) = omega (arith, formulas_depth each)
  formula_depth (any_of each) = omega (arith, formulas_depth each)
  formula_depth (not_of inner) = omega (arith, formula_depth inner)
  formula_depth (test role variable op value) = omega (arith, compared_depth value)

  -- and so have some conditions
  formulas_depth : (each : Formulas) → items_depth (written_formulas each) ≤ 2 * nestings each
  formulas_depth no_formulas = omega arith
  formulas_depth (more_formulas one each) = omega (arith, formula_depth one, formulas_depth each)

-- what the test of a nesting says
pub nesting_told : (n : ℕ) → nat_le n DEEPEST_CONDITION ≡ true → n ≤ DEEPEST_CONDITION
nesting_told n few = grind (arith, nat_tests)

-- a whole condition nests at most 16 deep
condition_depth : (condition : Formula) → is_formula_formed condition ≡ true → depth (written_formula condition) ≤ 16
condition_depth condition formed =
    let parts = and_parts (has_parts_formed condition) (nat_le (test_count condition) MOST_TESTS && nat_le
    (nesting condition) DEEPEST_CONDITION) formed in
    let small = and_parts (nat_le (test_count condition) MOST_TESTS)
    (nat_le (nesting condition) DEEPEST_CONDITION) parts.1 in
    omega (arith, formula_depth condition, nesting_told (nesting condition) small.1)

-- a single value nests nothing
pub scalar_depth : (value : Value) → depth (scalar_data value) ≤ 0
scalar_depth (Whole z) = omega arith
scalar_depth (Bit bit) = omega arith
scalar_depth (Text bytes) = omega arith

-- a setting is one level deep
setting_depth : (setting : Setting) → depth (written_setting setting) ≤ 1
unfolding written_setting
setting_depth setting = omega (arith, scalar_depth setting.value)

-- a step is as deep as its finish, and never more than 17 levels
finish_depth : (step : PlainStep) (finish : Option Formula) → is_finish_formed finish ≡ true
    → depth (object (finish_first finish
    (step_keys step.name step.procedure step.role step.service (written_settings step.settings)))) ≤ 17
finish_depth step None formed = omega (arith, items_depth_below written_setting 1 setting_depth step.settings)
finish_depth step (Some finish) formed =
    omega (arith, condition_depth finish formed, items_depth_below written_setting 1 setting_depth step.settings)

-- a step in form has a finish in form
step_parts : (step : PlainStep) → is_step_formed step ≡ true → is_finish_formed step.finish ≡ true
step_parts step formed =
    let a = and_parts (nat_le 1 step.procedure)
    (nat_le (length step.settings) MOST_SETTINGS
    && (are_distinct (map (λ setting. setting.name) step.settings) && is_finish_formed step.finish)) formed in
    let b = and_parts (nat_le (length step.settings) MOST_SETTINGS) (are_distinct
    (map (λ setting. setting.name) step.settings) && is_finish_formed step.finish) a.1 in
    (and_parts (are_distinct (map (λ setting. setting.name) step.settings)) (is_finish_formed step.finish) b.1).1

-- so a step in form has at most 17 levels
step_depth : (step : PlainStep) → is_step_formed step ≡ true → depth (written_step step) ≤ 17
unfolding written_step
step_depth step formed = finish_depth step step.finish (step_parts step formed)

mutual
  unfolding written_tree written_trees written_arms

  -- a written node nests at most three times as deep as its nodes lie, and 17 more for what the deepest holds
  pub tree_depth : (node : Tree) → is_tree_formed node ≡ true → depth (written_tree node) ≤ 3 * levels node + 17
  tree_depth (leaf step) formed = omega (arith, step_depth step formed)
  tree_depth (seq each) formed = omega (
    arith,
    trees_depth each
        (and_parts (nat_le 1 (tree_count each)) (are_trees_formed each) formed).1,
  )
  tree_depth (par each) formed = omega (
    arith,
    trees_depth each
        (and_parts (nat_le 2 (tree_count each)) (are_trees_formed each) formed).1,
  )
  tree_depth (choice each) formed = omega (
    arith,
    arms_depth each
        (and_parts (is_between 1 MOST_ARMS (arm_count each)) (are_arms_formed each) formed).1,
  )
  tree_depth (loop body until) formed =
      let parts = and_parts (is_tree_formed body) (is_formula_formed until) formed in
      omega (arith, tree_depth body parts.0, condition_depth until parts.1)

  -- some nodes have three levels for each of theirs, and a step's below them
  trees_depth : (each : Trees) → are_trees_formed each ≡ true
      → items_depth (written_trees each) ≤ 3 * all_levels each + 17
  trees_depth no_trees formed = omega arith
  trees_depth (more_trees one each) formed =
      let parts = and_parts (is_tree_formed one) (are_trees_formed each) formed in
      omega (arith, tree_depth one parts.0, trees_depth each parts.1)

  -- and so have some arms, with one for the arm itself
  arms_depth : (each : Arms) → are_arms_formed each ≡ true → items_depth (written_arms each) ≤ 3 * arm_levels each + 18
  arms_depth no_arms formed = omega arith
  arms_depth (more_arms when one each) formed =
      let parts = and_parts (is_tree_formed one) (is_formula_formed when && are_arms_formed each) formed in
      let others = and_parts (is_formula_formed when) (are_arms_formed each) parts.1 in
      omega (arith, tree_depth one parts.0, condition_depth when others.0, arms_depth each others.1)

-- the written root of a chart that lies at most 16 deep nests at most 65 deep
pub root_depth : (chart : PlainChart) → is_chart_form chart ≡ true → levels chart.root ≤ DEEPEST_NODE
    → depth (written_tree chart.root) ≤ 65
root_depth chart formed shallow = omega (
  arith,
  tree_depth chart.root
      (and_parts (are_roles_formed chart) (is_tree_formed chart.root) formed).1,
)
