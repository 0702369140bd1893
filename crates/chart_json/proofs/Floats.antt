-- What is written has no float.
use Rattle.std.proofs.Common.{◌≡◌, false, List, refl}
use Rattle.std.specs.Prelude.{Option, Some, None}
use Rattle.serde_json.specs.Data.{object}
use Rattle.serde_json.specs.Written.{has_float, items_have_float}
use Rattle.mtp_codes.specs.declared.value.Reading.{Reading}
use Rattle.mtp_codes.specs.declared.value.Reading.TheVariants as reading
use Rattle.mtp_codes.specs.declared.value.Setting.{Setting}
use Rattle.mtp_codes.specs.declared.value.Value.{Value}
use Rattle.mtp_codes.specs.declared.value.Value.TheVariants.{Whole, Bit, Text}
use Rattle.mtp_json.specs.Written.{scalar_data}
use Rattle.mtp_json.proofs.Again.{of_integer_whole, items_whole}
use Rattle.chart_core.specs.Formulas.{Formula, Formulas, constant, all_of, any_of, not_of, test, no_formulas, more_formulas}
use Rattle.chart_core.specs.Trees.{PlainStep, Tree, Trees, Arms, leaf, seq, par, choice, loop, no_trees, more_trees, no_arms, more_arms}
use Rattle.chart_core.specs.Roles.{PlainRole}
use Rattle.chart_json.specs.Written.{written_role, written_roles, written_compared, written_formula, written_formulas, written_setting, finish_first, step_keys, written_settings, written_step, written_tree, written_trees, written_arms}

-- a role has no number with a point
role_whole : (role : PlainRole) → has_float (written_role role) ≡ false
unfolding written_role
role_whole role = refl

-- written roles have no float, so their compact text is exact
pub roles_whole : (roles : List PlainRole) → has_float (written_roles roles) ≡ false
unfolding written_roles
roles_whole roles = items_whole written_role role_whole roles

-- nor has what a value is compared with
compared_whole : (value : Reading) → has_float (written_compared value) ≡ false
compared_whole (reading.Whole z) = of_integer_whole z
compared_whole (reading.Bit bit) = refl

mutual
  unfolding written_formula written_formulas

  -- nor a condition
  formula_whole : (formula : Formula) → has_float (written_formula formula) ≡ false
  formula_whole (constant holds) = refl
  formula_whole (all_of each) = rw (formulas_whole each) refl
  formula_whole (any_of each) = rw (formulas_whole each) refl
  formula_whole (not_of inner) = rw (formula_whole inner) refl
  formula_whole (test role variable op value) = rw (compared_whole value) refl

  -- nor some conditions
  formulas_whole : (each : Formulas) → items_have_float (written_formulas each) ≡ false
  formulas_whole no_formulas = refl
  formulas_whole (more_formulas one each) = rw (formula_whole one, formulas_whole each) refl

-- a single value is no float
pub scalar_whole : (value : Value) → has_float (scalar_data value) ≡ false
scalar_whole (Whole z) = of_integer_whole z
scalar_whole (Bit bit) = refl
scalar_whole (Text bytes) = refl

-- nor a setting
setting_whole : (setting : Setting) → has_float (written_setting setting) ≡ false
unfolding written_setting
setting_whole setting = rw (scalar_whole setting.value) refl

-- nor the keys of a step with its finish
finish_whole : (step : PlainStep) (finish : Option Formula)
    → has_float (object (finish_first finish
    (step_keys step.name step.procedure step.role step.service (written_settings step.settings)))) ≡ false
finish_whole step None = rw (items_whole written_setting setting_whole step.settings) refl
finish_whole step (Some finish) =
    rw (formula_whole finish, items_whole written_setting setting_whole step.settings) refl

-- nor a step
step_whole : (step : PlainStep) → has_float (written_step step) ≡ false
unfolding written_step
step_whole step = finish_whole step step.finish

mutual
  unfolding written_tree written_trees written_arms

  -- a written node has no float, so its compact text is exact
  pub tree_whole : (node : Tree) → has_float (written_tree node) ≡ false
  tree_whole (leaf step) = step_whole step
  tree_whole (seq each) = rw (trees_whole each) refl
  tree_whole (par each) = rw (trees_whole each) refl
  tree_whole (choice each) = rw (arms_whole each) refl
  tree_whole (loop body until) = rw (tree_whole body, formula_whole until) refl

  -- nor some nodes
  trees_whole : (each : Trees) → items_have_float (written_trees each) ≡ false
  trees_whole no_trees = refl
  trees_whole (more_trees one each) = rw (tree_whole one, trees_whole each) refl

  -- nor some arms
  arms_whole : (each : Arms) → items_have_float (written_arms each) ≡ false
  arms_whole no_arms = refl
  arms_whole (more_arms when one each) = rw (tree_whole one, formula_whole when, arms_whole each) refl
