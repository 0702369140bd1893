-- What every chart holds by the types of its parts: names that are names, numbers of their bits, texts that semver
-- reads.
use Rattle.std.specs.Prelude.{nat_le, Bool, true, ◌&&◌, Option, Some, None, is_ok}
use Rattle.std.specs.List.{list_all}
use Rattle.mtp_codes.specs.Names.{is_name}
use Rattle.mtp_codes.specs.declared.value.Reading.{Reading}
use Rattle.mtp_codes.specs.declared.value.Reading.TheVariants.{Whole, Bit}
use Rattle.mtp_codes.specs.declared.value.Setting.{Setting}
use Rattle.mtp_codes.specs.Numbers.{greatest_i64, is_within, least_i64}
use Rattle.mtp_json.specs.Written.{is_scalar}
use Rattle.chart_core.specs.Formulas.{Formula, Formulas, constant, all_of, any_of, not_of, test, no_formulas, more_formulas}
use Rattle.chart_core.specs.Trees.{PlainStep, Tree, Trees, Arms, leaf, seq, par, choice, loop, no_trees, more_trees, no_arms, more_arms}
use Rattle.chart_core.specs.Roles.{PlainRole, PlainChart}
use Rattle.chart_json.specs.Requirement.{requirement_of}

-- a role with two names and a text that is a requirement
abbrev pub is_role_sound : PlainRole → Bool
is_role_sound role = is_name role.role && (is_name role.type_name && is_ok (requirement_of role.wants))

-- what a test compares with has 64 bits where it is a number
abbrev pub is_compared_sound : Reading → Bool
is_compared_sound (Whole z) = is_within least_i64 greatest_i64 z
is_compared_sound (Bit bit) = true

-- each test in the condition is sound
abbrev mutual
  pub is_formula_sound : Formula → Bool
  is_formula_sound (constant holds) = true
  is_formula_sound (all_of each) = are_formulas_sound each
  is_formula_sound (any_of each) = are_formulas_sound each
  is_formula_sound (not_of inner) = is_formula_sound inner
  is_formula_sound (test role variable op value) = is_name role && (is_name variable && is_compared_sound value)

  pub are_formulas_sound : Formulas → Bool
  are_formulas_sound no_formulas = true
  are_formulas_sound (more_formulas each others) = is_formula_sound each && are_formulas_sound others

-- a setting with a name and a value of a variable
abbrev pub is_setting_sound : Setting → Bool
is_setting_sound setting = is_name setting.name && is_scalar setting.value

-- a finish, where there is one, has a sound condition
abbrev pub is_finish_sound : Option Formula → Bool
is_finish_sound None = true
is_finish_sound (Some finish) = is_formula_sound finish

-- a step with three names, a procedure of 16 bits, and sound settings and finish
abbrev pub is_step_sound : PlainStep → Bool
is_step_sound step =
    is_name step.name
    && (is_name step.role
    && (is_name step.service
    && (nat_le step.procedure 65535
    && (list_all is_setting_sound step.settings && is_finish_sound step.finish))))

-- each step and each condition in the node is sound
abbrev mutual
  pub is_tree_sound : Tree → Bool
  is_tree_sound (leaf step) = is_step_sound step
  is_tree_sound (seq each) = are_trees_sound each
  is_tree_sound (par each) = are_trees_sound each
  is_tree_sound (choice each) = are_arms_sound each
  is_tree_sound (loop body until) = is_tree_sound body && is_formula_sound until

  pub are_trees_sound : Trees → Bool
  are_trees_sound no_trees = true
  are_trees_sound (more_trees each others) = is_tree_sound each && are_trees_sound others

  pub are_arms_sound : Arms → Bool
  are_arms_sound no_arms = true
  are_arms_sound (more_arms when each others) = is_formula_sound when && (is_tree_sound each && are_arms_sound others)

-- the roles and the nodes of a chart are sound
abbrev pub is_sound : PlainChart → Bool
is_sound chart = list_all is_role_sound chart.roles && is_tree_sound chart.root
