-- The written form of a recipe's roles and of its chart.
use Rattle.std.specs.Prelude.{ℕ, ◌≡◌, true, List, codes, map, Option, Some, None}
use Rattle.serde_json.specs.Data.{Data, boolean, number, string, array, object, unsigned, Items, Members, no_items, item, no_members, member}
use Rattle.serde_json.specs.Find.{of_integer}
use Rattle.serde_json.specs.View.{items_of}
use Rattle.mtp_codes.specs.declared.value.Reading.{Reading}
use Rattle.mtp_codes.specs.declared.value.Reading.TheVariants.{Whole, Bit}
use Rattle.mtp_codes.specs.declared.value.Setting.{Setting}
use Rattle.mtp_json.specs.Written.{scalar_data}
use Rattle.chart_core.specs.Formulas.{Formula, Formulas, constant, all_of, any_of, not_of, test, no_formulas, more_formulas}
use Rattle.chart_core.specs.Trees.{PlainStep, Tree, Trees, Arms, leaf, seq, par, choice, loop, no_trees, more_trees, no_arms, more_arms}
use Rattle.chart_core.specs.Roles.{PlainRole, PlainChart}
use Rattle.chart_json.specs.Sound.{is_sound}
use Rattle.chart_json.specs.Words.{op_word}

-- a role, with every key
unfoldable pub written_role : PlainRole → Data
written_role role = object
    (member (codes "role") (string role.role)
    (member (codes "type") (string role.type_name)
    (member (codes "version") (string role.wants) no_members)))

-- the roles of a chart
unfoldable pub written_roles : List PlainRole → Data
written_roles roles = array (items_of (map written_role roles))

-- what a test compares with
abbrev pub written_compared : Reading → Data
written_compared (Whole z) = number (of_integer z)
written_compared (Bit bit) = boolean bit

-- an object with one key
abbrev pub only_member : List ℕ → Data → Data
only_member key value = object (member key value no_members)

-- a condition, with every key of its kind
unfoldable mutual
  pub written_formula : Formula → Data
  written_formula (constant holds) = only_member (codes "const") (boolean holds)
  written_formula (all_of each) = only_member (codes "all") (array (written_formulas each))
  written_formula (any_of each) = only_member (codes "any") (array (written_formulas each))
  written_formula (not_of inner) = only_member (codes "not") (written_formula inner)
  written_formula (test role variable op value) = object
      (member (codes "op") (string (op_word op))
      (member (codes "role") (string role)
      (member (codes "test") (string variable)
      (member (codes "value") (written_compared value) no_members))))

  pub written_formulas : Formulas → Items
  written_formulas no_formulas = no_items
  written_formulas (more_formulas each others) = item (written_formula each) (written_formulas others)

-- a setting, with every key
unfoldable pub written_setting : Setting → Data
written_setting setting = object
    (member (codes "name") (string setting.name)
    (member (codes "value") (scalar_data setting.value) no_members))

-- the keys that every step has
abbrev pub step_keys : List ℕ → ℕ → List ℕ → List ℕ → Data → Members
step_keys named procedure role service settings =
    member (codes "procedure") (number (unsigned procedure))
    (member (codes "role") (string role)
    (member (codes "service") (string service)
    (member (codes "settings") settings
    (member (codes "step") (string named) no_members))))

-- the settings of a step
abbrev pub written_settings : List Setting → Data
written_settings settings = array (items_of (map written_setting settings))

-- the key of a finish, where there is one, before the other keys
abbrev pub finish_first : Option Formula → Members → Members
finish_first None others = others
finish_first (Some finish) others = member (codes "finish") (written_formula finish) others

-- a step, with every key but `finish` where there is none
unfoldable pub written_step : PlainStep → Data
written_step step =
    object (finish_first step.finish (step_keys step.name step.procedure step.role step.service
    (written_settings step.settings)))

-- an arm of a selection, with every key
abbrev pub written_arm : Data → Data → Data
written_arm when body = object (member (codes "then") body (member (codes "when") when no_members))

-- a node, with every key of its kind
unfoldable mutual
  pub written_tree : Tree → Data
  written_tree (leaf step) = written_step step
  written_tree (seq each) = only_member (codes "seq") (array (written_trees each))
  written_tree (par each) = only_member (codes "par") (array (written_trees each))
  written_tree (choice each) = only_member (codes "sel") (array (written_arms each))
  written_tree (loop body until) = object
      (member (codes "loop") (written_tree body)
      (member (codes "until") (written_formula until) no_members))

  pub written_trees : Trees → Items
  written_trees no_trees = no_items
  written_trees (more_trees each others) = item (written_tree each) (written_trees others)

  pub written_arms : Arms → Items
  written_arms no_arms = no_items
  written_arms (more_arms when body others) =
      item (written_arm (written_formula when) (written_tree body)) (written_arms others)

-- the values are the written roles and the written root of the chart, which is sound in its parts
pub record IsWritten (chart : PlainChart) (roles root : Data) : Type 0 where
  pub roles_are : roles ≡ written_roles chart.roles
  pub root_is : root ≡ written_tree chart.root
  pub sound : is_sound chart ≡ true
