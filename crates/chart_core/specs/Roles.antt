-- Roles as plain data, and charts with their roles.
use Rattle.std.specs.Prelude.{ℕ, length, List, map, Bool, ◌&&◌, nat_le}
use Rattle.std.specs.List.{list_all}
use Rattle.mtp_codes.specs.Numbers.{is_between}
use Rattle.chart_core.specs.declared.limits.TheConstants.{MOST_ROLES, LONGEST_WANTED}
use Rattle.chart_core.specs.Form.{are_distinct, is_tree_formed}
use Rattle.chart_core.specs.Trees.{Tree, plain_node}
use Rattle.chart_core.specs.declared.role.Role.{Role}
use Rattle.chart_core.specs.declared.node.Node.{Node}

-- a role as plain data: the requirement is what `wants` reads to
pub record PlainRole : Type 0 where
  pub role : List ℕ
  pub type_name : List ℕ
  pub wants : List ℕ

-- a chart as plain data
pub record PlainChart : Type 0 where
  pub roles : List PlainRole
  pub root : Tree

-- a role as plain data
abbrev pub plain_role : Role → PlainRole
plain_role role = record { role = role.role; type_name = role.type_name; wants = role.wants }

-- the names of a chart's roles
abbrev pub role_names : PlainChart → List (List ℕ)
role_names chart = map (λ role. role.role) chart.roles

-- the chart has 1 to 64 distinct roles, each with a text of at most 64 bytes
abbrev pub are_roles_formed : PlainChart → Bool
are_roles_formed chart =
    is_between 1 MOST_ROLES (length chart.roles)
    && (are_distinct (role_names chart) && list_all (λ role. nat_le (length role.wants) LONGEST_WANTED) chart.roles)

-- the chart's roles and its nodes are formed
abbrev pub is_chart_form : PlainChart → Bool
is_chart_form chart = are_roles_formed chart && is_tree_formed chart.root

-- the roles and the root make a chart of the right form
abbrev pub has_form : List Role → Node → Bool
has_form roles root = is_chart_form (record { roles = map plain_role roles; root = plain_node root })
