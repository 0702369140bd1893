-- Lists of a chart's parts that are written one by one.
use Rattle.std.proofs.Common.{◌≡◌, List, [], ◌∷◌, map, refl, sym, ap, ◌∙◌, Vec, Global}
use Rattle.serde_json.specs.Data.{array, item}
use Rattle.serde_json.specs.View.{items_of, view}
use Rattle.serde_json.specs.declared.value.Value.{Value}
use Rattle.serde_json.specs.declared.value.Value.TheVariants.{Array}
use Rattle.serde_json.proofs.Views.{view-Array}
use Rattle.chart_core.specs.Formulas.{plain_condition, formulas}
use Rattle.chart_core.specs.Roles.{plain_role}
use Rattle.chart_core.specs.declared.role.Role.{Role}
use Rattle.mtp_json.proofs.Lists.{map_map}
use Rattle.chart_core.specs.Trees.{plain_node, trees, arms}
use Rattle.chart_core.specs.declared.condition.Condition.{Condition}
use Rattle.chart_core.specs.declared.node.Arm.{Arm}
use Rattle.chart_core.specs.declared.node.Node.{Node}
use Rattle.chart_core.proofs.Items.{arm_laid}
use Rattle.chart_json.specs.Written.{written_arm, written_arms, written_formula, written_formulas, written_role, written_roles, written_tree, written_trees}

-- what is written of conditions one by one is what is written of all
formulas_items : (conditions : List Condition)
    → items_of (map (λ condition. written_formula (plain_condition condition)) conditions)
    ≡ written_formulas (formulas conditions)
unfolding written_formulas
formulas_items [] = refl
formulas_items (condition ∷ conditions) =
    ap (item (written_formula (plain_condition condition))) (formulas_items conditions)

-- a list of the written forms of these conditions
pub conditions_written : (list : Vec Value Global) (conditions : List Condition)
    → map view list.items ≡ map (λ condition. written_formula (plain_condition condition)) conditions
    → view (Array list) ≡ array (written_formulas (formulas conditions))
conditions_written list conditions each_is = view-Array list ∙ ap (λ values. array (items_of values)) each_is
    ∙ ap array (formulas_items conditions)

-- and so for nodes
trees_items : (nodes : List Node) → items_of (map (λ node. written_tree (plain_node node)) nodes)
    ≡ written_trees (trees nodes)
unfolding written_trees
trees_items [] = refl
trees_items (node ∷ nodes) = ap (item (written_tree (plain_node node))) (trees_items nodes)

-- a list of the written forms of these nodes
pub nodes_written : (list : Vec Value Global) (nodes : List Node)
    → map view list.items ≡ map (λ node. written_tree (plain_node node)) nodes
    → view (Array list) ≡ array (written_trees (trees nodes))
nodes_written list nodes each_is = view-Array list ∙ ap (λ values. array (items_of values)) each_is
    ∙ ap array (trees_items nodes)

-- and for arms
arms_items : (each : List Arm)
    → items_of (map (λ arm. written_arm (written_formula (plain_condition arm.when))
    (written_tree (plain_node arm.body))) each)
    ≡ written_arms (arms each)
unfolding written_arms
arms_items [] = refl
arms_items (arm ∷ each) =
    rw arm_laid (ap (item
    (written_arm (written_formula (plain_condition arm.when)) (written_tree (plain_node arm.body))))
    (arms_items each))

-- a list of the written forms of these arms
pub arms_written : (list : Vec Value Global) (each : List Arm)
    → map view list.items
    ≡ map (λ arm. written_arm (written_formula (plain_condition arm.when)) (written_tree (plain_node arm.body))) each
    → view (Array list) ≡ array (written_arms (arms each))
arms_written list each each_is = view-Array list ∙ ap (λ values. array (items_of values)) each_is
    ∙ ap array (arms_items each)

-- a list of the written forms of these roles
pub roles_written : (list : Vec Value Global) (roles : List Role)
    → map view list.items ≡ map (λ role. written_role (plain_role role)) roles
    → view (Array list) ≡ written_roles (map plain_role roles)
unfolding written_roles
roles_written list roles each_is = view-Array list ∙ ap (λ values. array (items_of values)) each_is
    ∙ ap (λ values. array (items_of values)) (sym (map_map written_role plain_role roles))
