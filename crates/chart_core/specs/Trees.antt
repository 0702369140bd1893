-- Charts as plain data, and the numbers of their nodes.
use Rattle.std.specs.Prelude.{ℕ, ◌+◌, suc, List, [], ◌∷◌, ◌++◌, map, Option, Some, None}
use Rattle.mtp_codes.specs.declared.value.Setting.{Setting}
use Rattle.chart_core.specs.Formulas.{Formula, Formulas, no_formulas, more_formulas, plain_condition}
use Rattle.chart_core.specs.declared.node.Step.{Step}
use Rattle.chart_core.specs.declared.node.Node.{Node}
use Rattle.chart_core.specs.declared.node.Node.TheOpen.{Node-F, Arm-F}
use Rattle.chart_core.specs.declared.node.Node.TheFolds.{fold-Node, fold-Arm}
use Rattle.chart_core.specs.declared.node.Arm.{Arm}
use Rattle.chart_core.specs.declared.condition.Condition.{Condition}

-- a step as plain data
pub record PlainStep : Type 0 where
  pub name : List ℕ
  pub role : List ℕ
  pub service : List ℕ
  pub procedure : ℕ
  pub settings : List Setting
  pub finish : Option Formula

-- a chart's nodes as plain data
mutual
  pub data Tree : Type 0 where
    leaf : PlainStep → Tree
    seq : Trees → Tree
    par : Trees → Tree
    choice : Arms → Tree
    loop : Tree → Formula → Tree

  pub data Trees : Type 0 where
    no_trees : Trees
    more_trees : Tree → Trees → Trees

  pub data Arms : Type 0 where
    no_arms : Arms
    more_arms : Formula → Tree → Arms → Arms

-- an arm by itself
pub record PlainArm : Type 0 where
  pub when : Formula
  pub body : Tree

-- plain nodes in a list, as a node holds them
abbrev pub trees_of : List Tree → Trees
trees_of [] = no_trees
trees_of (each ∷ others) = more_trees each (trees_of others)

-- plain arms in a list, as a selection holds them
abbrev pub arms_of : List PlainArm → Arms
arms_of [] = no_arms
arms_of (each ∷ others) = more_arms each.when each.body (arms_of others)

-- the condition of a finish as plain data, where there is one
abbrev pub plain_finish : Option Condition → Option Formula
plain_finish None = None
plain_finish (Some condition) = Some (plain_condition condition)

-- a step as plain data
abbrev pub plain_step : Step → PlainStep
plain_step step =
    record {
      name = step.name;
      role = step.role;
      service = step.service;
      procedure = step.procedure;
      settings = step.settings.items;
      finish = plain_finish step.finish;
    }

-- a node as plain data, where the nodes and arms within it are plain already
abbrev pub node_step : Node-F Tree PlainArm → Tree
node_step (Node-F.Step step) = leaf (plain_step step)
node_step (Node-F.Seq each) = seq (trees_of each.items)
node_step (Node-F.Par each) = par (trees_of each.items)
node_step (Node-F.Sel each) = choice (arms_of each.items)
node_step (Node-F.Loop body until) = loop body.value (plain_condition until)

-- an arm as plain data, where its body is plain already
abbrev pub arm_step : Arm-F Tree PlainArm → PlainArm
arm_step arm = record { when = plain_condition arm.when; body = arm.body }

-- a node and all below it as plain data
abbrev pub plain_node : Node → Tree
plain_node = fold-Node Tree PlainArm node_step arm_step

-- an arm as plain data
abbrev pub plain_arm : Arm → PlainArm
plain_arm = fold-Arm Tree PlainArm node_step arm_step

-- a list of nodes as plain data
abbrev pub trees : List Node → Trees
trees nodes = trees_of (map plain_node nodes)

-- a list of arms as plain data
abbrev pub arms : List Arm → Arms
arms each = arms_of (map plain_arm each)

-- How many nodes a tree has. The node behind a tree whose first node has the number n has the number n + size.
abbrev mutual
  pub size : Tree → ℕ
  size (leaf step) = 1
  size (seq each) = 1 + sizes each
  size (par each) = 1 + sizes each
  size (choice each) = 1 + arm_sizes each
  size (loop body until) = 1 + size body

  pub sizes : Trees → ℕ
  sizes no_trees = 0
  sizes (more_trees each others) = size each + sizes others

  pub arm_sizes : Arms → ℕ
  arm_sizes no_arms = 0
  arm_sizes (more_arms when each others) = size each + arm_sizes others

-- how many arms a selection has
abbrev pub arm_count : Arms → ℕ
arm_count no_arms = 0
arm_count (more_arms when each others) = suc (arm_count others)

-- the conditions of the arms of a selection
abbrev pub arm_conditions : Arms → Formulas
arm_conditions no_arms = no_formulas
arm_conditions (more_arms when each others) = more_formulas when (arm_conditions others)

-- a step with its number
pub record Placed : Type 0 where
  pub number : ℕ
  pub step : PlainStep

-- the steps of a tree whose first node has the number n, in chart order
abbrev mutual
  pub steps : Tree → ℕ → List Placed
  steps (leaf step) n = record { number = n; step = step } ∷ []
  steps (seq each) n = all_steps each (n + 1)
  steps (par each) n = all_steps each (n + 1)
  steps (choice each) n = arm_steps each (n + 1)
  steps (loop body until) n = steps body (n + 1)

  pub all_steps : Trees → ℕ → List Placed
  all_steps no_trees n = []
  all_steps (more_trees each others) n = steps each n ++ all_steps others (n + size each)

  pub arm_steps : Arms → ℕ → List Placed
  arm_steps no_arms n = []
  arm_steps (more_arms when each others) n = steps each n ++ arm_steps others (n + size each)
