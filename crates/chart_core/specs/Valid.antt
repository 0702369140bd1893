-- Which charts are valid, and the first fault of one that isn't.
use Rattle.std.specs.Prelude.{ℕ, ◌+◌, ◌-◌, ◌≡◌, length, List, [], ◌∷◌, ◌++◌, Bool, false, not, ◌&&◌, ◌||◌, nat_lt, nat_le, Option, Some, None, if◌then◌else◌}
use Rattle.std.specs.Option.{option_or}
use Rattle.mtp_codes.specs.Faults.{when, first_of}
use Rattle.mtp_codes.specs.Names.{is_among, same_name}
use Rattle.chart_core.specs.declared.limits.TheConstants.{MOST_READS, DEEPEST_NODE, MOST_STEPS}
use Rattle.chart_core.specs.Formulas.{Formula, Formulas, constant, all_of, any_of, not_of, test, no_formulas, more_formulas}
use Rattle.chart_core.specs.Reads.{reads_of}
use Rattle.chart_core.specs.Trees.{PlainStep, Tree, Trees, Arms, leaf, seq, par, choice, loop, no_trees, more_trees, no_arms, more_arms, size, arm_conditions}
use Rattle.chart_core.specs.Roles.{PlainChart, role_names}
use Rattle.chart_core.specs.declared.fault.ChartFault.{ChartFault}
use Rattle.chart_core.specs.declared.fault.ChartFault.TheVariants.{TooDeep, TooManySteps, StepTwice, UnknownRole, SameService, TooManyReads}

-- how many steps a tree has
abbrev mutual
  pub step_count : Tree → ℕ
  step_count (leaf step) = 1
  step_count (seq each) = step_counts each
  step_count (par each) = step_counts each
  step_count (choice each) = arm_step_counts each
  step_count (loop body until) = step_count body

  pub step_counts : Trees → ℕ
  step_counts no_trees = 0
  step_counts (more_trees each others) = step_count each + step_counts others

  pub arm_step_counts : Arms → ℕ
  arm_step_counts no_arms = 0
  arm_step_counts (more_arms when each others) = step_count each + arm_step_counts others

-- A node as it is met in chart order: its number, its depth, how many steps come before it, the step that it is, and
-- the conditions by which it decides.
pub record Visit : Type 0 where
  pub number : ℕ
  pub depth : ℕ
  pub earlier : ℕ
  pub step : Option PlainStep
  pub conditions : Formulas

-- the conditions of a step's finish
abbrev pub finish_conditions : Option Formula → Formulas
finish_conditions None = no_formulas
finish_conditions (Some condition) = more_formulas condition no_formulas

-- a tree's first node, as it is met in chart order
abbrev pub visit : Tree → ℕ → ℕ → ℕ → Visit
visit (leaf step) n depth earlier =
    record {
      number = n;
      depth = depth;
      earlier = earlier;
      step = Some step;
      conditions =
          finish_conditions step.finish;
    }
visit (seq each) n depth earlier = record {
  number = n;
  depth = depth;
  earlier = earlier;
  step =
      None;
  conditions = no_formulas;
}
visit (par each) n depth earlier = record {
  number = n;
  depth = depth;
  earlier = earlier;
  step =
      None;
  conditions = no_formulas;
}
visit (choice each) n depth earlier =
    record { number = n; depth = depth; earlier = earlier; step = None; conditions = arm_conditions each }
visit (loop body until) n depth earlier =
    record { number = n; depth = depth; earlier = earlier; step = None; conditions = more_formulas until no_formulas }

-- The nodes of a tree in chart order: a node before its children, children from first to last. Its first node has the
-- number n and this depth, and this many steps come before it.
abbrev mutual
  pub visits : Tree → ℕ → ℕ → ℕ → List Visit
  visits (leaf step) n depth earlier = visit (leaf step) n depth earlier ∷ []
  visits (seq each) n depth earlier = visit (seq each) n depth earlier ∷ all_visits each (n + 1) (depth + 1) earlier
  visits (par each) n depth earlier = visit (par each) n depth earlier ∷ all_visits each (n + 1) (depth + 1) earlier
  visits (choice each) n depth earlier = visit (choice each) n depth earlier ∷ arm_visits each (n + 1)
      (depth + 1) earlier
  visits (loop body until) n depth earlier = visit (loop body until) n depth earlier ∷ visits body (n + 1)
      (depth + 1) earlier

  pub all_visits : Trees → ℕ → ℕ → ℕ → List Visit
  all_visits no_trees n depth earlier = []
  all_visits (more_trees each others) n depth earlier =
      visits each n depth earlier ++ all_visits others (n + size each) depth (earlier + step_count each)

  pub arm_visits : Arms → ℕ → ℕ → ℕ → List Visit
  arm_visits no_arms n depth earlier = []
  arm_visits (more_arms when each others) n depth earlier =
      visits each n depth earlier ++ arm_visits others (n + size each) depth (earlier + step_count each)

-- one of the first `count` nodes of the tree is a step with this name
abbrev mutual
  pub has_name : Tree → ℕ → List ℕ → Bool
  has_name (leaf step) count name = nat_lt 0 count && same_name step.name name
  has_name (seq each) count name = some_has_name each (count - 1) name
  has_name (par each) count name = some_has_name each (count - 1) name
  has_name (choice each) count name = arm_has_name each (count - 1) name
  has_name (loop body until) count name = has_name body (count - 1) name

  pub some_has_name : Trees → ℕ → List ℕ → Bool
  some_has_name no_trees count name = false
  some_has_name (more_trees each others) count name = has_name each count name || some_has_name others
      (count - size each) name

  pub arm_has_name : Arms → ℕ → List ℕ → Bool
  arm_has_name no_arms count name = false
  arm_has_name (more_arms when each others) count name = has_name each count name || arm_has_name others
      (count - size each) name

-- some step of the tree has this role and this service
abbrev mutual
  pub uses : Tree → List ℕ → List ℕ → Bool
  uses (leaf step) role service = same_name step.role role && same_name step.service service
  uses (seq each) role service = some_uses each role service
  uses (par each) role service = some_uses each role service
  uses (choice each) role service = arm_uses each role service
  uses (loop body until) role service = uses body role service

  pub some_uses : Trees → List ℕ → List ℕ → Bool
  some_uses no_trees role service = false
  some_uses (more_trees each others) role service = uses each role service || some_uses others role service

  pub arm_uses : Arms → List ℕ → List ℕ → Bool
  arm_uses no_arms role service = false
  arm_uses (more_arms when each others) role service = uses each role service || arm_uses others role service

-- The step at this place (the tree's first node has place 0) clashes: in a parallel above it, a branch before its own
-- has a step of this role and service.
abbrev mutual
  pub clashes : Tree → ℕ → List ℕ → List ℕ → Bool
  clashes (leaf step) place role service = false
  clashes (seq each) place role service = clashes_in_turn each (place - 1) role service
  clashes (par each) place role service = clashes_at_once each (place - 1) role service
  clashes (choice each) place role service = clashes_in_arms each (place - 1) role service
  clashes (loop body until) place role service = clashes body (place - 1) role service

  pub clashes_in_turn : Trees → ℕ → List ℕ → List ℕ → Bool
  clashes_in_turn no_trees place role service = false
  clashes_in_turn (more_trees each others) place role service =
      if nat_lt place (size each) then clashes each place role service
      else clashes_in_turn others (place - size each) role service

  pub clashes_at_once : Trees → ℕ → List ℕ → List ℕ → Bool
  clashes_at_once no_trees place role service = false
  clashes_at_once (more_trees each others) place role service =
      if nat_lt place (size each) then clashes each place role service
      else (uses each role service || clashes_at_once others (place - size each) role service)

  pub clashes_in_arms : Arms → ℕ → List ℕ → List ℕ → Bool
  clashes_in_arms no_arms place role service = false
  clashes_in_arms (more_arms when each others) place role service =
      if nat_lt place (size each) then clashes each place role service
      else clashes_in_arms others (place - size each) role service

-- the condition reads a role that isn't one of these
abbrev mutual
  pub reads_unknown : Formula → List (List ℕ) → Bool
  reads_unknown (constant value) roles = false
  reads_unknown (all_of each) roles = some_reads_unknown each roles
  reads_unknown (any_of each) roles = some_reads_unknown each roles
  reads_unknown (not_of inner) roles = reads_unknown inner roles
  reads_unknown (test role variable op value) roles = not (is_among roles role)

  pub some_reads_unknown : Formulas → List (List ℕ) → Bool
  some_reads_unknown no_formulas roles = false
  some_reads_unknown (more_formulas each others) roles = reads_unknown each roles || some_reads_unknown others roles

-- the node is a step with this property
abbrev pub on_step : Option PlainStep → (PlainStep → Bool) → Bool
on_step None property = false
on_step (Some step) property = property step

-- The faults that one node may have, in the order in which they are asked: it lies deeper than 16; it is the 257th
-- step; an earlier step has its name; it has or reads a role that the chart hasn't; an earlier step in another branch
-- of a common parallel has its role and service; it reads more than four variables.
abbrev pub node_faults : PlainChart → Visit → List (Option ChartFault)
node_faults chart node =
    when (nat_lt DEEPEST_NODE node.depth) (TooDeep node.number)
    ∷ when (on_step node.step (λ step. nat_le MOST_STEPS node.earlier)) (TooManySteps node.number)
    ∷ when (on_step node.step (λ step. has_name chart.root node.number step.name)) (StepTwice node.number)
    ∷ when
    (on_step node.step (λ step. not (is_among (role_names chart) step.role))
    || some_reads_unknown node.conditions (role_names chart))
    (UnknownRole node.number)
    ∷ when (on_step node.step (λ step. clashes chart.root node.number step.role step.service)) (SameService node.number)
    ∷ when (nat_lt MOST_READS (length (reads_of node.conditions))) (TooManyReads node.number)
    ∷ []

-- the first fault of one node
abbrev pub node_fault : PlainChart → Visit → Option ChartFault
node_fault chart node = first_of (node_faults chart node)

-- the first fault of the first of these nodes that has one
abbrev pub first_fault : PlainChart → List Visit → Option ChartFault
first_fault chart [] = None
first_fault chart (node ∷ others) = option_or (node_fault chart node) (first_fault chart others)

-- the first fault of the chart: of the first node in chart order that has one
abbrev pub chart_fault : PlainChart → Option ChartFault
chart_fault chart = first_fault chart (visits chart.root 0 1 0)

-- no node of the chart has a fault
abbrev pub IsValid : PlainChart → Type 0
IsValid chart = chart_fault chart ≡ None
