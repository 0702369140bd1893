-- The nodes of a valid chart lie at most 16 deep.
use Rattle.std.proofs.Common.{◌≡◌, ℕ, ◌+◌, ◌≤◌, List, [], ◌∷◌, ◌++◌, Option, None, refl, arith}
use Rattle.std.specs.Prelude.{nat_lt}
use Rattle.std.proofs.lemmas.Bool.{ltb-false}
use Rattle.std.specs.Option.{option_or}
use Rattle.mtp_codes.specs.Faults.{when}
use Rattle.chart_core.specs.declared.limits.TheConstants.{DEEPEST_NODE}
use Rattle.chart_core.specs.Roles.{PlainChart}
use Rattle.chart_core.specs.Trees.{Tree, Trees, Arms, leaf, seq, par, choice, loop, no_trees, more_trees, no_arms, more_arms, size}
use Rattle.chart_core.specs.Valid.{Visit, visit, visits, all_visits, arm_visits, step_count, node_fault, first_fault, IsValid}
use Rattle.chart_core.specs.declared.fault.ChartFault.{ChartFault}
use Rattle.chart_core.specs.declared.fault.ChartFault.TheVariants.{TooDeep}
use Rattle.chart_core.proofs.Validity.{first_clear, no_fault}
use Rattle.chart_json.specs.Levels.{levels, all_levels, arm_levels}

-- a node with no fault lies at most 16 deep
node_shallow : (chart : PlainChart) (node : Visit) (rest : Option ChartFault)
    → option_or (when (nat_lt DEEPEST_NODE node.depth) (TooDeep node.number)) rest ≡ None → node.depth ≤ DEEPEST_NODE
node_shallow chart node rest none =
    ltb-false DEEPEST_NODE node.depth
    (no_fault (nat_lt DEEPEST_NODE node.depth) (TooDeep node.number)
    (first_clear (when (nat_lt DEEPEST_NODE node.depth) (TooDeep node.number)) rest none).0)

-- visits without a fault are without one in each of two parts
both_clear : (chart : PlainChart) (xs ys : List Visit) → first_fault chart (xs ++ ys) ≡ None
    → (first_fault chart xs ≡ None) × (first_fault chart ys ≡ None)
both_clear chart [] ys none = (refl, none)
both_clear chart (x ∷ xs) ys none =
    let first = first_clear (node_fault chart x) (first_fault chart (xs ++ ys)) none in
    let rest = both_clear chart xs ys first.1 in
    (rw first.0 rest.0, rest.1)

mutual
  -- a node without a fault has at most 17 levels with those above it
  shallow : (chart : PlainChart) (t : Tree) (n d k : ℕ) → first_fault chart (visits t n d k) ≡ None → levels t + d ≤ 17
  shallow chart (leaf step) n d k none =
      let here : d ≤ DEEPEST_NODE = node_shallow chart (visit (leaf step) n d k) _
      (first_clear (node_fault chart (visit (leaf step) n d k)) None none).0 in omega arith
  shallow chart (seq each) n d k none =
      let parts = first_clear (node_fault chart (visit (seq each) n d k))
      (first_fault chart (all_visits each (n + 1) (d + 1) k)) none in
      let here : d ≤ DEEPEST_NODE = node_shallow chart (visit (seq each) n d k) _ parts.0 in
      omega (arith, all_shallow chart each (n + 1) (d + 1) k parts.1 (omega arith))
  shallow chart (par each) n d k none =
      let parts = first_clear (node_fault chart (visit (par each) n d k))
      (first_fault chart (all_visits each (n + 1) (d + 1) k)) none in
      let here : d ≤ DEEPEST_NODE = node_shallow chart (visit (par each) n d k) _ parts.0 in
      omega (arith, all_shallow chart each (n + 1) (d + 1) k parts.1 (omega arith))
  shallow chart (choice each) n d k none =
      let parts = first_clear (node_fault chart (visit (choice each) n d k))
      (first_fault chart (arm_visits each (n + 1) (d + 1) k)) none in
      let here : d ≤ DEEPEST_NODE = node_shallow chart (visit (choice each) n d k) _ parts.0 in
      omega (arith, arms_shallow chart each (n + 1) (d + 1) k parts.1 (omega arith))
  shallow chart (loop body until) n d k none =
      let parts = first_clear (node_fault chart (visit (loop body until) n d k))
      (first_fault chart (visits body (n + 1) (d + 1) k)) none in
      omega (arith, shallow chart body (n + 1) (d + 1) k parts.1)

  -- and so have some nodes
  all_shallow : (chart : PlainChart) (ts : Trees) (n d k : ℕ) → first_fault chart (all_visits ts n d k) ≡ None → d ≤ 17
      → all_levels ts + d ≤ 17
  all_shallow chart no_trees n d k none few = omega arith
  all_shallow chart (more_trees t ts) n d k none few =
      let parts = both_clear chart (visits t n d k) (all_visits ts (n + size t) d (k + step_count t)) none in
      omega (arith, shallow chart t n d k parts.0, all_shallow chart ts (n + size t) d (k + step_count t) parts.1 few)

  -- and some arms
  arms_shallow : (chart : PlainChart) (ts : Arms) (n d k : ℕ) → first_fault chart (arm_visits ts n d k) ≡ None → d ≤ 17
      → arm_levels ts + d ≤ 17
  arms_shallow chart no_arms n d k none few = omega arith
  arms_shallow chart (more_arms when t ts) n d k none few =
      let parts = both_clear chart (visits t n d k) (arm_visits ts (n + size t) d (k + step_count t)) none in
      omega (arith, shallow chart t n d k parts.0, arms_shallow chart ts (n + size t) d (k + step_count t) parts.1 few)

-- a valid chart's nodes lie at most 16 deep
pub valid_shallow : (chart : PlainChart) → IsValid chart → levels chart.root ≤ DEEPEST_NODE
valid_shallow chart valid = omega (arith, shallow chart chart.root 0 1 0 valid)
