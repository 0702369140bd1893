-- A walk through a chart finds the first fault in chart order.
use Rattle.std.specs.Prelude.{ℕ, ◌≡◌, ◌+◌, List, [], ◌∷◌, ◌++◌, Option, Some, None, Ok, Err, refl}
use Rattle.std.proofs.Common.{ap, sym, ◌∙◌, arith}
use Rattle.std.specs.Option.{option_or}
use Rattle.mtp_codes.specs.Faults.{unless}
use Rattle.chart_core.specs.Trees.{Tree, Trees, Arms, leaf, seq, par, choice, loop, no_trees, more_trees, no_arms, more_arms, size, sizes, arm_sizes}
use Rattle.chart_core.specs.Roles.{PlainChart}
use Rattle.chart_core.specs.Valid.{Visit, visit, visits, all_visits, arm_visits, step_count, step_counts, arm_step_counts, node_fault, first_fault, chart_fault}
use Rattle.chart_core.specs.Walks.{Walk, stop_at, and_on, one_on, walked, walked_all, walked_arms}
use Rattle.chart_core.specs.declared.fault.ChartFault.{ChartFault}
use Rattle.chart_core.specs.declared.valid.Reached.{Reached}

-- the first of three faults
or_else_assoc : (one other third : Option ChartFault) → option_or (option_or one other) third
    ≡ option_or one (option_or other third)
or_else_assoc None other third = refl
or_else_assoc (Some fault) other third = refl

-- the first fault of two lists of nodes
pub first_fault_append :
    (chart : PlainChart) (front back : List Visit)
    → first_fault chart (front ++ back) ≡ option_or (first_fault chart front) (first_fault chart back)
first_fault_append chart [] back = refl
first_fault_append chart (node ∷ front) back =
    ap (option_or (node_fault chart node)) (first_fault_append chart front back)
    ∙ sym (or_else_assoc (node_fault chart node) (first_fault chart front) (first_fault chart back))

-- a walk that stops at a fault or goes on
stop_ended : (one other : Option ChartFault) (there : Reached)
    → stop_at one (unless other there) ≡ unless (option_or one other) there
stop_ended None other there = refl
stop_ended (Some fault) other there = refl

-- a walk that goes on behind another
on_ended :
    (one other : Option ChartFault) (there last : Reached) (onward : Reached → Walk)
    → onward there ≡ unless other last → and_on (unless one there) onward ≡ unless (option_or one other) last
on_ended None other there last onward here_ends = here_ends
on_ended (Some fault) other there last onward here_ends = refl

-- behind a tree of so many nodes and steps
abbrev behind : Reached → ℕ → ℕ → Reached
behind here nodes steps = record { number = here.number + nodes; steps = here.steps + steps }

-- behind a node and what is below it
behind_one : (here : Reached) (nodes steps : ℕ) → behind (one_on here) nodes steps ≡ behind here (1 + nodes) steps
behind_one here nodes steps =
    ap (λ each. record { number = each; steps = here.steps + steps })
    (let same : here.number + 1 + nodes ≡ here.number + (1 + nodes) = omega arith in same)

-- behind one tree and another
behind_both :
    (here : Reached) (nodes steps nodes1 steps1 : ℕ)
    → behind (behind here nodes steps) nodes1 steps1 ≡ behind here (nodes + nodes1) (steps + steps1)
behind_both here nodes steps nodes1 steps1 =
    let at_number : here.number + nodes + nodes1 ≡ here.number + (nodes + nodes1) = omega arith in
    let at_step : here.steps + steps + steps1 ≡ here.steps + (steps + steps1) = omega arith in
    ap (λ each. record { number = each; steps = here.steps + steps + steps1 }) at_number
    ∙ ap (λ each. record { number = here.number + (nodes + nodes1); steps = each }) at_step

-- from a node down to its children
down :
    (chart : PlainChart) (node : Visit) (below : List Visit) (onward : Walk) (here : Reached) (nodes steps : ℕ)
    → onward ≡ unless (first_fault chart below) (behind (one_on here) nodes steps)
    → stop_at (node_fault chart node) onward ≡ unless (first_fault chart (node ∷ below)) (behind here (1 + nodes) steps)
down chart node below onward here nodes steps here_ends =
    ap (stop_at (node_fault chart node)) here_ends
    ∙ stop_ended (node_fault chart node) (first_fault chart below) (behind (one_on here) nodes steps)
    ∙ ap (unless (option_or (node_fault chart node) (first_fault chart below))) (behind_one here nodes steps)

-- from one tree to those behind it
across :
    (chart : PlainChart) (front back : List Visit) (one : Walk) (onward : Reached → Walk) (here : Reached)
    (nodes steps nodes1 steps1 : ℕ)
    → one ≡ unless (first_fault chart front) (behind here nodes steps)
    → onward (behind here nodes steps) ≡ unless (first_fault chart back)
    (behind (behind here nodes steps) nodes1 steps1)
    → and_on one onward ≡ unless (first_fault chart (front ++ back)) (behind here (nodes + nodes1) (steps + steps1))
across chart front back one onward here nodes steps nodes1 steps1 here_ends there_ends =
    ap (λ walk. and_on walk onward) here_ends
    ∙ on_ended (first_fault chart front) (first_fault chart back) (behind here nodes steps)
    (behind here (nodes + nodes1) (steps + steps1)) onward
    (there_ends ∙ ap (unless (first_fault chart back)) (behind_both here nodes steps nodes1 steps1))
    ∙ ap (λ fault. unless fault (behind here (nodes + nodes1) (steps + steps1)))
    (sym (first_fault_append chart front back))

-- behind no tree
none_behind : (here : Reached) → here ≡ behind here 0 0
none_behind here =
    let at_number : here.number ≡ here.number + 0 = omega arith in
    let at_step : here.steps ≡ here.steps + 0 = omega arith in
    ap (λ each. record { number = each; steps = here.steps }) at_number
    ∙ ap (λ each. record { number = here.number + 0; steps = each }) at_step

-- A walk through a tree, some trees or some arms stops at their first fault, or comes behind them.
mutual
  pub walk_ends :
      (chart : PlainChart) (each : Tree) (depth : ℕ) (here : Reached)
      → walked chart each depth here ≡ unless (first_fault chart (visits each here.number depth here.steps))
      (behind here (size each) (step_count each))
  walk_ends chart (leaf step) depth here =
      stop_ended (node_fault chart (visit (leaf step) here.number depth here.steps)) None (behind here 1 1)
  walk_ends chart (seq each) depth here =
      down chart (visit (seq each) here.number depth here.steps)
      (all_visits each (here.number + 1) (depth + 1) here.steps)
      (walked_all chart each (depth + 1) (one_on here)) here (sizes each) (step_counts each)
      (walk_all_ends chart each (depth + 1) (one_on here))
  walk_ends chart (par each) depth here =
      down chart (visit (par each) here.number depth here.steps)
      (all_visits each (here.number + 1) (depth + 1) here.steps)
      (walked_all chart each (depth + 1) (one_on here)) here (sizes each) (step_counts each)
      (walk_all_ends chart each (depth + 1) (one_on here))
  walk_ends chart (choice each) depth here =
      down chart (visit (choice each) here.number depth here.steps)
      (arm_visits each (here.number + 1) (depth + 1) here.steps)
      (walked_arms chart each (depth + 1) (one_on here)) here (arm_sizes each) (arm_step_counts each)
      (walk_arms_ends chart each (depth + 1) (one_on here))
  walk_ends chart (loop body until) depth here =
      down chart (visit (loop body until) here.number depth here.steps)
      (visits body (here.number + 1) (depth + 1) here.steps)
      (walked chart body (depth + 1) (one_on here)) here (size body) (step_count body)
      (walk_ends chart body (depth + 1) (one_on here))

  pub walk_all_ends :
      (chart : PlainChart) (each : Trees) (depth : ℕ) (here : Reached)
      → walked_all chart each depth here
      ≡ unless (first_fault chart (all_visits each here.number depth here.steps))
      (behind here (sizes each) (step_counts each))
  walk_all_ends chart no_trees depth here = ap Ok (none_behind here)
  walk_all_ends chart (more_trees each others) depth here =
      across chart (visits each here.number depth here.steps)
      (all_visits others (here.number + size each) depth (here.steps + step_count each))
      (walked chart each depth here) (walked_all chart others depth) here (size each) (step_count each) (sizes others)
      (step_counts others)
      (walk_ends chart each depth here) (walk_all_ends chart others depth (behind here (size each) (step_count each)))

  pub walk_arms_ends :
      (chart : PlainChart) (each : Arms) (depth : ℕ) (here : Reached)
      → walked_arms chart each depth here
      ≡ unless (first_fault chart (arm_visits each here.number depth here.steps))
      (behind here (arm_sizes each) (arm_step_counts each))
  walk_arms_ends chart no_arms depth here = ap Ok (none_behind here)
  walk_arms_ends chart (more_arms when each others) depth here =
      across chart (visits each here.number depth here.steps)
      (arm_visits others (here.number + size each) depth (here.steps + step_count each))
      (walked chart each depth here) (walked_arms chart others depth) here (size each) (step_count each)
      (arm_sizes others) (arm_step_counts others)
      (walk_ends chart each depth here) (walk_arms_ends chart others depth (behind here (size each) (step_count each)))

-- a walk that came to its end met no fault
clear : (one : Option ChartFault) (there : Reached) (last : Reached) → unless one there ≡ Ok last → one ≡ None
clear None there last ended = refl
clear (Some fault) there last ended = cc

-- a walk that stopped met the fault
stopped : (one : Option ChartFault) (there : Reached) (fault : ChartFault) → unless one there ≡ Err fault
    → one ≡ Some fault
stopped None there fault ended = cc
stopped (Some found) there fault ended = cc

-- where the walk through the whole chart comes to its end, the chart has no fault
pub walk_clear :
    (chart : PlainChart) (here last : Reached) → here.number ≡ 0 → here.steps ≡ 0
    → walked chart chart.root 1 here ≡ Ok last → chart_fault chart ≡ None
walk_clear chart here last at_number at_step ended =
    let same : chart_fault chart ≡ first_fault chart (visits chart.root here.number 1 here.steps)
    = ap (λ each. first_fault chart (visits chart.root each 1 0)) (sym at_number)
    ∙ ap (λ each. first_fault chart (visits chart.root here.number 1 each)) (sym at_step) in
    same ∙ clear _ (behind here (size chart.root) (step_count chart.root)) last
    (sym (walk_ends chart chart.root 1 here) ∙ ended)

-- where it stops at a fault, this is the chart's first
pub walk_stopped :
    (chart : PlainChart) (here : Reached) (fault : ChartFault) → here.number ≡ 0 → here.steps ≡ 0
    → walked chart chart.root 1 here ≡ Err fault
    → chart_fault chart ≡ Some fault
walk_stopped chart here fault at_number at_step ended =
    let same : chart_fault chart ≡ first_fault chart (visits chart.root here.number 1 here.steps)
    = ap (λ each. first_fault chart (visits chart.root each 1 0)) (sym at_number)
    ∙ ap (λ each. first_fault chart (visits chart.root here.number 1 each)) (sym at_step) in
    same ∙ stopped _ (behind here (size chart.root) (step_count chart.root)) fault
    (sym (walk_ends chart chart.root 1 here) ∙ ended)
