-- A walk through a chart that stops at the first fault.
use Rattle.std.specs.Prelude.{ℕ, ◌+◌, Result, Ok, Err, Option, Some, None}
use Rattle.chart_core.specs.Trees.{Tree, Trees, Arms, leaf, seq, par, choice, loop, no_trees, more_trees, no_arms, more_arms}
use Rattle.chart_core.specs.Roles.{PlainChart}
use Rattle.chart_core.specs.Valid.{visit, node_fault}
use Rattle.chart_core.specs.declared.fault.ChartFault.{ChartFault}
use Rattle.chart_core.specs.declared.valid.Reached.{Reached}

-- how far a walk has come, or the fault at which it stopped
abbrev pub Walk : Type 0
Walk = Result Reached ChartFault

-- a walk that stops at this fault, if there is one, or goes on
abbrev pub stop_at : Option ChartFault → Walk → Walk
stop_at None onward = onward
stop_at (Some fault) onward = Err fault

-- one walk and then another
abbrev pub and_on : Walk → (Reached → Walk) → Walk
and_on (Ok here) onward = onward here
and_on (Err fault) onward = Err fault

-- the next node
abbrev pub one_on : Reached → Reached
one_on here = record { number = here.number + 1; steps = here.steps }

-- the next node, behind a step
abbrev pub step_on : Reached → Reached
step_on here = record { number = here.number + 1; steps = here.steps + 1 }

-- the walk through a tree at this depth, from here
abbrev mutual
  pub walked : PlainChart → Tree → ℕ → Reached → Walk
  walked chart (leaf step) depth here =
      stop_at (node_fault chart (visit (leaf step) here.number depth here.steps)) (Ok (step_on here))
  walked chart (seq each) depth here =
      stop_at (node_fault chart (visit (seq each) here.number depth here.steps))
      (walked_all chart each (depth + 1) (one_on here))
  walked chart (par each) depth here =
      stop_at (node_fault chart (visit (par each) here.number depth here.steps))
      (walked_all chart each (depth + 1) (one_on here))
  walked chart (choice each) depth here =
      stop_at (node_fault chart (visit (choice each) here.number depth here.steps))
      (walked_arms chart each (depth + 1) (one_on here))
  walked chart (loop body until) depth here =
      stop_at (node_fault chart (visit (loop body until) here.number depth here.steps))
      (walked chart body (depth + 1) (one_on here))

  pub walked_all : PlainChart → Trees → ℕ → Reached → Walk
  walked_all chart no_trees depth here = Ok here
  walked_all chart (more_trees each others) depth here = and_on (walked chart each depth here)
      (walked_all chart others depth)

  pub walked_arms : PlainChart → Arms → ℕ → Reached → Walk
  walked_arms chart no_arms depth here = Ok here
  walked_arms chart (more_arms when each others) depth here =
      and_on (walked chart each depth here) (walked_arms chart others depth)
