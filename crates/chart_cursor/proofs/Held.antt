-- The running steps that are to be held or unheld are active steps of the log.
use Rattle.std.proofs.Common.{◌≡◌, ℕ, Bool, true, false, cond, List, [], ◌∷◌, ◌++◌, map, None, refl, ap, ◌∙◌}
use Rattle.std.specs.Prelude.{◌&&◌}
use Rattle.std.specs.Option.{option_or}
use Rattle.chart_core.specs.Active.{Phase, is_running, active_steps}
use Rattle.chart_core.specs.Progress.{Marks, Stands}
use Rattle.chart_core.specs.Roles.{PlainChart}
use Rattle.chart_core.specs.Runs.{word, course_of}
use Rattle.chart_core.specs.Trees.{PlainStep, Placed, Tree, leaf, seq, par, choice, loop}
use Rattle.chart_core.specs.Valid.{IsValid}
use Rattle.chart_core.specs.declared.entry.LogEntry.{LogEntry}
use Rattle.chart_cursor.specs.Holding.{numbered, hold_node, first_hold_node, under_way, unhold_node, first_unhold_node}
use Rattle.chart_cursor.specs.NextEntry.{hold_step, first_hold, is_under_way, unhold_row, first_unhold}
use Rattle.chart_cursor.specs.OpenNodes.{OpenNode, phase_of, open_nodes, first_next}
use Rattle.chart_cursor.specs.Ready.{on_sight}
use Rattle.chart_cursor.specs.Sights.{Sights, tag_of}
use Rattle.chart_cursor.specs.declared.next.CursorNext.{CursorNext}
use Rattle.chart_cursor.specs.declared.next.CursorNext.TheVariants.{Whole}
use Rattle.chart_cursor.proofs.Actives.{run_of, runs, runs_active}

-- the steps alone
abbrev pub steps_of : List Placed → List PlainStep
steps_of placed = map (λ placed. placed.step) placed

-- the first to be held of an open node, else of the steps behind it, is the first of these steps with the node's own
-- before them
hold_one : (seen : Sights) (test : ℕ → Bool) (number : ℕ) (node : Tree) (phase : Phase) (rest : List Placed)
    → option_or (hold_node seen test number node phase) (first_hold seen (steps_of (numbered test rest)))
    ≡ first_hold seen (steps_of (numbered test (run_of number node phase ++ rest)))
hold_one seen test number (leaf step) phase rest = go (is_running phase) (test number) refl
  where
    go : (lives passes : Bool) → test number ≡ passes
        → option_or (cond passes (cond lives (hold_step step (tag_of seen step.role) (seen.view step.role step.service))
        None) None) (first_hold seen (steps_of (numbered test rest)))
        ≡ first_hold seen (steps_of (numbered test
        (cond lives (record { number = number; step = step } ∷ []) [] ++ rest)))
    go true true tested = rw tested refl
    go true false tested = rw tested refl
    go false true tested = refl
    go false false tested = refl
hold_one seen test number (seq each) phase rest = refl
hold_one seen test number (par each) phase rest = refl
hold_one seen test number (choice each) phase rest = refl
hold_one seen test number (loop body until) phase rest = refl

-- the first to be held among open nodes is the first among their running steps
hold_among : (seen : Sights) (test : ℕ → Bool) (open_nodes : List OpenNode)
    → first_hold_node seen test open_nodes ≡ first_hold seen (steps_of (numbered test (runs open_nodes)))
hold_among seen test [] = refl
hold_among seen test (spot ∷ open_nodes) =
    ap (option_or (hold_node seen test spot.number spot.node (phase_of spot.progress)))
    (hold_among seen test open_nodes)
    ∙ hold_one seen test spot.number spot.node (phase_of spot.progress) (runs open_nodes)

-- The first to be held of a chart's running steps by its marks is the first of the active steps of the log.
pub hold_active :
    (chart : PlainChart) (marks : Marks) (log : List LogEntry) (seen : Sights) (test : ℕ → Bool) → IsValid chart
    → Stands (course_of chart) marks (word log)
    → first_hold_node seen test (open_nodes chart.root 0 marks)
    ≡ first_hold seen (steps_of (numbered test (active_steps chart log)))
hold_active chart marks log seen test valid stands =
    hold_among seen test (open_nodes chart.root 0 marks)
    ∙ ap (λ each. first_hold seen (steps_of (numbered test each))) (runs_active chart marks log valid stands)

-- the same of what comes next of the steps that were held
unhold_one : (seen : Sights) (test : ℕ → Bool) (number : ℕ) (node : Tree) (phase : Phase) (rest : List Placed)
    → first_next (unhold_node seen test number node phase)
    (first_unhold seen (under_way seen (steps_of (numbered test rest))))
    ≡ first_unhold seen (under_way seen (steps_of (numbered test (run_of number node phase ++ rest))))
unhold_one seen test number (leaf step) phase rest =
    go (is_running phase) (test number) refl (is_under_way (seen.view step.role step.service)) refl
  where
    next : CursorNext
    next = on_sight step (tag_of seen step.role) (seen.view step.role step.service)
        (unhold_row step (tag_of seen step.role))

    go : (lives passes : Bool) → test number ≡ passes → (goes : Bool)
        → is_under_way (seen.view step.role step.service) ≡ goes
        → first_next (cond passes (cond (lives && goes) next Whole) Whole)
        (first_unhold seen (under_way seen (steps_of (numbered test rest))))
        ≡ first_unhold seen (under_way seen (steps_of (numbered test
        (cond lives (record { number = number; step = step } ∷ []) [] ++ rest))))
    go true true tested true under = rw (tested, under) refl
    go true true tested false under = rw (tested, under) refl
    go true false tested goes under = rw tested refl
    go false true tested goes under = refl
    go false false tested goes under = refl
unhold_one seen test number (seq each) phase rest = refl
unhold_one seen test number (par each) phase rest = refl
unhold_one seen test number (choice each) phase rest = refl
unhold_one seen test number (loop body until) phase rest = refl

-- what comes next of open nodes that were held is what comes next of their running steps that were
unhold_among : (seen : Sights) (test : ℕ → Bool) (open_nodes : List OpenNode)
    → first_unhold_node seen test open_nodes
    ≡ first_unhold seen (under_way seen (steps_of (numbered test (runs open_nodes))))
unhold_among seen test [] = refl
unhold_among seen test (spot ∷ open_nodes) =
    ap (first_next (unhold_node seen test spot.number spot.node (phase_of spot.progress)))
    (unhold_among seen test open_nodes)
    ∙ unhold_one seen test spot.number spot.node (phase_of spot.progress) (runs open_nodes)

-- What comes next of a chart's running steps that were held, by its marks, comes next of the active steps of the log.
pub unhold_active :
    (chart : PlainChart) (marks : Marks) (log : List LogEntry) (seen : Sights) (test : ℕ → Bool) → IsValid chart
    → Stands (course_of chart) marks (word log)
    → first_unhold_node seen test (open_nodes chart.root 0 marks)
    ≡ first_unhold seen (under_way seen (steps_of (numbered test (active_steps chart log))))
unhold_active chart marks log seen test valid stands =
    unhold_among seen test (open_nodes chart.root 0 marks)
    ∙ ap (λ each. first_unhold seen (under_way seen (steps_of (numbered test each))))
    (runs_active chart marks log valid stands)
