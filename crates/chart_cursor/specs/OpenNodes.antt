-- The open nodes of a chart by its marks, in chart order.
use Rattle.std.specs.Prelude.{ℕ, ◌+◌, zero, suc, List, [], ◌∷◌, ◌++◌, Bool, if◌then◌else◌}
use Rattle.chart_core.specs.declared.progress.Progress.{Progress}
use Rattle.chart_core.specs.declared.progress.Progress.TheVariants.{Untouched, Begun, Finished, WasReset, Ended, Chosen, Left}
use Rattle.chart_core.specs.Trees.{Tree, Trees, Arms, leaf, seq, par, choice, loop, no_trees, more_trees, no_arms, more_arms, size}
use Rattle.chart_core.specs.Runs.{course}
use Rattle.chart_core.specs.Active.{Phase, idle, started, finished, was_reset}
use Rattle.chart_core.specs.Progress.{Marks}
use Rattle.chart_core.specs.Changes.{is_done}
use Rattle.chart_cursor.specs.declared.next.CursorNext.{CursorNext}
use Rattle.chart_cursor.specs.declared.next.CursorNext.TheVariants.{Entry, Wait, Whole}
use Rattle.chart_cursor.specs.Sights.{Sights}
use Rattle.chart_cursor.specs.Ready.{node_ready}

-- the phase of a step that has come so far
abbrev pub phase_of : Progress → Phase
phase_of Untouched = idle
phase_of Begun = started
phase_of Finished = finished
phase_of WasReset = was_reset
phase_of Ended = idle
phase_of (Chosen arm) = idle
phase_of Left = idle

-- an open node: its number, the node, and how far it has come
pub record OpenNode : Type 0 where
  pub number : ℕ
  pub node : Tree
  pub progress : Progress

-- this open node alone
abbrev pub spot_at : ℕ → Tree → Progress → List OpenNode
spot_at n node progress = record { number = n; node = node; progress = progress } ∷ []

-- a step is open until it has ended
abbrev pub open_in_step : ℕ → Tree → Progress → List OpenNode
open_in_step n node Untouched = spot_at n node Untouched
open_in_step n node Begun = spot_at n node Begun
open_in_step n node Finished = spot_at n node Finished
open_in_step n node WasReset = spot_at n node WasReset
open_in_step n node Ended = []
open_in_step n node (Chosen arm) = []
open_in_step n node Left = []

-- a selection is open itself until it has chosen; then what is open in its arm
abbrev pub open_in_choice : ℕ → Tree → (ℕ → List OpenNode) → Progress → List OpenNode
open_in_choice n node arm Untouched = spot_at n node Untouched
open_in_choice n node arm Begun = []
open_in_choice n node arm Finished = []
open_in_choice n node arm WasReset = []
open_in_choice n node arm Ended = []
open_in_choice n node arm (Chosen place) = arm place
open_in_choice n node arm Left = []

-- a loop is open itself where its body is done; else what is open in its body; nothing once it was left
abbrev pub open_in_loop : ℕ → Tree → Bool → List OpenNode → Progress → List OpenNode
open_in_loop n node done body Untouched = if done then spot_at n node Untouched else body
open_in_loop n node done body Begun = []
open_in_loop n node done body Finished = []
open_in_loop n node done body WasReset = []
open_in_loop n node done body Ended = []
open_in_loop n node done body (Chosen arm) = []
open_in_loop n node done body Left = []

-- the open nodes of a tree whose first node has the number n
abbrev mutual
  pub open_nodes : Tree → ℕ → Marks → List OpenNode
  open_nodes (leaf step) n marks = open_in_step n (leaf step) (marks n)
  open_nodes (seq each) n marks = open_in_seq each (n + 1) marks
  open_nodes (par each) n marks = open_in_par each (n + 1) marks
  open_nodes (choice each) n marks =
      open_in_choice n (choice each) (λ arm. open_in_arm each (n + 1) arm marks) (marks n)
  open_nodes (loop body until) n marks =
      open_in_loop n (loop body until) (is_done (course body (n + 1)) marks) (open_nodes body (n + 1) marks) (marks n)

  pub open_in_seq : Trees → ℕ → Marks → List OpenNode
  open_in_seq no_trees n marks = []
  open_in_seq (more_trees each others) n marks =
      if is_done (course each n) marks then open_in_seq others (n + size each) marks else open_nodes each n marks

  pub open_in_par : Trees → ℕ → Marks → List OpenNode
  open_in_par no_trees n marks = []
  open_in_par (more_trees each others) n marks = open_nodes each n marks ++ open_in_par others (n + size each) marks

  pub open_in_arm : Arms → ℕ → ℕ → Marks → List OpenNode
  open_in_arm no_arms n place marks = []
  open_in_arm (more_arms when each others) n zero marks = open_nodes each n marks
  open_in_arm (more_arms when each others) n (suc place) marks = open_in_arm others (n + size each) place marks

-- which of two comes next: the first entry; else the first obstacle
abbrev pub first_next : CursorNext → CursorNext → CursorNext
first_next (Entry entry) other = Entry entry
first_next (Wait obstacle) (Entry entry) = Entry entry
first_next (Wait obstacle) (Wait later) = Wait obstacle
first_next (Wait obstacle) Whole = Wait obstacle
first_next Whole other = other

-- what an open node is ready for, or its obstacle
abbrev pub open_node_ready : Sights → OpenNode → CursorNext
open_node_ready seen spot = node_ready seen spot.number spot.node (phase_of spot.progress)

-- the entry of the first of these open nodes that is ready; else the obstacle of the first of them
abbrev pub first_among : Sights → List OpenNode → CursorNext
first_among seen [] = Whole
first_among seen (spot ∷ others) = first_next (open_node_ready seen spot) (first_among seen others)
