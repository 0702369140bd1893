-- The running steps of a chart, and its awaited nodes that aren't ready, by its marks, in chart order.
use Rattle.std.specs.Prelude.{ℕ, ◌≡◌, List, map, filter_map, Option, Some, None}
use Rattle.std.specs.List.{Contains}
use Rattle.chart_core.specs.Roles.{PlainChart}
use Rattle.chart_core.specs.Runs.{IsAwaited}
use Rattle.chart_core.specs.Standing.{marks_after}
use Rattle.chart_core.specs.Trees.{Placed}
use Rattle.chart_core.specs.declared.entry.LogEntry.{LogEntry}
use Rattle.chart_core.specs.declared.why.Why.{Why}
use Rattle.chart_cursor.specs.OpenNodes.{OpenNode, open_node_ready, open_nodes, phase_of}
use Rattle.chart_cursor.specs.Running.{is_wanted, running_node, running_step}
use Rattle.chart_cursor.specs.Sights.{Sights}
use Rattle.chart_cursor.specs.declared.listing.WaitingNode.{WaitingNode}
use Rattle.chart_cursor.specs.declared.next.CursorNext.{CursorNext}
use Rattle.chart_cursor.specs.declared.next.CursorNext.TheVariants.{Entry, Wait, Whole}
use Rattle.chart_cursor.specs.declared.running.RunningStep.{RunningStep}

-- these steps as running steps
abbrev pub told_running : List Placed → List RunningStep
told_running steps = map (λ placed. running_step placed.number placed.step) steps

-- an open node, where it is a step that runs, from a number on
abbrev pub running_at_node : ℕ → OpenNode → Option RunningStep
running_at_node from spot = running_node (is_wanted from None) spot.number spot.node (phase_of spot.progress)

-- those of these open nodes that are steps which run, from a number on
abbrev pub running_from : ℕ → List OpenNode → List RunningStep
running_from from spots = filter_map (running_at_node from) spots

-- the node with this number, where what comes next of it is an obstacle
abbrev pub waiting_in : ℕ → CursorNext → Option WaitingNode
waiting_in number (Entry entry) = None
waiting_in number (Wait why) = Some (record { number = number; why = why })
waiting_in number Whole = None

-- an open node, where it isn't ready
abbrev pub waiting_node : Sights → OpenNode → Option WaitingNode
waiting_node seen spot = waiting_in spot.number (open_node_ready seen spot)

-- those of these open nodes that aren't ready
abbrev pub waiting_among : Sights → List OpenNode → List WaitingNode
waiting_among seen spots = filter_map (waiting_node seen) spots

-- The awaited nodes that aren't ready after the log, each with what stands in its way. After a partial run of a valid
-- chart they are what `AreWaiting` says.
abbrev pub waits_after : PlainChart → List LogEntry → Sights → List WaitingNode
waits_after chart log seen = waiting_among seen (open_nodes chart.root 0 (marks_after chart log))

-- The list has the awaited nodes after the log that aren't ready, by what each node is ready for: each of them is
-- awaited and has this obstacle, and each awaited node with an obstacle is in the list.
pub record AreWaiting (chart : PlainChart) (log : List LogEntry) (ready : ℕ → CursorNext) (nodes : List WaitingNode) :
    Type 0 where
  pub awaited : (node : WaitingNode) → Contains nodes node →
      IsAwaited chart log node.number × (ready node.number ≡ Wait node.why)
  pub every : (number : ℕ) (why : Why) → IsAwaited chart log number → ready number ≡ Wait why →
      Contains nodes (record { number = number; why = why })
