-- The running steps of a chart whose service is seen stopped or aborted, by its marks, in chart order.
use Rattle.std.specs.Prelude.{List, [], ◌∷◌, Option, None, if◌then◌else◌}
use Rattle.std.specs.Option.{option_or}
use Rattle.chart_core.specs.Trees.{Tree, leaf, seq, par, choice, loop}
use Rattle.chart_core.specs.Active.{Phase, is_running}
use Rattle.chart_core.specs.declared.entry.LogEntry.{LogEntry}
use Rattle.chart_cursor.specs.NextEntry.{broken_step}
use Rattle.chart_cursor.specs.Sights.{Sights}
use Rattle.chart_cursor.specs.OpenNodes.{OpenNode, phase_of}

-- the entry Broke, where the node is a running step whose service is stopped or aborted
abbrev pub broken_node : Sights → Tree → Phase → Option LogEntry
broken_node seen (leaf step) phase = if is_running phase then broken_step step
    (seen.view step.role step.service) else None
broken_node seen (seq each) phase = None
broken_node seen (par each) phase = None
broken_node seen (choice each) phase = None
broken_node seen (loop body until) phase = None

-- the entry Broke of the first of these open nodes that has one
abbrev pub first_broken_node : Sights → List OpenNode → Option LogEntry
first_broken_node seen [] = None
first_broken_node seen (spot ∷ others) =
    option_or (broken_node seen spot.node (phase_of spot.progress)) (first_broken_node seen others)
