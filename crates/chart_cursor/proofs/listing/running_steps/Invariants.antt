-- So many of them are listed as places were looked at.
use Rattle.std.proofs.Common.{◌≡◌, take}
use Rattle.chart_core.specs.Trees.{plain_node}
use Rattle.chart_core.specs.Progress.{marks_of}
use Rattle.chart_cursor.specs.Listing.{running_from}
use Rattle.chart_cursor.specs.OpenNodes.{open_nodes}
use Rattle.chart_cursor.proofs.listing.running_steps.Given as goal

abbrev pub invariant-loop-place : goal.invariant-loop-place
invariant-loop-place l =
    l.steps.items ≡ take l.place (running_from l.from (open_nodes (plain_node l.node) l.number (marks_of l.marks)))
