-- What the nodes of a batch wait for, by its chart, its log, and what is seen of its modules.
use Rattle.std.specs.Prelude.{◌||◌, List, [], if◌then◌else◌}
use Rattle.chart_core.specs.Roles.{PlainChart}
use Rattle.chart_core.specs.declared.entry.LogEntry.{LogEntry}
use Rattle.chart_cursor.specs.Listing.{waits_after}
use Rattle.chart_cursor.specs.Logs.{chart_entries, has_broken, was_stopped}
use Rattle.chart_cursor.specs.Sights.{Sights}
use Rattle.chart_cursor.specs.declared.listing.WaitingNode.{WaitingNode}

-- the awaited nodes that aren't ready, each with what stands in its way; none of a batch that broke or is to be stopped
abbrev pub waits_by : PlainChart → List LogEntry → Sights → List WaitingNode
waits_by chart log seen =
    if has_broken log || was_stopped log then [] else waits_after chart (chart_entries log) seen
