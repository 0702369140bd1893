-- What is looked for among open nodes, after one node more.
use Rattle.std.specs.Option.{option_or}
use Rattle.chart_cursor.specs.Sights.{Sights}
use Rattle.chart_cursor.specs.OpenNodes.{OpenNode, phase_of, open_node_ready, first_next}
use Rattle.chart_cursor.specs.declared.listing.RunningAt.{RunningAt}
use Rattle.chart_cursor.specs.declared.listing.WaitingAt.{WaitingAt}
use Rattle.chart_cursor.specs.declared.running.FirstRunning.{FirstRunning}
use Rattle.chart_cursor.specs.declared.scanning.FirstReady.{FirstReady}
use Rattle.chart_cursor.specs.Broken.{broken_node}
use Rattle.chart_cursor.specs.Holding.{flag_at, is_unasked, hold_node, unhold_node}
use Rattle.chart_cursor.specs.Running.{is_wanted, running_node}
use Rattle.chart_cursor.specs.Listing.{running_at_node, waiting_node}
use Rattle.chart_cursor.specs.Sought.{met}
use Rattle.chart_cursor.specs.declared.going.Going.{Going}
use Rattle.chart_cursor.specs.declared.holding.FirstHold.{FirstHold}
use Rattle.chart_cursor.specs.declared.holding.FirstUnhold.{FirstUnhold}

-- what comes next: the first entry; else the first obstacle
abbrev pub look_ready : {S : Type 0} → (S → Sights) → FirstReady S → OpenNode → FirstReady S
look_ready sights ready spot =
    record { seen = ready.seen; next = first_next ready.next (open_node_ready (sights ready.seen.now) spot) }

-- the entry Broke of the first running step whose service is stopped or aborted; and what comes next
abbrev pub look_going : {S : Type 0} → (S → Sights) → Going S → OpenNode → Going S
look_going sights going spot =
    record {
      seen = going.seen;
      found = option_or going.found (broken_node (sights going.seen.now) spot.node (phase_of spot.progress));
      next = first_next going.next (open_node_ready (sights going.seen.now) spot);
    }

-- the first wanted step that runs
abbrev pub look_running : FirstRunning → OpenNode → FirstRunning
look_running running spot =
    record {
      from = running.from;
      role = running.role;
      found = option_or running.found
          (running_node (is_wanted running.from running.role) spot.number spot.node (phase_of spot.progress));
    }

-- the entry Hold of the first running step that wasn't asked yet and may be sent Hold
abbrev pub look_hold : {S : Type 0} → (S → Sights) → FirstHold S → OpenNode → FirstHold S
look_hold sights hold spot =
    record {
      seen = hold.seen;
      from = hold.from;
      asked = hold.asked;
      found = option_or hold.found
          (hold_node (sights hold.seen.now) (is_unasked hold.from hold.asked.now) spot.number spot.node
          (phase_of spot.progress));
    }

-- what comes next of the running steps that were held: the first Unhold; else the first obstacle
abbrev pub look_unhold : {S : Type 0} → (S → Sights) → FirstUnhold S → OpenNode → FirstUnhold S
look_unhold sights unhold spot =
    record {
      seen = unhold.seen;
      held = unhold.held;
      next = first_next unhold.next
          (unhold_node (sights unhold.seen.now) (flag_at unhold.held.now) spot.number spot.node
          (phase_of spot.progress));
    }

-- the running step at a place
abbrev pub look_running_at : RunningAt → OpenNode → RunningAt
look_running_at running spot =
    record { from = running.from; sought = met (running_at_node running.from spot) running.sought }

-- the awaited node at a place among those that aren't ready
abbrev pub look_waiting_at : {S : Type 0} → (S → Sights) → WaitingAt S → OpenNode → WaitingAt S
look_waiting_at sights waiting spot =
    record { seen = waiting.seen; sought = met (waiting_node (sights waiting.seen.now) spot) waiting.sought }
