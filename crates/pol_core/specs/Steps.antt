-- The active steps of a batch and what its nodes wait for, found by looking back over the history.
use Rattle.std.specs.Prelude.{ℕ, List, [], map, Option, Some, unwrap_or, option_and_then, option_map}
use Rattle.chart_core.specs.Active.{active_steps}
use Rattle.chart_core.specs.Roles.{PlainChart}
use Rattle.chart_core.specs.declared.entry.LogEntry.{LogEntry}
use Rattle.chart_cursor.specs.Listing.{told_running}
use Rattle.chart_cursor.specs.declared.listing.WaitingNode.{WaitingNode}
use Rattle.chart_cursor.specs.declared.running.RunningStep.{RunningStep}
use Rattle.pol_events.specs.Bound.{bound_tag, given}
use Rattle.pol_events.specs.declared.event.Bind.{Bind}
use Rattle.pol_history.specs.Batches.{Started, chart_by, log_by, start_of}
use Rattle.pol_history.specs.Following.{sights_by}
use Rattle.pol_history.specs.Looking.{History, past, past_of_batch, recipes}
use Rattle.pol_runs.specs.Waits.{waits_by}
use Rattle.pol_core.specs.declared.steps.ActiveStep.{ActiveStep}

-- a step that runs, with the tag of the module that plays its role; where there is none, with the role's name as the
-- tag
abbrev pub bound_step : List Bind → RunningStep → ActiveStep
bound_step binds running =
    record {
      step = running.name;
      tag = unwrap_or (bound_tag binds running.role) running.role;
      service = running.service;
    }

-- the active steps of a batch with these binds after its log, in chart order
abbrev pub active_by : List Bind → PlainChart → List LogEntry → List ActiveStep
active_by binds chart log = map (bound_step binds) (told_running (active_steps chart log))

-- the active steps of a batch with this start, if its recipe is there, by its past
abbrev pub active_of_started : History → History → Started → Option (List ActiveStep)
active_of_started recipes past started =
    option_map (λ chart. active_by (given started.binds) chart (log_by past)) (chart_by recipes (Some started))

-- the active steps of the batch, in chart order; none where it wasn't started
abbrev pub active_of : History → List ℕ → List ActiveStep
active_of history batch =
    unwrap_or (option_and_then (active_of_started (recipes history) (past_of_batch batch history))
    (start_of history batch)) []

-- what the nodes of a batch with this start wait for, if its recipe is there, by its past and the pasts of the modules
abbrev pub waits_of_started : History → History → (List ℕ → History) → Started → Option (List WaitingNode)
waits_of_started recipes past pasts started =
    option_map (λ chart. waits_by chart (log_by past) (sights_by (given started.binds) pasts))
    (chart_by recipes (Some started))

-- the awaited nodes of the batch that aren't ready, each with what stands in its way, in chart order; none where it
-- wasn't started, broke, or is to be stopped
abbrev pub waits_of : History → List ℕ → List WaitingNode
waits_of history batch =
    unwrap_or (option_and_then
    (waits_of_started (recipes history) (past_of_batch batch history) (λ tag. past tag history))
    (start_of history batch)) []
