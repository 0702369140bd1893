-- The seven kinds of entry that make up a run of a chart.
use Rattle.std.specs.Prelude.{ℕ, List, length, Bool, true, ◌&&◌, ◌==◌, Option, Some, None, if◌then◌else◌}
use Rattle.mtp_codes.specs.declared.value.Reading.{Reading}
use Rattle.mtp_codes.specs.Names.{same_name}
use Rattle.chart_core.specs.Trees.{PlainStep}
use Rattle.chart_core.specs.declared.entry.LogEntry.{LogEntry}
use Rattle.chart_core.specs.declared.entry.LogEntry.TheVariants.{Start, Finish, Reset, End, Chose, Turn, Leave, Stop, Broke, Left, StopAsked, Hold, Unhold, Asked}

-- what an entry of a run does to its step
pub data Stage : Type 0 where
  begin : Stage
  finish : Stage
  reset : Stage
  end : Stage

-- what an entry of a run decides at its node; an arm is given by its place
pub data Decision : Type 0 where
  chose : ℕ → Decision
  turn : Decision
  leave : Decision

-- An entry of a run: of a step, with its name and the service and the procedure where it carries them; or of a
-- selection or a loop, with its number and the readings by which it decided. Tags aren't looked at here.
pub data ChartEntry : Type 0 where
  of_step : Stage → List ℕ → Option (List ℕ) → Option ℕ → ChartEntry
  of_node : ℕ → Decision → List Reading → ChartEntry

-- the entry of a run that a log's entry is, if it is one
abbrev pub chart_entry : LogEntry → Option ChartEntry
chart_entry (Start step tag service procedure) = Some (of_step begin step (Some service) (Some procedure))
chart_entry (Finish step tag service) = Some (of_step finish step (Some service) None)
chart_entry (Reset step tag service) = Some (of_step reset step (Some service) None)
chart_entry (End step) = Some (of_step end step None None)
chart_entry (Chose node arm values) = Some (of_node node (chose arm) values)
chart_entry (Turn node values) = Some (of_node node turn values)
chart_entry (Leave node values) = Some (of_node node leave values)
chart_entry (Stop step tag service) = None
chart_entry (Broke step state) = None
chart_entry (Left step state) = None
chart_entry StopAsked = None
chart_entry (Hold step tag service) = None
chart_entry (Unhold step tag service) = None
chart_entry (Asked tag service command) = None

-- the service that the entry carries, if any, is this one
abbrev pub agrees_service : Option (List ℕ) → List ℕ → Bool
agrees_service None service = true
agrees_service (Some carried) service = same_name carried service

-- the procedure that the entry carries, if any, is this one
abbrev pub agrees_procedure : Option ℕ → ℕ → Bool
agrees_procedure None procedure = true
agrees_procedure (Some carried) procedure = carried == procedure

-- What the entry does to the step: the entry is of the step where it names it and, where it carries a service or a
-- procedure, these are the step's.
abbrev pub stage_of : PlainStep → Option ChartEntry → Option Stage
stage_of step None = None
stage_of step (Some (of_step stage name service procedure)) =
    if same_name name step.name && (agrees_service service step.service && agrees_procedure procedure step.procedure)
    then Some stage else None
stage_of step (Some (of_node number decision values)) = None

-- a decision with its readings
pub record Decided : Type 0 where
  pub decision : Decision
  pub values : List Reading

-- What the entry decides at the selection or the loop with this number: the entry is of it where it has its number
-- and as many readings as it has reads, whether it decides rightly or not.
abbrev pub decided_at : ℕ → ℕ → Option ChartEntry → Option Decided
decided_at number read_count None = None
decided_at number read_count (Some (of_step stage name service procedure)) = None
decided_at number read_count (Some (of_node node decision values)) =
    if node == number && length values == read_count then Some
    (record { decision = decision; values = values }) else None
