-- What the last entry of a step was, by looking at a log alone, and which steps are active.
use Rattle.std.specs.Prelude.{ℕ, List, [], ◌∷◌, Bool, true, false, filter, Option, Some, None}
use Rattle.mtp_codes.specs.Faults.{when}
use Rattle.mtp_codes.specs.Names.{same_name}
use Rattle.chart_core.specs.Trees.{Placed, steps}
use Rattle.chart_core.specs.Roles.{PlainChart}
use Rattle.chart_core.specs.Entries.{Stage, begin, finish, reset, end, ChartEntry, of_step, of_node}
use Rattle.chart_core.specs.declared.entry.LogEntry.{LogEntry}
use Rattle.chart_core.specs.declared.entry.LogEntry.TheVariants.{Start, Finish, Reset, End, Chose, Turn, Leave, Stop, Broke, Left, StopAsked, Hold, Unhold, Asked}

-- the phase of a step: idle where it doesn't run (not started, ended, stopped or left), else what it had last
pub data Phase : Type 0 where
  idle : Phase
  started : Phase
  finished : Phase
  was_reset : Phase

-- what the later entry says; where it says nothing, what the earlier ones said
abbrev pub or_earlier : {A : Type 0} → Option A → Option A → Option A
or_earlier None earlier = earlier
or_earlier (Some later) earlier = Some later

-- what the last entry that says something says
abbrev pub last_of : {A B : Type 0} → (A → Option B) → List A → Option B
last_of says [] = None
last_of says (entry ∷ later) = or_earlier (last_of says later) (says entry)

-- The phase in which the entry leaves the step with this name; nothing where it is no entry of that step. Broke, Hold
-- and Unhold leave each step in the phase that it had.
abbrev pub phase_by : List ℕ → LogEntry → Option Phase
phase_by name (Start step tag service procedure) = when (same_name step name) started
phase_by name (Finish step tag service) = when (same_name step name) finished
phase_by name (Reset step tag service) = when (same_name step name) was_reset
phase_by name (End step) = when (same_name step name) idle
phase_by name (Chose node arm values) = None
phase_by name (Turn node values) = None
phase_by name (Leave node values) = None
phase_by name (Stop step tag service) = when (same_name step name) idle
phase_by name (Broke step state) = None
phase_by name (Left step state) = when (same_name step name) idle
phase_by name StopAsked = None
phase_by name (Hold step tag service) = None
phase_by name (Unhold step tag service) = None
phase_by name (Asked tag service command) = None

-- a step that no entry says anything of is not running
abbrev pub or_idle : Option Phase → Phase
or_idle None = idle
or_idle (Some phase) = phase

-- the phase of the step with this name after the log
abbrev pub phase_after : List LogEntry → List ℕ → Phase
phase_after log name = or_idle (last_of (phase_by name) log)

-- the step runs: it is in any phase but idle
abbrev pub is_running : Phase → Bool
is_running idle = false
is_running started = true
is_running finished = true
is_running was_reset = true

-- the step is active after the log: its last entry is Start, Finish or Reset
abbrev pub is_active : List LogEntry → Placed → Bool
is_active log placed = is_running (phase_after log placed.step.name)

-- the active steps after the log, with their numbers, in chart order
abbrev pub active_steps : PlainChart → List LogEntry → List Placed
active_steps chart log = filter (is_active log) (steps chart.root 0)

-- the phase in which an entry of this stage leaves its step
abbrev pub stage_phase : Stage → Phase
stage_phase begin = started
stage_phase finish = finished
stage_phase reset = was_reset
stage_phase end = idle

-- the phase in which a run's entry leaves the step with this name; nothing where it is no entry of that step
abbrev pub entry_phase : List ℕ → Option ChartEntry → Option Phase
entry_phase name None = None
entry_phase name (Some (of_step stage step service procedure)) = when (same_name step name) (stage_phase stage)
entry_phase name (Some (of_node node decision values)) = None
