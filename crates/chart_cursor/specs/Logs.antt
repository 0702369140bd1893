-- What a batch's log says: the entries of its run, the active steps, whether it broke, whether it was to be stopped,
-- and which steps were held.
use Rattle.std.specs.Prelude.{ℕ, Bool, true, false, List, map, filter, Option, None, is_some, unwrap_or}
use Rattle.std.specs.List.{list_any}
use Rattle.mtp_codes.specs.Faults.{when}
use Rattle.mtp_codes.specs.Names.{same_name}
use Rattle.chart_core.specs.Active.{last_of, active_steps}
use Rattle.chart_core.specs.Entries.{chart_entry}
use Rattle.chart_core.specs.Roles.{PlainChart}
use Rattle.chart_core.specs.Trees.{PlainStep}
use Rattle.chart_core.specs.declared.entry.LogEntry.{LogEntry}
use Rattle.chart_core.specs.declared.entry.LogEntry.TheVariants.{Start, Finish, Reset, End, Chose, Turn, Leave, Stop, Broke, Left, StopAsked, Hold, Unhold, Asked}

-- the entries of a log that belong to the run of the chart
abbrev pub chart_entries : List LogEntry → List LogEntry
chart_entries log = filter (λ entry. is_some (chart_entry entry)) log

-- the active steps of a batch with this chart after its log, in chart order
abbrev pub active : PlainChart → List LogEntry → List PlainStep
active chart log = map (λ placed. placed.step) (active_steps chart log)

-- the entry says that the batch broke
abbrev pub is_broke : LogEntry → Bool
is_broke (Broke step state) = true
is_broke _ = false

-- the entry says that the operator had the batch stopped
abbrev pub is_stop_asked : LogEntry → Bool
is_stop_asked StopAsked = true
is_stop_asked _ = false

-- the batch broke
abbrev pub has_broken : List LogEntry → Bool
has_broken log = list_any is_broke log

-- the operator had the batch stopped
abbrev pub was_stopped : List LogEntry → Bool
was_stopped log = list_any is_stop_asked log

-- whether the entry holds the step with this name; nothing where it neither starts nor holds nor unholds it
abbrev pub holding_by : List ℕ → LogEntry → Option Bool
holding_by name (Start step tag service procedure) = when (same_name step name) false
holding_by name (Finish step tag service) = None
holding_by name (Reset step tag service) = None
holding_by name (End step) = None
holding_by name (Chose node arm values) = None
holding_by name (Turn node values) = None
holding_by name (Leave node values) = None
holding_by name (Stop step tag service) = None
holding_by name (Broke step state) = None
holding_by name (Left step state) = None
holding_by name StopAsked = None
holding_by name (Hold step tag service) = when (same_name step name) true
holding_by name (Unhold step tag service) = when (same_name step name) false
holding_by name (Asked tag service command) = None

-- the step with this name was sent Hold since its last start, and not Unhold after it: the last of its starts, holds
-- and unholds is a hold
abbrev pub was_held : List LogEntry → List ℕ → Bool
was_held log name = unwrap_or (last_of (holding_by name) log) false
