-- The batches that watch a module, and the active steps of a batch.
use Rattle.std.specs.Prelude.{ℕ, List, Bool, filter}
use Rattle.std.specs.Borrow.{Bor}
use Rattle.std.specs.List.{filter_map}
use Rattle.chart_core.specs.Active.{phase_after, is_running}
use Rattle.chart_core.specs.Order.{plans_seen}
use Rattle.chart_core.specs.Trees.{PlainStep}
use Rattle.chart_core.specs.declared.entry.LogEntry.{LogEntry}
use Rattle.chart_core.specs.declared.node.Step.{Step}
use Rattle.pol_events.specs.Events.{plain_entry}
use Rattle.pol_events.specs.declared.event.Entry.{Entry}
use Rattle.pol_history.specs.Batches.{if_open, watches}
use Rattle.pol_history.specs.Looking.{History}

-- the batches started by these entries that watch the module and aren't closed, in the order of the entries
abbrev pub watchers_in : History → List ℕ → List (Bor Entry) → List (List ℕ)
watchers_in history tag entries = filter_map (λ entry. if_open history (watches tag (plain_entry entry.now))) entries

-- the step is active after the log
unfoldable pub is_active_step : List LogEntry → PlainStep → Bool
is_active_step log step = is_running (phase_after log step.name)

-- the plans of the steps that are active after the log
abbrev pub active_seen : List LogEntry → List (Bor Step) → List PlainStep
active_seen log steps = filter (is_active_step log) (plans_seen steps)
