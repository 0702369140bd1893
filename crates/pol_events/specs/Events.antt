-- Events and entries as plain data.
use Rattle.std.specs.Prelude.{ℕ, Bool, List, map, reverse}
use Rattle.mtp_codes.specs.declared.command.Command.{Command}
use Rattle.mtp_codes.specs.declared.value.Value.{Value}
use Rattle.mtp_assembly.specs.declared.control.ServiceControl.{ServiceControl}
use Rattle.mtp_desc.specs.Plain.{PlainDescription}
use Rattle.mtp_desc.specs.PlainDescription.{plain_description}
use Rattle.chart_core.specs.Roles.{PlainChart}
use Rattle.chart_core.specs.Charts.{plain_chart}
use Rattle.pol_events.specs.declared.answer.Answer.{Answer}
use Rattle.pol_events.specs.Bound.{PlainAllocation}
use Rattle.pol_events.specs.declared.event.Event.{Event}
use Rattle.pol_events.specs.declared.event.Event.TheVariants.{Plug, Unplug, Report, Variable, Recipe, Start, Advance}
use Rattle.pol_events.specs.declared.event.Event.TheVariants.{Freeze, Thaw, StopBatch, Abandon, Desk, ExchangeBegin}
use Rattle.pol_events.specs.declared.event.Event.TheVariants.{ExchangeEnd, ExchangeCancel}
use Rattle.pol_events.specs.declared.event.Entry.{Entry}

-- an event, with names as their bytes
pub data PlainEvent : Type 0 where
  plug : (at : ℕ) (tag : List ℕ) (description : PlainDescription) → PlainEvent
  unplug : (at : ℕ) (tag : List ℕ) → PlainEvent
  report : (at : ℕ) (tag service : List ℕ) (control : ServiceControl) → PlainEvent
  variable : (at : ℕ) (tag name : List ℕ) (value : Value) → PlainEvent
  recipe : (at : ℕ) (recipe : List ℕ) (chart : PlainChart) → PlainEvent
  start : (at : ℕ) (batch recipe : List ℕ) (binds : PlainAllocation) → PlainEvent
  advance : (at : ℕ) (batch : List ℕ) → PlainEvent
  freeze : (at : ℕ) (batch : List ℕ) (hold : Bool) → PlainEvent
  thaw : (at : ℕ) (batch : List ℕ) → PlainEvent
  stop_batch : (at : ℕ) (batch : List ℕ) → PlainEvent
  abandon : (at : ℕ) (batch : List ℕ) → PlainEvent
  desk : (at : ℕ) (tag service : List ℕ) (command : Command) → PlainEvent
  exchange_begin : (at : ℕ) (tag : List ℕ) → PlainEvent
  exchange_end : (at : ℕ) (tag : List ℕ) (ticket : ℕ) (description : PlainDescription) → PlainEvent
  exchange_cancel : (at : ℕ) (tag : List ℕ) (ticket : ℕ) → PlainEvent

-- an event with its answer
pub record PlainEntry : Type 0 where
  pub event : PlainEvent
  pub answer : Answer

-- what contracts see of an event
abbrev pub plain_event : Event → PlainEvent
plain_event (Plug at tag desc) = plug at tag (plain_description desc.value)
plain_event (Unplug at tag) = unplug at tag
plain_event (Report at tag service control) = report at tag service control
plain_event (Variable at tag name value) = variable at tag name value
plain_event (Recipe at name chart) = recipe at name (plain_chart chart.value)
plain_event (Start at batch name bind watch) =
    start at batch name (record { held = bind.items; watched = watch.items })
plain_event (Advance at batch) = advance at batch
plain_event (Freeze at batch hold) = freeze at batch hold
plain_event (Thaw at batch) = thaw at batch
plain_event (StopBatch at batch) = stop_batch at batch
plain_event (Abandon at batch) = abandon at batch
plain_event (Desk at tag service command) = desk at tag service command
plain_event (ExchangeBegin at tag) = exchange_begin at tag
plain_event (ExchangeEnd at tag ticket desc) = exchange_end at tag ticket (plain_description desc.value)
plain_event (ExchangeCancel at tag ticket) = exchange_cancel at tag ticket

-- what contracts see of an entry
abbrev pub plain_entry : Entry → PlainEntry
plain_entry entry = record { event = plain_event entry.event; answer = entry.answer }

-- what contracts see of a plant's entries, which are kept from the oldest on: the history, the newest entry first
abbrev pub plain_history : List Entry → List PlainEntry
plain_history entries = reverse (map plain_entry entries)
