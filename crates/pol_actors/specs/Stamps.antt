-- Events with their stamps.
use Rattle.std.specs.Prelude.{ℕ}
use Rattle.pol_events.specs.Events.{PlainEvent, plug, unplug, report, variable, recipe, start, advance, freeze, thaw}
use Rattle.pol_events.specs.Events.{stop_batch, abandon, desk, exchange_begin, exchange_end, exchange_cancel}

-- the event with this stamp
abbrev pub stamped : ℕ → PlainEvent → PlainEvent
stamped at (plug old tag description) = plug at tag description
stamped at (unplug old tag) = unplug at tag
stamped at (report old tag service control) = report at tag service control
stamped at (variable old tag name value) = variable at tag name value
stamped at (recipe old name chart) = recipe at name chart
stamped at (start old batch name binds) = start at batch name binds
stamped at (advance old batch) = advance at batch
stamped at (freeze old batch hold) = freeze at batch hold
stamped at (thaw old batch) = thaw at batch
stamped at (stop_batch old batch) = stop_batch at batch
stamped at (abandon old batch) = abandon at batch
stamped at (desk old tag service command) = desk at tag service command
stamped at (exchange_begin old tag) = exchange_begin at tag
stamped at (exchange_end old tag ticket description) = exchange_end at tag ticket description
stamped at (exchange_cancel old tag ticket) = exchange_cancel at tag ticket
