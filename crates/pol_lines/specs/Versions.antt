-- What differs in a journal of version 1.
use Rattle.std.specs.Prelude.{Bool, true, false}
use Rattle.pol_events.specs.Events.{PlainEvent, freeze}

-- the event is a freeze
abbrev pub is_freeze : PlainEvent → Bool
is_freeze (freeze at batch hold) = true
is_freeze _ = false
