-- What an entry of a batch says of a step that may have been asked to hold.
use Rattle.std.specs.Prelude.{ℕ, List, Bool, true, false, Option, Some, None, if◌then◌else◌}
use Rattle.mtp_codes.specs.Names.{same_name}
use Rattle.mtp_codes.specs.Faults.{when}
use Rattle.pol_events.specs.Events.{PlainEntry}
use Rattle.pol_history.specs.Batches.{held_step, is_freeze}

-- true where the step is the one of this name; else nothing
abbrev pub asked_step : List ℕ → Option (List ℕ) → Option Bool
asked_step name None = None
asked_step name (Some step) = when (same_name step name) true

-- whether the entry asks the step of this name to hold; a freeze doesn't; nothing where it neither does nor is a freeze
abbrev pub asking : List ℕ → PlainEntry → Option Bool
asking name entry = if is_freeze entry.event then Some false else asked_step name (held_step entry.answer)
