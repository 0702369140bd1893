-- What happens is applied to a plant, line by line.
use Rattle.std.specs.Prelude.{ℕ, ◌+◌, List, [], ◌∷◌}
use Rattle.pol_events.specs.Events.{PlainEvent, plain_history}
use Rattle.pol_history.specs.Looking.{History}
use Rattle.pol_history.specs.Runs.{entry_of, recorded}
use Rattle.pol_demo.specs.Journal.{Happening}
use Rattle.pol_demo.specs.declared.telling.Teller.{Teller}

-- how far a journal was applied: the history of its plant, and the number of the next line
pub record Told : Type 0 where
  pub history : History
  pub at : ℕ

-- how far a teller has come
abbrev pub told_by : Teller → Told
told_by teller = record { history = plain_history teller.plant.entries; at = teller.at }

-- one more event is answered
abbrev pub event_told : PlainEvent → Told → Told
event_told event told =
    record { history = recorded (entry_of told.history event) told.history; at = told.at + 1 }

-- how far a journal was applied, once the next line happened
unfoldable pub line_told : Happening → Told → Told
line_told happening told = event_told (happening told.at) told

-- how far a journal was applied, once the next lines happened
abbrev pub lines_told : List Happening → Told → Told
lines_told [] told = told
lines_told (happening ∷ others) told = lines_told others (line_told happening told)
