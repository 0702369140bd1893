-- The history after some events follows from the history that the first of them leave.
use Rattle.std.proofs.Common.{◌≡◌, List, [], ◌∷◌, ◌++◌, refl}
use Rattle.pol_events.specs.Events.{PlainEvent}
use Rattle.pol_history.specs.Looking.{History}
use Rattle.pol_history.specs.Runs.{entry_of, recorded, history_after}

-- the history after some events, and others behind them
pub history_after_append : (history : History) (events others : List PlainEvent)
    → history_after history (events ++ others) ≡ history_after (history_after history events) others
history_after_append history [] others = refl
history_after_append history (event ∷ events) others = history_after_append (recorded (entry_of history event) history)
    events others
