-- The history that a run leaves is legal, and its events are among those that came.
use Rattle.std.proofs.Common.{◌≡◌, Bool, true, false, cond, List, [], ◌∷◌, ◌++◌, refl}
use Rattle.pol_events.specs.Events.{PlainEvent}
use Rattle.pol_events.specs.Orderly.{is_orderly}
use Rattle.pol_history.specs.Looking.{History}
use Rattle.pol_history.specs.Runs.{entry_of, is_recorded, recorded, history_after, IsLegal, AreOrderly, IsOrderly}
use Rattle.pol_history.specs.Runs.{RunsAreLegal}

-- a legal history with one more event is legal
legal_recorded : (history : History) (event : PlainEvent) → IsLegal history
    → IsLegal (recorded (entry_of history event) history)
legal_recorded history event legal = go (is_recorded (entry_of history event).answer) refl
  where
    go : (kept : Bool) → is_recorded (entry_of history event).answer ≡ kept
        → IsLegal (cond kept (entry_of history event ∷ history) history)
    go true is = (refl, is, legal)
    go false is = legal

-- and so it is with any number of them
pub legal_after : (history : History) (events : List PlainEvent) → IsLegal history
    → IsLegal (history_after history events)
legal_after history [] legal = legal
legal_after history (event ∷ events) legal = legal_after (recorded (entry_of history event) history) events
    (legal_recorded history event legal)

-- a history in order with one more event in order is in order
orderly_recorded : (history : History) (event : PlainEvent) → is_orderly event ≡ true → IsOrderly history
    → IsOrderly (recorded (entry_of history event) history)
orderly_recorded history event here orderly = go (is_recorded (entry_of history event).answer)
  where
    go : (kept : Bool) → IsOrderly (cond kept (entry_of history event ∷ history) history)
    go true = (here, orderly)
    go false = orderly

-- and so it is with any number of them
pub orderly_after : (history : History) (events : List PlainEvent) → IsOrderly history → AreOrderly events
    → IsOrderly (history_after history events)
orderly_after history [] orderly all = orderly
orderly_after history (event ∷ events) orderly all =
    orderly_after (recorded (entry_of history event) history) events
    (orderly_recorded history event all.0 orderly) all.1

-- so the history of each run is legal
pub runs_legal : RunsAreLegal
runs_legal events = (legal_after [] events tt, λ all. orderly_after [] events tt all)

-- the earlier part of a legal history is legal
pub earlier_legal : (later history : History) → IsLegal (later ++ history) → IsLegal history
earlier_legal [] history legal = legal
earlier_legal (entry ∷ later) history legal = earlier_legal later history legal.2

-- and the earlier part of an orderly one is orderly
pub earlier_orderly : (later history : History) → IsOrderly (later ++ history) → IsOrderly history
earlier_orderly [] history orderly = orderly
earlier_orderly (entry ∷ later) history orderly = earlier_orderly later history orderly.1
