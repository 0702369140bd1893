-- The laws of a plant as a chronicle of its events.
use Rattle.std.proofs.Common.{◌≡◌, ◌<◌, Bool, true, false, List, ℕ, Result, Ok, [], ◌∷◌, ◌++◌, length, map, refl, sym, ◌∙◌, ap, arith}
use Rattle.std.proofs.lemmas.Bool.{lt-leb}
use Rattle.std.proofs.lemmas.List.{reverse-append, length-reverse, length-map}
use Rattle.mtp_codes.specs.declared.limits.TheConstants.{LONGEST_HISTORY}
use Rattle.event_json.specs.declared.fault.LineFault.{LineFault}
use Rattle.pol_core.specs.Plants.{PlainPlant, plant_history}
use Rattle.pol_events.specs.Events.{PlainEvent, PlainEntry, plain_history}
use Rattle.pol_history.specs.Looking.{History}
use Rattle.pol_history.specs.Answers.{answer_of}
use Rattle.pol_history.specs.Runs.{entry_of, events_of, is_recorded, recorded}
use Rattle.pol_history.proofs.Recording.{recorded_with_room}
use Rattle.pol_kept.specs.Work.{IsLawful}
use Rattle.pol_store.specs.Work.{IsTextOf, plant_work}

-- the events of a history with one entry more
pub events-cons : (entry : PlainEntry) (history : History) →
    events_of (entry ∷ history) ≡ events_of history ++ entry.event ∷ []
events-cons entry history = reverse-append (entry.event ∷ []) (map (λ (e : PlainEntry). e.event) history)

-- a history has as many events as entries
pub length-events : (history : History) → length (events_of history) ≡ length history
length-events history =
    length-reverse (map (λ (e : PlainEntry). e.event) history) ∙ length-map history (λ (e : PlainEntry). e.event)

-- where the answer is recorded, the entry is new
pub recorded_is : (history : History) (event : PlainEvent) → is_recorded (answer_of history event) ≡ true →
    recorded (entry_of history event) history ≡ entry_of history event ∷ history
recorded_is history event is = rw is refl

-- where the history has room, an event is recorded
pub room_recorded : (history : History) (event : PlainEvent) → length history < LONGEST_HISTORY →
    is_recorded (answer_of history event) ≡ true
room_recorded history event room = recorded_with_room history event (lt-leb LONGEST_HISTORY (length history) room)

-- what reading an event gives
abbrev done : PlainEvent → Result PlainEvent LineFault
done x = Ok x

-- reading an event gives one event
ok_same : (x y : PlainEvent) → done x ≡ done y → x ≡ y
ok_same x y same = cc

-- a text is that of one event
one_event : (text : List ℕ) (x y : PlainEvent) → IsTextOf x text → IsTextOf y text → x ≡ y
one_event text x y is is' = ok_same x y (sym is.reads ∙ is'.reads)

-- an event that is kept is the last one, one that isn't changes nothing, and a text is that of one event
pub plants_are_lawful : IsLawful plant_work
plants_are_lawful = record {
  grows = λ history event is. ap events_of (recorded_is history event is) ∙ events-cons (entry_of history event)
      history;
  stays = λ history event is. rw is refl;
  has_room = λ history event text is room. let same = length-events history in room_recorded history event
      (omega (arith, same, room));
  one_item = λ before one other text is is'. one_event text one other is is';
}

-- the same entries are the same history
pub same_history : (old new : PlainPlant) → new.entries ≡ old.entries → plant_history new ≡ plant_history old
same_history old new same = ap plain_history same
