-- A legal history is the run of its events.
use Rattle.std.proofs.Common.{◌≡◌, ◌<◌, ◌≤◌, Bool, true, false, [], ◌∷◌, ◌++◌, length, map, refl, sym, ◌∙◌, ap, arith}
use Rattle.std.specs.Prelude.{nat_le}
use Rattle.std.proofs.lemmas.Bool.{leb-false, lt-leb}
use Rattle.pol_history.proofs.Recording.{recorded_with_room}
use Rattle.std.proofs.lemmas.List.{reverse-append, length-reverse, length-map}
use Rattle.mtp_codes.specs.declared.limits.TheConstants.{LONGEST_HISTORY}
use Rattle.pol_events.specs.Events.{PlainEvent, PlainEntry, plain_entry}
use Rattle.pol_core.specs.Plants.{PlainPlant, plant_history}
use Rattle.pol_history.specs.Looking.{History}
use Rattle.pol_history.specs.Runs.{IsLegal, entry_of, is_recorded, recorded, history_after, events_of}
use Rattle.pol_history.specs.Answers.{answer_of}
use Rattle.pol_record.proofs.Appending.{history_after_append}
use Rattle.pol_store.specs.Lawful.{events-cons, length-events, recorded_is}

-- that of a plant too
pub length-plant : (plant : PlainPlant) → length (events_of (plant_history plant)) ≡ length plant.entries
length-plant plant =
    length-events (plant_history plant) ∙ length-reverse (map plain_entry plant.entries)
    ∙ length-map plant.entries plain_entry

-- a legal history is the run of its events
pub runs_legal : (history : History) → IsLegal history → history ≡ history_after [] (events_of history)
runs_legal [] legal = refl
runs_legal (entry ∷ history) legal =
    let made : entry ≡ entry_of history entry.event = ap
    (λ (a : _). record { event = entry.event; answer = a }) legal.0 in
    let told : is_recorded (answer_of history entry.event) ≡ true = ap is_recorded (sym legal.0) ∙ legal.1 in
    ap (λ (e : PlainEntry). e ∷ history) made
    ∙ sym (recorded_is history entry.event told)
    ∙ ap (λ (h : History). recorded (entry_of h entry.event) h) (runs_legal history legal.2)
    ∙ sym (history_after_append [] (events_of history) (entry.event ∷ []))
    ∙ ap (history_after []) (sym (events-cons entry history))

-- a legal history has at most 200,000 entries
pub legal_few : (history : History) → IsLegal history → length history ≤ LONGEST_HISTORY
legal_few [] legal = omega arith
legal_few (entry ∷ history) legal = by_room (nat_le LONGEST_HISTORY (length history)) refl
  where
    by_room : (full : Bool) → nat_le LONGEST_HISTORY (length history) ≡ full →
        length (entry ∷ history) ≤ LONGEST_HISTORY
    by_room true is =
        let refused : is_recorded (answer_of history entry.event) ≡ false = rw is refl in
        absurd (no_both (is_recorded (answer_of history entry.event)) refused (ap is_recorded (sym legal.0) ∙ legal.1))
      where
        no_both : (recorded : Bool) → recorded ≡ false → recorded ≡ true → ⊥
        no_both true isnt is = cc
        no_both false isnt is = cc
    by_room false is = let room = leb-false LONGEST_HISTORY (length history) is in omega (arith, room)
