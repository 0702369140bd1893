-- A plant as a chronicle of its events.
use Rattle.std.specs.Prelude.{◌≡◌, ℕ, IsTrue, List, Option, Some, None, Ok}
use Rattle.mtp_codes.specs.declared.limits.TheConstants.{LONGEST_HISTORY}
use Rattle.pol_events.specs.Events.{PlainEvent, plain_event}
use Rattle.pol_events.specs.Orderly.{is_orderly}
use Rattle.pol_events.specs.declared.event.Event.{Event}
use Rattle.pol_events.specs.declared.answer.Answer.{Answer}
use Rattle.event_json.specs.Lines.{event_of}
use Rattle.pol_record.specs.Texts.{event_text}
use Rattle.pol_history.specs.Looking.{History}
use Rattle.pol_history.specs.Answers.{answer_of}
use Rattle.pol_history.specs.Runs.{entry_of, events_of, is_recorded, recorded}
use Rattle.pol_kept.specs.Work.{ChronicleWork}

-- the text is the one that is written of the event, and it is read as this event
pub record IsTextOf (event : PlainEvent) (text : List ℕ) : Type 0 where
  pub written : text ≡ event_text event
  pub reads : event_of text ≡ Ok event

-- The events of a history are answered and recorded as ever; all are kept but one that is answered HistoryFull, and
-- each as the text that a journal's line has for it, whatever comes before it.
abbrev pub plant_work : ChronicleWork History PlainEvent Answer
plant_work = record {
  items = events_of;
  answer_of = answer_of;
  after = λ history event. recorded (entry_of history event) history;
  keeps = is_recorded;
  IsTextOf = λ before event text. IsTextOf event text;
  most = LONGEST_HISTORY;
}

-- the event of a text, if it is the text of one
abbrev pub NamesEvent : List ℕ → Option Event → Type 0
NamesEvent text (Some event) = IsTextOf (plain_event event) text
NamesEvent text None = (event : PlainEvent) → IsTextOf event text → ⊥

-- the events are as a line says them
abbrev pub OrderlyOption : Option Event → Type 0
OrderlyOption (Some event) = IsTrue (is_orderly (plain_event event))
OrderlyOption None = Unit {0}
