-- The entry of a line, by the event in it.
use Rattle.std.proofs.Common.{◌≡◌, ℕ, List, Option, Some, None, Ok, Err, Result, refl, sym, ap, ◌∙◌, codes}
use Rattle.serde_json.specs.Data.{Data}
use Rattle.mtp_json.specs.Form.{nested, nothing_but, object_here}
use Rattle.mtp_json.specs.ReadsAs.{ReadsUnder}
use Rattle.mtp_json.specs.ReadResult.{ReadResult, under}
use Rattle.mtp_json.specs.declared.fault.JsonFault.{JsonFault}
use Rattle.mtp_json.specs.declared.fault.JsonRefusal.{JsonRefusal}
use Rattle.mtp_json.specs.declared.fault.JsonRefusal.TheVariants.{Fault, Memory}
use Rattle.mtp_json.specs.declared.path.PathPart.TheVariants.{Key}
use Rattle.chart_core.specs.declared.fault.ChartFault.{ChartFault}
use Rattle.pol_events.specs.Events.{PlainEvent, plain_event}
use Rattle.pol_events.specs.declared.answer.Answer.{Answer}
use Rattle.pol_events.specs.declared.event.Event.{Event}
use Rattle.event_json.specs.declared.fault.LineFault.TheVariants.{Json, Chart, TooLong}
use Rattle.event_json.specs.Forms.{event_in}
use Rattle.event_json.specs.Lines.{fault_within, of_line, unless_faulty}
use Rattle.pol_entries.specs.Answers.{answer_form}
use Rattle.pol_entries.specs.Entries.{ReadsAs, Sound, entry_form}

-- ---- what a line says, by what was read of it

-- an event as what was read
abbrev as_read : PlainEvent → ReadResult PlainEvent
as_read event = Ok event

-- the fault of a chart is that of an event that was read
pub line_chart : (said : ReadResult PlainEvent) (fault : ChartFault) → of_line said ≡ Err (Chart fault)
    → (event : PlainEvent) × (said ≡ Ok event) × (fault_within event ≡ Some fault)
line_chart (Err other) fault is = absurd cc
line_chart (Ok own) fault is = go (fault_within own) refl is
  where
    go : (found : Option ChartFault) → fault_within own ≡ found → unless_faulty own found ≡ Err (Chart fault)
        → (event : PlainEvent) × (as_read own ≡ as_read event) × (fault_within event ≡ Some fault)
    go None found is = absurd cc
    go (Some other) found is = let same : other ≡ fault = cc in (own, refl, found ∙ ap (λ fault. Some fault) same)

-- another fault is that of the form
pub line_json : (said : ReadResult PlainEvent) (fault : JsonFault) → of_line said ≡ Err (Json fault) → said ≡ Err fault
line_json (Err other) fault is = cc
line_json (Ok own) fault is = go (fault_within own) is
  where
    go : (found : Option ChartFault) → unless_faulty own found ≡ Err (Json fault) → as_read own ≡ Err fault
    go None is = absurd cc
    go (Some other) is = absurd cc

-- no line that was read is answered as too long
pub line_short : (said : ReadResult PlainEvent) → of_line said ≡ Err TooLong → ⊥
line_short (Err other) is = absurd cc
line_short (Ok own) is = go (fault_within own) is
  where
    go : (found : Option ChartFault) → unless_faulty own found ≡ Err TooLong → ⊥
    go None is = absurd cc
    go (Some other) is = absurd cc

-- ---- below a key

-- what was read below a key
pub given_below : (key : List ℕ) (asked result : Result (Result Event ChartFault) JsonRefusal)
    (said : ReadResult PlainEvent)
    → ReadsAs plain_event (λ event. event) asked said → ReadsUnder (Key key) asked result
    → ReadsAs plain_event (λ event. event) result (under key said)
given_below key asked (Ok own) said gives below = go own (rw below at gives)
  where
    go : (own : Result Event ChartFault) → Sound plain_event (λ event. event) own said
        → Sound plain_event (λ event. event) own (under key said)
    go (Ok event) is = (ap (under key) is.0, is.1)
    go (Err fault) is = (is.0, ap (under key) is.1, is.2)
given_below key asked (Err Memory) said gives below = tt
given_below key (Ok own) (Err (Fault fault)) said gives below = absurd below
given_below key (Err Memory) (Err (Fault fault)) said gives below = absurd cc
given_below key (Err (Fault inner)) (Err (Fault fault)) said gives below =
    rw gives (ap (λ fault. Err fault) (sym below))

-- ---- the parts of an entry

-- an answer and an event that were read, of an object with no other key
pub with_answer : (value : Data) (answer : Answer) (event : PlainEvent) → object_here value ≡ Ok tt
    → nested (codes "answer") answer_form value ≡ Ok answer
    → nested (codes "event") event_in value ≡ Ok event → nothing_but (codes "answer event") value ≡ Ok tt
    → entry_form value ≡ Ok (record { event = event; answer = answer })
unfolding entry_form
with_answer value answer event is_object answered happened only = rw (is_object, answered, happened, only) refl
