-- What a line of a journal says: an event, or why it is none.
use Rattle.std.specs.Prelude.{◌≡◌, ◌||◌, ◌==◌, ℕ, Bool, List, Option, Some, None, Result, Ok, Err}
use Rattle.mtp_json.specs.Parse.{json_of}
use Rattle.mtp_json.specs.ReadResult.{ReadResult, ◌>>=◌, here}
use Rattle.chart_core.specs.declared.fault.ChartFault.{ChartFault}
use Rattle.chart_core.specs.Valid.{chart_fault}
use Rattle.pol_events.specs.declared.event.Event.{Event}
use Rattle.pol_events.specs.Events.{PlainEvent, recipe, plain_event}
use Rattle.event_json.specs.declared.fault.LineFault.{LineFault}
use Rattle.event_json.specs.declared.fault.LineFault.TheVariants.{Json, Chart}
use Rattle.event_json.specs.declared.fault.LineRefusal.{LineRefusal}
use Rattle.event_json.specs.declared.fault.LineRefusal.TheVariants.{Fault, Memory}
use Rattle.event_json.specs.Forms.{event_in}

-- the byte is a space, a tab or a carriage return
abbrev pub is_blank_byte : ℕ → Bool
is_blank_byte byte = byte == 32 || (byte == 9 || byte == 13)

-- what the bytes of a line are read as
abbrev pub read_of : List ℕ → ReadResult PlainEvent
read_of line = here (json_of line) >>= event_in

-- the fault of the chart that an event makes known
abbrev pub fault_within : PlainEvent → Option ChartFault
fault_within (recipe at name chart) = chart_fault chart
fault_within _ = None

-- what was read, unless its chart has a fault
abbrev pub unless_faulty : {X : Type 0} → X → Option ChartFault → Result X LineFault
unless_faulty read None = Ok read
unless_faulty read (Some fault) = Err (Chart fault)

-- what was read, with its fault as a fault of the line; where all was read, the chart of its event is asked
abbrev pub of_read : {X : Type 0} → (X → PlainEvent) → ReadResult X → Result X LineFault
of_read event (Ok read) = unless_faulty read (fault_within (event read))
of_read event (Err fault) = Err (Json fault)

-- the event that was read, or the fault of the line
abbrev pub of_line : ReadResult PlainEvent → Result PlainEvent LineFault
of_line read = of_read (λ event. event) read

-- the event of a line that isn't too long, or the line's first fault
unfoldable pub event_of : List ℕ → Result PlainEvent LineFault
event_of line = of_line (read_of line)

-- a refusal is the line's fault, or there was no memory
abbrev pub Fails : {X : Type 0} → LineRefusal → Result X LineFault → Type 0
Fails Memory said = Unit {0}
Fails (Fault fault) said = said ≡ Err fault

-- the result, seen plainly, is what the line says, or the line's fault, unless there was no memory
abbrev pub TellsAs : {X Y : Type 0} → (X → Y) → Result X LineRefusal → Result Y LineFault → Type 0
TellsAs view (Ok read) said = said ≡ Ok (view read)
TellsAs view (Err refusal) said = Fails refusal said

-- the result is the event that the line says
abbrev pub Tells : Result Event LineRefusal → Result PlainEvent LineFault → Type 0
Tells result said = TellsAs plain_event result said
