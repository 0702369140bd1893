-- The entry of a history that a line says: an object of an answer and an event.
use Rattle.std.specs.Prelude.{◌≡◌, ℕ, List, codes, Some, None, Result, Ok, Err}
use Rattle.serde_json.specs.Data.{Data}
use Rattle.mtp_json.specs.Form.{nested, nothing_but, object_here}
use Rattle.mtp_json.specs.ReadsAs.{IsFaultOrMemory as FailsJson}
use Rattle.mtp_json.specs.Parse.{json_of}
use Rattle.mtp_json.specs.ReadResult.{ReadResult, ◌>>=◌, here}
use Rattle.mtp_json.specs.declared.fault.JsonRefusal.{JsonRefusal}
use Rattle.chart_core.specs.declared.fault.ChartFault.{ChartFault}
use Rattle.pol_events.specs.Events.{PlainEntry, PlainEvent, plain_entry}
use Rattle.pol_events.specs.declared.event.Entry.{Entry}
use Rattle.event_json.specs.Forms.{event_in}
use Rattle.event_json.specs.Lines.{TellsAs, fault_within, of_read}
use Rattle.event_json.specs.declared.fault.LineFault.{LineFault}
use Rattle.event_json.specs.declared.fault.LineRefusal.{LineRefusal}
use Rattle.pol_entries.specs.Answers.{answer_form}

-- the object of an entry
unfoldable pub entry_form : Data → ReadResult PlainEntry
entry_form value =
    object_here value >>= λ _.
    nested (codes "answer") answer_form value >>= λ answer.
    nested (codes "event") event_in value >>= λ event.
    nothing_but (codes "answer event") value >>= λ _.
    Ok (record { event = event; answer = answer })

-- what the bytes of a line are read as
abbrev pub read_of : List ℕ → ReadResult PlainEntry
read_of line = here (json_of line) >>= entry_form

-- what was read, with its fault as a fault of the line; where all was read, the chart of its event is checked
abbrev pub of_line : ReadResult PlainEntry → Result PlainEntry LineFault
of_line read = of_read (λ entry. entry.event) read

-- the entry of a line, or the line's first fault
unfoldable pub entry_of : List ℕ → Result PlainEntry LineFault
entry_of line = of_line (read_of line)

-- the result is the entry that the line says
abbrev pub Tells : Result Entry LineRefusal → Result PlainEntry LineFault → Type 0
Tells result said = TellsAs plain_entry result said

-- this value was read and its chart has no fault, or some value was read whose chart has this fault
abbrev pub Sound : {X Y : Type 0} → (X → Y) → (Y → PlainEvent) → Result X ChartFault → ReadResult Y → Type 0
Sound view its (Ok value) read = (read ≡ Ok (view value)) × (fault_within (its (view value)) ≡ None)
Sound {Y = Y} view its (Err fault) read = (value : Y) × (read ≡ Ok value) × (fault_within (its value) ≡ Some fault)

-- a value was read, the chart of which may have a fault; or reading found its first fault, unless there was no memory
abbrev pub ReadsAs : {X Y : Type 0} → (X → Y) → (Y → PlainEvent) → Result (Result X ChartFault) JsonRefusal
    → ReadResult Y
    → Type 0
ReadsAs view its (Ok asked) read = Sound view its asked read
ReadsAs view its (Err refusal) read = FailsJson refusal read
