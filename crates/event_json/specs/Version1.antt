-- What a line of a journal of version 1 says. This version differs in one event: a freeze doesn't say whether it holds.
use Rattle.std.specs.Prelude.{ℕ, false, List, codes, Result}
use Rattle.serde_json.specs.Data.{Data}
use Rattle.mtp_json.specs.Form.{required, object_here}
use Rattle.mtp_json.specs.Leaf.{word}
use Rattle.mtp_json.specs.Parse.{json_of}
use Rattle.mtp_json.specs.ReadResult.{ReadResult, ◌>>=◌, here}
use Rattle.pol_events.specs.Events.{PlainEvent, freeze}
use Rattle.event_json.specs.declared.fault.LineFault.{LineFault}
use Rattle.event_json.specs.declared.kind.EventKind.{EventKind}
use Rattle.event_json.specs.declared.kind.EventKind.TheVariants.{Freeze}
use Rattle.event_json.specs.Forms.{batch_in, event_by}
use Rattle.event_json.specs.Lines.{of_line}
use Rattle.event_json.specs.Words.{kind_words}

-- a freeze as a line of version 1 says it: without `hold`
abbrev pub freeze_of_version_1 : ℕ → List ℕ → PlainEvent
freeze_of_version_1 at batch = freeze at batch false

-- an event of this kind, as a line of version 1 says it
abbrev pub event_by_version_1 : Data → EventKind → ReadResult PlainEvent
event_by_version_1 value Freeze = batch_in freeze_of_version_1 value
event_by_version_1 value kind = event_by value kind

-- an event, as a line of version 1 says it
unfoldable pub event_in_version_1 : Data → ReadResult PlainEvent
event_in_version_1 value =
    object_here value >>= λ _.
    required (codes "ev") (word kind_words) value >>= λ kind.
    event_by_version_1 value kind

-- what the bytes of a line of version 1 are read as
abbrev pub read_of_version_1 : List ℕ → ReadResult PlainEvent
read_of_version_1 line = here (json_of line) >>= event_in_version_1

-- the event of a line of version 1 that isn't too long, or the line's first fault
unfoldable pub event_of_version_1 : List ℕ → Result PlainEvent LineFault
event_of_version_1 line = of_line (read_of_version_1 line)
