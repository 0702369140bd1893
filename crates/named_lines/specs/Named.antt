-- What a line says in which any event may name who gives it: an event, and perhaps a person.
use Rattle.std.specs.Prelude.{ℕ, List, Option, Some, codes, Result, Ok, if◌then◌else◌}
use Rattle.serde_json.specs.Data.{Data}
use Rattle.mtp_codes.specs.Numbers.{greatest_u64}
use Rattle.mtp_json.specs.Form.{required, optional, object_here}
use Rattle.mtp_json.specs.Leaf.{count, name, word}
use Rattle.mtp_json.specs.Parse.{json_of}
use Rattle.mtp_json.specs.ReadResult.{ReadResult, ◌>>=◌, here}
use Rattle.pol_events.specs.Events.{PlainEvent, plain_event}
use Rattle.event_json.specs.declared.fault.LineFault.{LineFault}
use Rattle.event_json.specs.declared.fault.LineRefusal.{LineRefusal}
use Rattle.event_json.specs.declared.kind.EventKind.{EventKind}
use Rattle.event_json.specs.Forms.{event_in}
use Rattle.event_json.specs.Guarded.{is_desk_kind}
use Rattle.event_json.specs.Lines.{TellsAs, of_read}
use Rattle.event_json.specs.Words.{kind_words}
use Rattle.named_lines.specs.declared.named.Named.{Named}
use Rattle.named_lines.specs.Without.{without}

-- an event, and the person who gives it, where the line names one
pub record PlainNamed : Type 0 where
  pub event : PlainEvent
  pub person : Option (List ℕ)

-- what contracts see of an event that was read with who gives it
abbrev pub plain_named : Named → PlainNamed
plain_named named = record { event = plain_event named.event; person = named.by }

-- a person who was found, as one that is there
abbrev pub some_person : ReadResult (List ℕ) → ReadResult (Option (List ℕ))
some_person read = read >>= λ person. Ok (Some person)

-- `by` names who gives an event: a command of the desk must have it, and any other event may
abbrev pub person_of : Data → EventKind → ReadResult (Option (List ℕ))
person_of value kind =
    if is_desk_kind kind then some_person (required (codes "by") name value) else optional (codes "by") name value

-- who gives an event, asked behind its kind and its stamp
unfoldable pub person_in : Data → ReadResult (Option (List ℕ))
person_in value =
    object_here value >>= λ _.
    required (codes "ev") (word kind_words) value >>= λ kind.
    required (codes "at") (count 0 greatest_u64) value >>= λ _.
    person_of value kind

-- an event of this person, or of nobody
abbrev pub given_by : Option (List ℕ) → ReadResult PlainEvent → ReadResult PlainNamed
given_by person read = read >>= λ event. Ok (record { event = event; person = person })

-- who gives an event, and then the event, which is read as in a journal once `by` is taken out
unfoldable pub named_in : Data → ReadResult PlainNamed
named_in value =
    person_in value >>= λ person.
    given_by person (event_in (without (codes "by") value))

-- what the bytes of a line are read as
abbrev pub named_read_of : List ℕ → ReadResult PlainNamed
named_read_of line = here (json_of line) >>= named_in

-- what was read, with its fault as a fault of the line
abbrev pub of_named : ReadResult PlainNamed → Result PlainNamed LineFault
of_named read = of_read (λ named. named.event) read

-- the event of a line that isn't too long with who gives it, or the line's first fault
unfoldable pub named_of : List ℕ → Result PlainNamed LineFault
named_of line = of_named (named_read_of line)

-- the result is what the line says
abbrev pub TellsNamed : Result Named LineRefusal → Result PlainNamed LineFault → Type 0
TellsNamed result said = TellsAs plain_named result said
