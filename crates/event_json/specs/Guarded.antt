-- What a line of a journal says under a policy: an event, and for a command of the desk the person who gives it.
use Rattle.std.specs.Prelude.{ℕ, Bool, true, false, List, Option, Some, None, codes, Result, Ok, if◌then◌else◌}
use Rattle.serde_json.specs.Data.{Data}
use Rattle.mtp_codes.specs.Codes.{command_codes}
use Rattle.mtp_codes.specs.Numbers.{greatest_u64}
use Rattle.mtp_json.specs.Form.{required, object_here, nothing_but}
use Rattle.mtp_json.specs.Leaf.{code, count, name, word}
use Rattle.mtp_json.specs.Parse.{json_of}
use Rattle.mtp_json.specs.ReadResult.{ReadResult, ◌>>=◌, here}
use Rattle.pol_events.specs.Events.{PlainEvent, plain_event, desk}
use Rattle.event_json.specs.declared.fault.LineFault.{LineFault}
use Rattle.event_json.specs.declared.fault.LineRefusal.{LineRefusal}
use Rattle.event_json.specs.declared.guarded.Guarded.{Guarded}
use Rattle.event_json.specs.declared.kind.EventKind.{EventKind}
use Rattle.event_json.specs.declared.kind.EventKind.TheVariants.{Desk}
use Rattle.event_json.specs.Forms.{event_by}
use Rattle.event_json.specs.Lines.{TellsAs, of_read}
use Rattle.event_json.specs.Words.{kind_words}

-- an event, and the person who gives it, where it is a command of the desk
pub record PlainGuarded : Type 0 where
  pub event : PlainEvent
  pub person : Option (List ℕ)

-- what contracts see of an event that was read under a policy
abbrev pub plain_guarded : Guarded → PlainGuarded
plain_guarded guarded = record { event = plain_event guarded.event; person = guarded.by }

-- the event is a command of the desk
abbrev pub is_desk : PlainEvent → Bool
is_desk (desk at tag service command) = true
is_desk _ = false

-- the kind is that of a command of the desk
abbrev pub is_desk_kind : EventKind → Bool
is_desk_kind Desk = true
is_desk_kind _ = false

-- an operator commands a service: `by` names the operator
unfoldable pub guarded_desk_in : Data → ReadResult PlainGuarded
guarded_desk_in value =
    required (codes "at") (count 0 greatest_u64) value >>= λ at.
    required (codes "by") name value >>= λ person.
    required (codes "tag") name value >>= λ tag.
    required (codes "service") name value >>= λ service.
    required (codes "CommandOp") (code command_codes) value >>= λ command.
    nothing_but (codes "ev at by tag service CommandOp") value >>= λ _.
    Ok (record { event = desk at tag service command; person = Some person })

-- an event of nobody
abbrev pub unnamed : ReadResult PlainEvent → ReadResult PlainGuarded
unnamed read = read >>= λ event. Ok (record { event = event; person = None })

-- an event of this kind, as a line says it under a policy
abbrev pub guarded_by : Data → EventKind → ReadResult PlainGuarded
guarded_by value kind = if is_desk_kind kind then guarded_desk_in value else unnamed (event_by value kind)

-- an event under a policy: `ev` names its kind, and then come the fields of this kind
unfoldable pub guarded_in : Data → ReadResult PlainGuarded
guarded_in value =
    object_here value >>= λ _.
    required (codes "ev") (word kind_words) value >>= λ kind.
    guarded_by value kind

-- what the bytes of a line are read as
abbrev pub guarded_read_of : List ℕ → ReadResult PlainGuarded
guarded_read_of line = here (json_of line) >>= guarded_in

-- what was read, with its fault as a fault of the line
abbrev pub of_guarded : ReadResult PlainGuarded → Result PlainGuarded LineFault
of_guarded read = of_read (λ guarded. guarded.event) read

-- the event of a line that isn't too long with who gives it, or the line's first fault
unfoldable pub guarded_of : List ℕ → Result PlainGuarded LineFault
guarded_of line = of_guarded (guarded_read_of line)

-- the result is what the line says
abbrev pub TellsGuarded : Result Guarded LineRefusal → Result PlainGuarded LineFault → Type 0
TellsGuarded result said = TellsAs plain_guarded result said
