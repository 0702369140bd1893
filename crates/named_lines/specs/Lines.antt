-- What lines say in which any event may name who gives it, beside what they say in a journal and under a policy.
use Rattle.std.specs.Prelude.{◌≡◌, ℕ, List, Option, Some, None, codes, Result, Ok, Err, option_and_then}
use Rattle.serde_json.specs.Data.{Data, string}
use Rattle.serde_json.specs.Find.{as_str, get}
use Rattle.mtp_json.specs.Parse.{json_of}
use Rattle.mtp_json.specs.ReadResult.{Finding}
use Rattle.pol_events.specs.Events.{PlainEvent}
use Rattle.event_json.specs.declared.fault.LineFault.{LineFault}
use Rattle.event_json.specs.Guarded.{PlainGuarded}
use Rattle.named_lines.specs.Named.{PlainNamed}

-- what is at a key of a value that was found
abbrev pub found_at : List ℕ → Finding Data → Option Data
found_at key (Ok value) = get key value
found_at key (Err kind) = None

-- what is at a key of the object that a line is, if it is one
abbrev pub value_at : List ℕ → List ℕ → Option Data
value_at key line = found_at key (json_of line)

-- a line has no key `by`
abbrev pub NamesNobody : List ℕ → Type 0
NamesNobody line = value_at (codes "by") line ≡ None

-- a line is a command of the desk, by its kind
abbrev pub IsOfDesk : List ℕ → Type 0
IsOfDesk line = value_at (codes "ev") line ≡ Some (string (codes "desk"))

-- what is said in a journal, as an event of nobody
abbrev pub by_nobody : Result PlainEvent LineFault → Result PlainNamed LineFault
by_nobody (Ok event) = Ok (record { event = event; person = None })
by_nobody (Err fault) = Err fault

-- what is said under a policy, as an event that may name a person
abbrev pub as_guarded : Result PlainGuarded LineFault → Result PlainNamed LineFault
as_guarded (Ok guarded) = Ok (record { event = guarded.event; person = guarded.person })
as_guarded (Err fault) = Err fault

-- whom a line names at `by`
abbrev pub person_at : List ℕ → Option (List ℕ)
person_at line = option_and_then as_str (value_at (codes "by") line)
