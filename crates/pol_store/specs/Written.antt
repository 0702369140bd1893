-- What is written of an event.
use Rattle.std.specs.Prelude.{◌≡◌, List, [], ◌∷◌, ◌++◌, Bool, true, false, Some, codes, decimal, Ok}
use Rattle.json.specs.Token as token
use Rattle.json.specs.Token.{Token}
use Rattle.mtp_codes.specs.Codes.{state_number}
use Rattle.mtp_assembly.specs.declared.control.ServiceControl.{ServiceControl}
use Rattle.serde_json.specs.Data.{Data}
use Rattle.serde_json.specs.Read.{read}
use Rattle.pol_events.specs.Events.{PlainEvent}
use Rattle.event_json.specs.Lines.{event_of}
use Rattle.event_json.specs.Ranges.{is_in_range}
use Rattle.event_json.specs.Written.{mode_word, origin_word, written_event}
use Rattle.pol_record.specs.Objects.{data_tokens}
use Rattle.pol_record.specs.Texts.{event_text}

-- the text of the event is read as the event
abbrev pub IsReadBack : PlainEvent → Type 0
IsReadBack event = event_of (event_text event) ≡ Ok event

-- the event's names are names and its numbers fit, and its text is read as the value that is written of it
pub record IsTold (event : PlainEvent) : Type 0 where
  pub held : is_in_range event ≡ true
  pub read_back : read (event_text event) ≡ Some (written_event event)

-- the tokens of the value were put behind the others, or none was
abbrev pub Wrote : List Token → List Token → Data → Bool → Type 0
Wrote old new value true = new ≡ old ++ data_tokens value
Wrote old new value false = new ≡ old

-- the tokens of what a service reports
abbrev pub control_tokens : ServiceControl → List Token
control_tokens control =
    token.key (codes "CommandEn") ∷ token.number (decimal control.mask)
    ∷ token.key (codes "Mode") ∷ token.string (mode_word control.mode)
    ∷ token.key (codes "ProcedureCur") ∷ token.number (decimal control.procedure)
    ∷ token.key (codes "Src") ∷ token.string (origin_word control.origin)
    ∷ token.key (codes "StateCur") ∷ token.number (decimal (state_number control.state)) ∷ []
