-- Values whose texts are exact, and what is known of an event that was written.
use Rattle.std.specs.Prelude.{◌≡◌, ◌<◌, None, Some, Ok}
use Rattle.std.specs.Str.{IsUtf8}
use Rattle.json.specs.Lex.{tokens}
use Rattle.serde_json.specs.Data.{Data, depth}
use Rattle.serde_json.specs.Read.{max_depth, read}
use Rattle.serde_json.specs.Written.{compact_text}
use Rattle.pol_events.specs.Events.{PlainEvent}
use Rattle.event_json.specs.Forms.{event_in}
use Rattle.event_json.specs.Lines.{fault_within}
use Rattle.event_json.specs.Written.{written_event}
use Rattle.pol_record.specs.Objects.{data_tokens}

-- the text of the value is UTF-8, has the value's tokens, and is read as the value
pub record IsExact (value : Data) : Type 0 where
  pub utf8 : IsUtf8 (compact_text value)
  pub tokens_are : tokens (compact_text value) ≡ data_tokens value
  pub read_back : read (compact_text value) ≡ Some value

-- what is written of the event is exact, nests less deep than a line may, and says the event
pub record IsWritten (event : PlainEvent) : Type 0 where
  pub exact : IsExact (written_event event)
  pub shallow : depth (written_event event) < max_depth
  pub again : event_in (written_event event) ≡ Ok event
  pub faultless : fault_within event ≡ None
