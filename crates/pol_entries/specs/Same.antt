-- That two answers are the same: their kinds and their fields are.
use Rattle.std.specs.Prelude.{◌==◌, ◌&&◌, List, [], ◌∷◌, Bool, true, false}
use Rattle.std.specs.Ordering.{int_eq}
use Rattle.std.specs.Str.{bytes_eq}
use Rattle.mtp_codes.specs.declared.value.Reading.{Reading}
use Rattle.mtp_codes.specs.declared.value.Reading.TheVariants.{Whole, Bit}
use Rattle.pol_events.specs.declared.answer.Answer.{Answer}
use Rattle.pol_events.specs.declared.answer.Answer.TheVariants.{Done, Ticket, Did, Waiting, Closed, Refused}
use Rattle.event_json.specs.Fields.{PlainField, PlainFieldValue, number, readings, text}
use Rattle.pol_record.specs.Texts.{entry_fields, obstacle_fields, outcome_name, refusal_fields}
use Rattle.pol_entries.specs.Compared.{same_bit}

-- two readings are the same
abbrev pub same_reading : Reading → Reading → Bool
same_reading (Whole z) (Whole y) = int_eq z y
same_reading (Whole z) (Bit bit) = false
same_reading (Bit bit) (Whole z) = false
same_reading (Bit bit) (Bit other) = same_bit bit other

-- two lists of readings are the same
abbrev pub same_readings : List Reading → List Reading → Bool
same_readings [] [] = true
same_readings [] (other ∷ others) = false
same_readings (reading ∷ told) [] = false
same_readings (reading ∷ told) (other ∷ others) = same_reading reading other && same_readings told others

-- two values of fields are the same
abbrev pub same_value : PlainFieldValue → PlainFieldValue → Bool
same_value (text told) (text other) = bytes_eq told other
same_value (number told) (number other) = told == other
same_value (readings told) (readings other) = same_readings told other
same_value (text told) _ = false
same_value (number told) _ = false
same_value (readings told) _ = false

-- two fields are the same
abbrev pub same_field : PlainField → PlainField → Bool
same_field field other = bytes_eq field.key other.key && same_value field.value other.value

-- two lists of fields are the same
abbrev pub same_fields : List PlainField → List PlainField → Bool
same_fields [] [] = true
same_fields [] (other ∷ others) = false
same_fields (field ∷ told) [] = false
same_fields (field ∷ told) (other ∷ others) = same_field field other && same_fields told others

-- two answers are the same
abbrev pub same_answer : Answer → Answer → Bool
same_answer Done Done = true
same_answer (Ticket ticket) (Ticket other) = ticket == other
same_answer (Did entry) (Did other) = same_fields (entry_fields entry) (entry_fields other)
same_answer (Waiting obstacle) (Waiting other) = same_fields (obstacle_fields obstacle) (obstacle_fields other)
same_answer (Closed outcome) (Closed other) = bytes_eq (outcome_name outcome) (outcome_name other)
same_answer (Refused rule) (Refused other) = same_fields (refusal_fields rule) (refusal_fields other)
same_answer _ _ = false
