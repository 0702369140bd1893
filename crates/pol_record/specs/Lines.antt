-- The lines of an input, what comes of each, and the output.
use Rattle.std.specs.Prelude.{ℕ, nat_lt, List, [], ◌∷◌, ◌++◌, length, map, Result, Ok, Err, if◌then◌else◌}
use Rattle.std.specs.List.{list_all, flat_map}
use Rattle.pol_io.specs.Pieces.{pieces, line_of}
use Rattle.pol_io.specs.declared.limits.TheConstants.{LONGEST_LINE}
use Rattle.pol_events.specs.Events.{PlainEvent, PlainEntry}
use Rattle.event_json.specs.Lines.{event_of, is_blank_byte}
use Rattle.event_json.specs.declared.fault.LineFault.{LineFault}
use Rattle.event_json.specs.declared.fault.LineFault.TheVariants.{TooLong}
use Rattle.pol_history.specs.Looking.{History}
use Rattle.pol_history.specs.Runs.{run_after, history_after}
use Rattle.pol_record.specs.Texts.{answer_text, fault_text, batches_text, end_text}

-- what a line of the input says: nothing, where it is blank, or an event, or it is at fault
pub data LineMeaning : Type 0 where
  nothing : LineMeaning
  a_fault : (fault : LineFault) → LineMeaning
  an_event : (event : PlainEvent) → LineMeaning

-- an event or a fault, as a line says it
abbrev pub meaning_from : Result PlainEvent LineFault → LineMeaning
meaning_from (Ok event) = an_event event
meaning_from (Err fault) = a_fault fault

-- what a line that isn't too long says
abbrev pub short_meaning : List ℕ → LineMeaning
short_meaning line = if list_all is_blank_byte line then nothing else meaning_from (event_of line)

-- what a line says; a line of more than 1,048,576 bytes is too long, and never blank
unfoldable pub meaning_of : List ℕ → LineMeaning
meaning_of line = if nat_lt LONGEST_LINE (length line) then a_fault TooLong else short_meaning line

-- a line of the input as it was read; the piece is the line with its line feed
pub data InputLine : Type 0 where
  blank : (piece : List ℕ) → InputLine
  faulty : (piece : List ℕ) (fault : LineFault) → InputLine
  happening : (piece : List ℕ) (event : PlainEvent) → InputLine

-- the piece with what its line says
abbrev pub as_input_line : List ℕ → LineMeaning → InputLine
as_input_line piece nothing = blank piece
as_input_line piece (a_fault fault) = faulty piece fault
as_input_line piece (an_event event) = happening piece event

-- a piece of the input, as its line is read
abbrev pub input_line_of : List ℕ → InputLine
input_line_of piece = as_input_line piece (meaning_of (line_of piece))

-- the lines of the input
abbrev pub input_lines_of : List ℕ → List InputLine
input_lines_of bytes = map input_line_of (pieces bytes)

-- the events of the lines
abbrev pub events_in : List InputLine → List PlainEvent
events_in [] = []
events_in (blank piece ∷ items) = events_in items
events_in (faulty piece fault ∷ items) = events_in items
events_in (happening piece event ∷ items) = event ∷ events_in items

-- a line of the input with what came of it
pub data AnsweredLine : Type 0 where
  skipped : (piece : List ℕ) → AnsweredLine
  bad : (piece : List ℕ) (fault : LineFault) → AnsweredLine
  answered : (piece : List ℕ) (entry : PlainEntry) → AnsweredLine

-- each line with its fault or with the next of the entries
abbrev pub answered_lines : List InputLine → List PlainEntry → List AnsweredLine
answered_lines [] entries = []
answered_lines (blank piece ∷ items) entries = skipped piece ∷ answered_lines items entries
answered_lines (faulty piece fault ∷ items) entries = bad piece fault ∷ answered_lines items entries
answered_lines (happening piece event ∷ items) [] = []
answered_lines (happening piece event ∷ items) (entry ∷ entries) = answered piece entry ∷ answered_lines items entries

-- the lines with what comes of them after a history
abbrev pub answered_lines_after : History → List InputLine → List AnsweredLine
answered_lines_after history items = answered_lines items (run_after history (events_in items))

-- the output line of a row; a blank line has none
abbrev pub answered_text : AnsweredLine → List ℕ
answered_text (skipped piece) = []
answered_text (bad piece fault) = fault_text fault
answered_text (answered piece entry) = answer_text entry.answer

-- the output lines of answered_lines
abbrev pub answered_texts : List AnsweredLine → List ℕ
answered_texts answered_lines = flat_map answered_text answered_lines

-- the answer and fault lines of the lines of an input
abbrev pub answers_of : List ℕ → List ℕ
answers_of bytes = answered_texts (answered_lines_after [] (input_lines_of bytes))

-- the history after the lines of an input
abbrev pub history_of : List ℕ → History
history_of bytes = history_after [] (events_in (input_lines_of bytes))

-- what ends the output of a job that leaves this history: the line of each batch in the order of the starts, and the
-- end line
abbrev pub closing_text : History → List ℕ
closing_text history = batches_text history ++ end_text

-- the output: the fault or answer line of each line that isn't blank, the line of each batch, and the end line
abbrev pub output_of : List ℕ → List ℕ
output_of bytes = answers_of bytes ++ closing_text (history_of bytes)
