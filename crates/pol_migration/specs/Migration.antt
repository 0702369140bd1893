-- A journal of version 1, its output, and the journal of version 2 that it becomes.
use Rattle.std.specs.Prelude.{ℕ, ◌≡◌, nat_lt, List, [], ◌∷◌, ◌++◌, length, map, Bool, true, false, if◌then◌else◌}
use Rattle.std.specs.List.{filter, flat_map, list_all}
use Rattle.pol_io.specs.Pieces.{pieces, line_of}
use Rattle.pol_io.specs.declared.limits.TheConstants.{LONGEST_LINE}
use Rattle.pol_events.specs.Events.{PlainEvent, freeze}
use Rattle.event_json.specs.Lines.{is_blank_byte}
use Rattle.event_json.specs.Version1.{event_of_version_1}
use Rattle.event_json.specs.Written.{written_event}
use Rattle.event_json.specs.declared.fault.LineFault.TheVariants.{TooLong}
use Rattle.pol_history.specs.Looking.{History}
use Rattle.pol_history.specs.Runs.{history_after}
use Rattle.pol_record.specs.Lines.{LineMeaning, nothing, a_fault, an_event, meaning_from, InputLine, as_input_line}
use Rattle.pol_record.specs.Lines.{events_in, AnsweredLine, skipped, bad, answered, answered_lines_after}
use Rattle.pol_record.specs.Lines.{answered_texts, closing_text, output_of}
use Rattle.pol_record.specs.Texts.{line_text}

-- ---- the output by version 1

-- what a line of version 1 says that isn't too long
abbrev pub short_meaning_of_version_1 : List ℕ → LineMeaning
short_meaning_of_version_1 line =
    if list_all is_blank_byte line then nothing else meaning_from (event_of_version_1 line)

-- what a line of version 1 says
unfoldable pub meaning_of_version_1 : List ℕ → LineMeaning
meaning_of_version_1 line =
    if nat_lt LONGEST_LINE (length line) then a_fault TooLong else short_meaning_of_version_1 line

-- a piece of the input, as its line is read by version 1
abbrev pub input_line_of_version_1 : List ℕ → InputLine
input_line_of_version_1 piece = as_input_line piece (meaning_of_version_1 (line_of piece))

-- the lines of the input with what comes of them by version 1
abbrev pub answered_lines_of_version_1 : List ℕ → List AnsweredLine
answered_lines_of_version_1 bytes = answered_lines_after [] (map input_line_of_version_1 (pieces bytes))

-- the history after the lines of the input by version 1
abbrev pub history_of_version_1 : List ℕ → History
history_of_version_1 bytes = history_after [] (events_in (map input_line_of_version_1 (pieces bytes)))

-- the line isn't at fault
abbrev pub is_faultless : AnsweredLine → Bool
is_faultless (skipped piece) = true
is_faultless (bad piece fault) = false
is_faultless (answered piece entry) = true

-- the output by version 1 without its fault lines
abbrev pub faultless_output_of_version_1 : List ℕ → List ℕ
faultless_output_of_version_1 bytes =
    answered_texts (filter is_faultless (answered_lines_of_version_1 bytes))
    ++ closing_text (history_of_version_1 bytes)

-- ---- the migrated journal

-- what the line of an event becomes: the text of a freeze, any other line as it is, each with its line feed
abbrev pub migrated_event : List ℕ → PlainEvent → List ℕ
migrated_event line (freeze at batch hold) = line_text (written_event (freeze at batch hold))
migrated_event line _ = line ++ 10 ∷ []

-- what a line becomes by what it says: a blank line and a line at fault become nothing
abbrev pub migrated_line : List ℕ → LineMeaning → List ℕ
migrated_line line nothing = []
migrated_line line (a_fault fault) = []
migrated_line line (an_event event) = migrated_event line event

-- what a line of version 1 becomes
abbrev pub migrated_of : List ℕ → List ℕ
migrated_of line = migrated_line line (meaning_of_version_1 line)

-- what a journal of version 1 becomes
abbrev pub migrated : List ℕ → List ℕ
migrated bytes = flat_map (λ piece. migrated_of (line_of piece)) (pieces bytes)

-- The output of a migrated journal is the output of the journal by version 1, without its fault lines.
abbrev pub MigrationKeepsOutputs : Type 0
MigrationKeepsOutputs = (bytes : List ℕ) → output_of (migrated bytes) ≡ faultless_output_of_version_1 bytes
