-- The verdict over the lines of an input that aren't blank: whether they are a true history, and what follows one.
use Rattle.std.specs.Prelude.{ℕ, suc, nat_lt, List, [], ◌∷◌, ◌++◌, length, map, reverse, take, drop, Bool, false}
use Rattle.std.specs.Prelude.{Option, Some, None, if◌then◌else◌}
use Rattle.std.specs.Result.{result_ok}
use Rattle.std.specs.Str.{bytes_eq}
use Rattle.pol_events.specs.Events.{PlainEntry}
use Rattle.pol_history.specs.Batches.{batches}
use Rattle.pol_history.specs.Looking.{History}
use Rattle.pol_record.specs.Texts.{batch_text, end_text}
use Rattle.pol_record.specs.declared.verdicts.Verdict.{Verdict}
use Rattle.pol_record.specs.declared.verdicts.Verdict.TheVariants as verdict
use Rattle.pol_entries.specs.Entries.{entry_of}
use Rattle.pol_audit.specs.Judging.{judged}
use Rattle.pol_audit.specs.declared.judging.Judged.{Judged}
use Rattle.pol_audit.specs.declared.judging.Judged.TheVariants.{Good, Wrong}
use Rattle.pol_audit.specs.declared.judging.TheConstants.{MOST_JUDGED}

-- a line that isn't blank: its bytes without the line feed, or none where they are more than a line may have
abbrev pub Line : Type 0
Line = Option (List ℕ)

-- the entry that a line says, if it says one
abbrev pub entry_on : Line → Option PlainEntry
entry_on None = None
entry_on (Some bytes) = result_ok (entry_of bytes)

-- an entry before these, if there is one
abbrev pub run_from : Option PlainEntry → List PlainEntry → List PlainEntry
run_from None later = []
run_from (Some entry) later = entry ∷ later

-- the longest run of entries from the first line on, the oldest first
abbrev pub entries_of : List Line → List PlainEntry
entries_of [] = []
entries_of (line ∷ lines) = run_from (entry_on line) (entries_of lines)

-- the lines behind the longest run of entries
abbrev pub lines_behind : List Line → List Line
lines_behind lines = drop (length (entries_of lines)) lines

-- the lines that are to follow the entries of a history: that of each batch in the order of the starts, and the end
-- line
abbrev pub closing_lines : History → List (List ℕ)
closing_lines history = map (batch_text history) (batches history) ++ end_text ∷ []

-- the line is the wanted one, byte for byte; a line that is too long never is
abbrev pub is_line : List ℕ → Line → Bool
is_line wanted None = false
is_line wanted (Some bytes) = bytes_eq wanted (bytes ++ 10 ∷ [])

-- the number of the first line that differs from the wanted ones, is missing or is too many, where the first line has
-- this number
abbrev pub first_other : ℕ → List (List ℕ) → List Line → Option ℕ
first_other place [] [] = None
first_other place [] (line ∷ lines) = Some place
first_other place (wanted ∷ others) [] = Some place
first_other place (wanted ∷ others) (line ∷ lines) =
    if is_line wanted line then first_other (suc place) others lines else Some place

-- the verdict over the lines behind so many right entries
abbrev pub by_tail : ℕ → Option ℕ → Verdict
by_tail count None = verdict.Good count
by_tail count (Some place) = verdict.WrongTail place

-- the verdict over right entries and the lines behind them
abbrev pub by_lines : List PlainEntry → List Line → Verdict
by_lines entries lines =
    by_tail (length entries) (first_other (length entries) (closing_lines (reverse entries)) lines)

-- the verdict over entries, by what was found of the first 20,000 of them, and over the lines behind them
abbrev pub by_answers : List PlainEntry → List Line → Judged → Verdict
by_answers entries lines (Wrong place says) = verdict.WrongAnswer place says
by_answers entries lines Good =
    if nat_lt MOST_JUDGED (length entries) then verdict.TooMany MOST_JUDGED
    else by_lines entries lines

-- the verdict over entries and the lines behind them
abbrev pub verdict_on : List PlainEntry → List Line → Verdict
verdict_on entries lines = by_answers entries lines (judged (take MOST_JUDGED entries))

-- the verdict over the lines of an input that aren't blank
unfoldable pub verdict_of : List Line → Verdict
verdict_of lines = verdict_on (entries_of lines) (lines_behind lines)
