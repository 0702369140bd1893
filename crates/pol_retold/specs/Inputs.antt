-- The bytes that are written of a history, and the lines that an audit reads of an input.
use Rattle.std.specs.Prelude.{◌≤◌, ℕ, suc, List, ◌++◌, length, map, reverse}
use Rattle.std.specs.List.{AllByRecursion, flat_map}
use Rattle.pol_io.specs.declared.limits.TheConstants.{LONGEST_LINE}
use Rattle.pol_history.specs.Looking.{History}
use Rattle.pol_history.specs.Runs.{IsLegal}
use Rattle.pol_record.specs.Lines.{closing_text}
use Rattle.pol_record.specs.Texts.{entry_line_text}
use Rattle.pol_audit.specs.declared.judging.TheConstants.{MOST_JUDGED}
use Rattle.pol_jobs.specs.LineWork.{Line, met}
use Rattle.site_json.specs.Texts.{filled_lines}
use Rattle.pol_retold.specs.Retold.{AreGood, IsRetold, run_lines}

-- ---- what is read

-- the lines of an input that aren't blank, as a job meets them
abbrev pub lines_read : List ℕ → List Line
lines_read bytes = map met (filled_lines bytes)

-- ---- what is written

-- all that is written of a run: the line of each entry, the line of each batch, and the end line
abbrev pub run_text : History → List ℕ
run_text history = flat_map entry_line_text (reverse history) ++ closing_text history

-- the line, which has its line feed, has at most as many bytes before it as a line may have
abbrev pub IsShortLine : List ℕ → Type 0
IsShortLine line = length line ≤ suc LONGEST_LINE

-- ---- what is written is read

-- The bytes that are written of a legal history of at most 20,000 entries are audited good, where each entry is read
-- again from its own line, and no line is too long: none of an entry, and none of a batch.
abbrev pub InputsAreGood : Type 0
InputsAreGood =
    (history : History) → IsLegal history → length history ≤ MOST_JUDGED → AllByRecursion IsRetold history
    → AllByRecursion IsShortLine (run_lines history) → AreGood history (lines_read (run_text history))
