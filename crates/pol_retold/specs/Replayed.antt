-- The replay of a history's events: its journal has them alone, one a line.
use Rattle.std.specs.Prelude.{◌≡◌, ◌≤◌, ℕ, List, ◌++◌, length, reverse}
use Rattle.std.specs.List.{AllByRecursion, flat_map}
use Rattle.pol_io.specs.declared.limits.TheConstants.{LONGEST_LINE}
use Rattle.pol_events.specs.Events.{PlainEntry}
use Rattle.pol_history.specs.Looking.{History}
use Rattle.pol_history.specs.Runs.{IsLegal}
use Rattle.pol_record.specs.Lines.{closing_text, output_of}
use Rattle.pol_record.specs.Texts.{IsReadBack, answer_text, event_text}
use Rattle.pol_retold.specs.Retold.{with_feed}

-- the text of the event has at most as many bytes as a line may have
abbrev pub IsShortEvent : PlainEntry → Type 0
IsShortEvent entry = length (event_text entry.event) ≤ LONGEST_LINE

-- the journal of a history: its events alone, one a line, the oldest first
abbrev pub journal_of : History → List ℕ
journal_of history = flat_map (λ entry. with_feed (event_text entry.event)) (reverse history)

-- the answer lines of a history, the oldest first
abbrev pub answers_text : History → List ℕ
answers_text history = flat_map (λ entry. answer_text entry.answer) (reverse history)

-- The replay of the journal of a legal history gives its answers, its batch lines and the end line, where each event is
-- read back from its text, and no line is too long.
abbrev pub ReplaysAnswer : Type 0
ReplaysAnswer =
    (history : History) → IsLegal history → AllByRecursion IsReadBack history → AllByRecursion IsShortEvent history
    → output_of (journal_of history) ≡ answers_text history ++ closing_text history
