-- What is kept of the lines of an input while they are read.
use Rattle.std.specs.Prelude.{suc, ◌==◌, ◌||◌, nat_lt, List, [], ◌∷◌, ◌++◌, length, Bool, Option, Some, None}
use Rattle.std.specs.Prelude.{if◌then◌else◌}
use Rattle.std.specs.List.{fold, list_all}
use Rattle.pol_events.specs.Events.{PlainEntry, plain_event}
use Rattle.pol_events.specs.Orderly.{is_orderly}
use Rattle.pol_events.specs.declared.event.Entry.{Entry}
use Rattle.pol_record.specs.declared.verdicts.Verdict.{Verdict}
use Rattle.pol_audit.specs.Verdict.{Line, entry_on, verdict_on}
use Rattle.pol_audit.specs.declared.judging.TheConstants.{MOST_JUDGED}

-- the entries up to the first line that isn't an entry, the oldest first, and the lines from that one on
pub record Read : Type 0 where
  pub entries : List PlainEntry
  pub behind : List Line

-- nothing was read yet
abbrev pub nothing_read : Read
nothing_read = record { entries = []; behind = [] }

-- what is kept with one more line behind the entries
abbrev pub with_behind : Read → Line → Read
with_behind read line = record { entries = read.entries; behind = read.behind ++ line ∷ [] }

-- what is kept with one more line, before which all lines are entries; it says this entry, if it says one
abbrev pub with_front : Read → Option PlainEntry → Line → Read
with_front read None line = with_behind read line
with_front read (Some entry) line = record { entries = read.entries ++ entry ∷ []; behind = read.behind }

-- what is kept with one more line
abbrev pub with_line : Read → Line → Read
with_line read line =
    if length read.behind == 0 then with_front read (entry_on line) line else with_behind read line

-- no further line changes the verdict: there are more entries than are judged, or more lines behind them than can be
-- wanted
abbrev pub is_decided : Read → Bool
is_decided read = nat_lt MOST_JUDGED (length read.entries) || nat_lt (suc (length read.entries)) (length read.behind)

-- what is kept with one more line, which is left out where the verdict is decided
abbrev pub after_line : Read → Line → Read
after_line read line = if is_decided read then read else with_line read line

-- what is kept where these lines were read
abbrev pub read_all : List Line → Read
read_all lines = fold after_line nothing_read lines

-- the verdict over what was read
abbrev pub verdict_after : Read → Verdict
verdict_after read = verdict_on read.entries read.behind

-- the events of these entries are as a line says them
abbrev pub are_orderly : List Entry → Bool
are_orderly entries = list_all (λ entry. is_orderly (plain_event entry.event)) entries
