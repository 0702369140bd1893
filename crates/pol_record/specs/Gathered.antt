-- What one pass over a history gathers of its batches: the starts in their order, and of each batch what its past says.
use Rattle.std.specs.Prelude.{ℕ, ◌≡◌, List, [], ◌++◌, Option, None, if◌then◌else◌}
use Rattle.std.specs.List.{cons_option}
use Rattle.std.specs.Map.{lookup}
use Rattle.std.specs.Option.{option_map, option_map_or, option_or}
use Rattle.std.specs.Str.{bytes_eq}
use Rattle.chart_core.specs.declared.entry.LogEntry.{LogEntry}
use Rattle.chart_core.specs.declared.next.Outcome.{Outcome}
use Rattle.pol_events.specs.Bound.{plain_allocation}
use Rattle.pol_events.specs.Events.{PlainEntry}
use Rattle.pol_history.specs.Batches.{Started, starting, start_by, started_batch, taken, log_by, closing, outcome_by}
use Rattle.pol_history.specs.Batches.{batches}
use Rattle.pol_history.specs.Looking.{History, is_accepted, past_of_batch}
use Rattle.pol_record.specs.Texts.{started_text}
use Rattle.pol_record.specs.declared.gathering.BatchRecords.{BatchRecords}
use Rattle.pol_record.specs.declared.records.BatchRecord.{BatchRecord}
use Rattle.pol_record.specs.declared.records.Start.{Start}

-- ---- what is known of one batch

-- a batch's start, its log and its outcome
pub record PlainRecord : Type 0 where
  pub start : Option Started
  pub log : List LogEntry
  pub outcome : Option Outcome

-- what a batch's past says of it
abbrev pub record_by : History → PlainRecord
record_by past = record { start = start_by past; log = log_by past; outcome = outcome_by past }

-- what is known of a batch, with one more entry of the batch
abbrev pub with_entry : PlainEntry → PlainRecord → PlainRecord
with_entry entry known = record {
  start = option_or (starting entry.event) known.start;
  log = known.log ++ cons_option (taken entry.answer) [];
  outcome = option_or (closing entry.answer) known.outcome;
}

-- the line of a batch of which this is known
abbrev pub record_text : List ℕ → PlainRecord → List ℕ
record_text batch known = started_text batch known.start known.log known.outcome

-- what contracts see of a start
abbrev pub plain_start : Start → Started
plain_start start = record { recipe = start.recipe; binds = plain_allocation start.binds }

-- what contracts see of a record
abbrev pub plain_record : BatchRecord → PlainRecord
plain_record known = record {
  start = option_map plain_start known.start;
  log = known.log.items;
  outcome = known.outcome;
}

-- ---- whose an entry is

-- the batch that an entry starts
abbrev pub newly_started : PlainEntry → Option (List ℕ)
newly_started entry = if is_accepted entry.answer then started_batch entry.event else None

-- ---- what is known of all batches

-- what is known of a batch: nothing, where it has no record
abbrev pub known_of : List (List ℕ × BatchRecord) → List ℕ → PlainRecord
known_of records batch = option_map_or plain_record (lookup (bytes_eq batch) records) (record_by [])

-- what was gathered is what looking back over the history finds
pub record IsGathered (gathered : BatchRecords) (history : History) : Type 0 where
  pub started : gathered.started.items ≡ batches history
  pub known : (batch : List ℕ) → known_of gathered.records.entries batch ≡ record_by (past_of_batch batch history)
