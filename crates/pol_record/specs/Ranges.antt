-- What holds of every answer in a program: its names are names, and its numbers have their widths.
use Rattle.std.specs.Prelude.{Bool, true, ◌&&◌}
use Rattle.mtp_codes.specs.Numbers.{greatest_u32, is_between}
use Rattle.chart_core.specs.declared.entry.LogEntry.{LogEntry}
use Rattle.chart_core.specs.declared.entry.LogEntry.TheVariants.{Start}
use Rattle.pol_events.specs.declared.answer.Answer.{Answer}
use Rattle.pol_events.specs.declared.answer.Answer.TheVariants.{Done, Ticket, Did, Waiting, Closed, Refused}
use Rattle.event_json.specs.FieldRanges.{are_in_range}
use Rattle.event_json.specs.RuleTable.{rule_row}
use Rattle.pol_record.specs.Rows.{entry_row, obstacle_row}

-- the number of a procedure has 16 bits
abbrev pub is_start_in_range : LogEntry → Bool
is_start_in_range (Start step tag service procedure) = is_between 0 65535 procedure
is_start_in_range _ = true

-- the names in an answer are names, and its numbers have their widths
abbrev pub is_in_range : Answer → Bool
is_in_range Done = true
is_in_range (Ticket ticket) = is_between 0 greatest_u32 ticket
is_in_range (Did entry) = are_in_range (entry_row entry).fields && is_start_in_range entry
is_in_range (Waiting obstacle) = are_in_range (obstacle_row obstacle).fields
is_in_range (Closed outcome) = true
is_in_range (Refused rule) = are_in_range (rule_row rule).fields
