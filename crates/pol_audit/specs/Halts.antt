-- The entries of a log after which its batch is stopped.
use Rattle.std.specs.Prelude.{◌||◌, Bool}
use Rattle.chart_core.specs.declared.entry.LogEntry.{LogEntry}
use Rattle.chart_cursor.specs.Logs.{is_broke, is_stop_asked}

-- the entry says that the batch broke, or that the operator had it stopped
abbrev pub is_halt : LogEntry → Bool
is_halt entry = is_broke entry || is_stop_asked entry
