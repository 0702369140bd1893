-- The commands that answers send.
use Rattle.std.specs.Prelude.{Option, None}
use Rattle.chart_cursor.specs.Commands.{Sent, sent_by}
use Rattle.pol_events.specs.declared.answer.Answer.{Answer}
use Rattle.pol_events.specs.declared.answer.Answer.TheVariants.{Done, Ticket, Did, Waiting, Closed, Refused}

-- the command that an answer sends: that of the entry that it did
abbrev pub sent_command : Answer → Option Sent
sent_command Done = None
sent_command (Ticket ticket) = None
sent_command (Did entry) = sent_by entry
sent_command (Waiting obstacle) = None
sent_command (Closed outcome) = None
sent_command (Refused rule) = None
