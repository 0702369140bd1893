-- The commands that were sent to a module.
use Rattle.std.specs.Prelude.{ℕ, ◌+◌, List, [], ◌∷◌, Option, Some, None, if◌then◌else◌}
use Rattle.std.specs.Str.{bytes_eq}
use Rattle.mtp_codes.specs.declared.command.Command.{Command}
use Rattle.mtp_codes.specs.declared.command.Command.TheVariants as command
use Rattle.mtp_codes.specs.declared.mode.Speaker.TheVariants.{Recipe, Operator}
use Rattle.chart_core.specs.declared.entry.LogEntry.{LogEntry}
use Rattle.chart_core.specs.declared.entry.LogEntry.TheVariants.{Start, Finish, Reset, Stop, Hold, Unhold, Asked}
use Rattle.pol_events.specs.Events.{PlainEvent, PlainEntry, advance}
use Rattle.pol_events.specs.declared.answer.Answer.{Answer}
use Rattle.pol_events.specs.declared.answer.Answer.TheVariants.{Did}
use Rattle.pol_core.specs.declared.commands.Sent.{Sent}

-- a recipe's command
abbrev pub by_recipe : Option (List ℕ) → List ℕ → List ℕ → Command → ℕ → Sent
by_recipe batch step service command procedure =
    record {
      speaker = Recipe;
      batch = batch;
      step = Some step;
      service = service;
      command = command;
      procedure = procedure;
    }

-- an operator's command
abbrev pub by_operator : Option (List ℕ) → List ℕ → Command → Sent
by_operator batch service command =
    record { speaker = Operator; batch = batch; step = None; service = service; command = command; procedure = 0 }

-- the command of an entry of a log, with the tag of the module that it goes to; Finish sends Complete
abbrev pub entry_command : Option (List ℕ) → LogEntry → Option (List ℕ × Sent)
entry_command batch (Start step tag service procedure) =
    Some (tag, by_recipe batch step service command.Start procedure)
entry_command batch (Finish step tag service) = Some (tag, by_recipe batch step service command.Complete 0)
entry_command batch (Reset step tag service) = Some (tag, by_recipe batch step service command.Reset 0)
entry_command batch (Stop step tag service) = Some (tag, by_recipe batch step service command.Stop 0)
entry_command batch (Hold step tag service) = Some (tag, by_recipe batch step service command.Hold 0)
entry_command batch (Unhold step tag service) = Some (tag, by_recipe batch step service command.Unhold 0)
entry_command batch (Asked tag service command) = Some (tag, by_operator batch service command)
entry_command batch _ = None

-- the batch that an event advances
abbrev pub batch_in : PlainEvent → Option (List ℕ)
batch_in (advance at batch) = Some batch
batch_in _ = None

-- a command, where it goes to this module
abbrev pub for_tag : List ℕ → Option (List ℕ × Sent) → Option Sent
for_tag tag None = None
for_tag tag (Some sent) = if bytes_eq sent.0 tag then Some sent.1 else None

-- the command that an answer sends to the module
abbrev pub answer_command : List ℕ → Option (List ℕ) → Answer → Option Sent
answer_command tag batch (Did entry) = for_tag tag (entry_command batch entry)
answer_command tag batch _ = None

-- the command that an entry of a history sends to the module
abbrev pub sent_to : List ℕ → PlainEntry → Option Sent
sent_to tag entry = answer_command tag (batch_in entry.event) entry.answer

-- a command that was found at a place, with the place after it; or what is found later
abbrev pub found_at : ℕ → Option Sent → Option Sent × ℕ → Option Sent × ℕ
found_at place (Some sent) later = (Some sent, place + 1)
found_at place None later = later

-- the first command to the module among these entries, the oldest first, which begin at the place; with the place after
-- it, or none with the place after all entries
abbrev pub next_sent : List ℕ → ℕ → List PlainEntry → Option Sent × ℕ
next_sent tag place [] = (None, place)
next_sent tag place (entry ∷ later) = found_at place (sent_to tag entry) (next_sent tag (place + 1) later)
