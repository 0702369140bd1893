-- A module's story: its accepted events, and the entries whose answers send it a command. What is found there is a
-- function of the story. No site is named here.
use Rattle.std.specs.Prelude.{ℕ, Bool, true, false, ◌&&◌, ◌||◌, List, filter, filter_map, length, Option, Some, None}
use Rattle.std.specs.Prelude.{is_some, unwrap_or, if◌then◌else◌}
use Rattle.std.specs.List.{list_all}
use Rattle.std.specs.Str.{bytes_eq}
use Rattle.mtp_codes.specs.declared.command.Command.{Command}
use Rattle.mtp_codes.specs.declared.command.Command.TheVariants as command
use Rattle.mtp_machine.specs.Machine.{same_command}
use Rattle.mtp_assembly.specs.declared.control.ServiceControl.{ServiceControl}
use Rattle.mtp_desc.specs.Plain.{PlainDescription}
use Rattle.mtp_sim.specs.Commands.{default_number}
use Rattle.chart_core.specs.declared.entry.LogEntry.{LogEntry}
use Rattle.chart_core.specs.declared.entry.LogEntry.TheVariants.{Start, Asked}
use Rattle.chart_cursor.specs.Commands.{Sent}
use Rattle.pol_events.specs.Events.{PlainEntry}
use Rattle.pol_history.specs.Looking.{History, last_of, is_accepted_of}
use Rattle.pol_history.specs.Modules.{since_docking, reported, description_by}
use Rattle.pol_history.specs.Batches.{taken}
use Rattle.pol_history.specs.Commands.{sent_command}

-- a command, where it goes to the module
abbrev pub if_to : List ℕ → Option Sent → Option Sent
if_to tag None = None
if_to tag (Some sent) = if bytes_eq sent.tag tag then Some sent else None

-- the command that an entry sends to the module
abbrev pub sent_to : List ℕ → PlainEntry → Option Sent
sent_to tag entry = if_to tag (sent_command entry.answer)

-- the entry is an accepted event of the module, or sends a command to it
abbrev pub touches : List ℕ → PlainEntry → Bool
touches tag entry = is_accepted_of tag entry || is_some (sent_to tag entry)

-- the entries that touch the module: its story
abbrev pub story : List ℕ → History → History
story tag history = filter (touches tag) history

-- the command, if there is one, is for the service
abbrev pub is_for : List ℕ → Option Sent → Bool
is_for service None = false
is_for service (Some sent) = bytes_eq sent.service service

-- the command, if there is one, is this one and for the service
abbrev pub is_given : List ℕ → Command → Option Sent → Bool
is_given service command None = false
is_given service command (Some sent) = bytes_eq sent.service service && same_command sent.command command

-- how often the command was sent to the module's service since docking, by the module's story
abbrev pub times_sent : List ℕ → List ℕ → Command → History → ℕ
times_sent tag service command story =
    length (filter (λ entry. is_given service command (sent_to tag entry)) (since_docking story))

-- the procedure that an entry of a log starts; a start by the desk asks for the default one
abbrev pub started_by : List ℕ → List ℕ → Option PlainDescription → LogEntry → Option ℕ
started_by tag service description (Start step other named procedure) =
    if bytes_eq other tag && bytes_eq named service then Some procedure else None
started_by tag service None (Asked other named given) = None
started_by tag service (Some description) (Asked other named given) =
    if bytes_eq other tag && (bytes_eq named service && same_command given command.Start)
    then default_number service description
    else None
started_by tag service description _ = None

-- the procedure that an answer starts
abbrev pub started_in : List ℕ → List ℕ → Option PlainDescription → Option LogEntry → Option ℕ
started_in tag service description None = None
started_in tag service description (Some entry) = started_by tag service description entry

-- the procedure that was started last on the module's service since docking, 0 before the first, by the module's story
abbrev pub procedure_started : List ℕ → List ℕ → History → ℕ
procedure_started tag service story =
    unwrap_or
    (last_of (λ entry. started_in tag service (description_by story) (taken entry.answer)) (since_docking story)) 0

-- whether an entry answers the commands to the service: a report of it does, and one more command leaves one open
abbrev pub answering : List ℕ → List ℕ → PlainEntry → Option Bool
answering tag service entry =
    if is_some (reported service entry.event) then Some true
    else if is_for service (sent_to tag entry) then Some false
    else None

-- every command to the service since docking is followed by a report of it, by the module's story
abbrev pub is_answered : List ℕ → History → List ℕ → Bool
is_answered tag story service = unwrap_or (last_of (answering tag service) (since_docking story)) true

-- a command, if there is one, is followed by a report of its service
abbrev pub is_sent_answered : List ℕ → History → Option Sent → Bool
is_sent_answered tag story None = true
is_sent_answered tag story (Some sent) = is_answered tag story sent.service

-- every command to the module since docking is followed by a report of its service
abbrev pub are_answered : List ℕ → History → Bool
are_answered tag story = list_all (λ entry. is_sent_answered tag story (sent_to tag entry)) (since_docking story)

-- what the service reported in these entries, the newest first
abbrev pub controls_in : List ℕ → History → List ServiceControl
controls_in service entries = filter_map (λ entry. reported service entry.event) entries
