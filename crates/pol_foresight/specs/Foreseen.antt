-- What an event would be answered.
use Rattle.std.specs.Prelude.{ℕ, ◌≡◌, Bool, false, not, ◌&&◌, ◌||◌, List, Option, Some, None, is_some, is_none}
use Rattle.std.specs.Prelude.{unwrap_or, Result, Ok, Err, if◌then◌else◌}
use Rattle.mtp_codes.specs.Faults.{when}
use Rattle.mtp_codes.specs.declared.command.Command.{Command}
use Rattle.mtp_assembly.specs.declared.control.ServiceControl.{ServiceControl}
use Rattle.chart_core.specs.declared.entry.LogEntry.{LogEntry}
use Rattle.chart_cursor.specs.declared.sight.Sight.{Sight}
use Rattle.chart_cursor.specs.declared.sight.Sight.TheVariants as sight
use Rattle.pol_events.specs.Events.{PlainEvent}
use Rattle.pol_events.specs.declared.answer.Answer.{Answer}
use Rattle.pol_events.specs.declared.answer.Rule.{Rule}
use Rattle.pol_events.specs.declared.answer.Rule.TheVariants.{AlreadyFrozen, BatchClosed, NoBatch, NotFrozen, NotReported}
use Rattle.pol_desk.specs.Desk.{desk_answer}
use Rattle.pol_history.specs.Answers.{answer_of, is_full}
use Rattle.pol_core.specs.Plants.{PlainPlant, plant_history}
use Rattle.pol_core.specs.declared.standing.Standing.{Standing}

-- the event would be answered so, if the plant's history has room
abbrev pub IsForeseen : PlainPlant → PlainEvent → Answer → Type 0
IsForeseen plant event answer =
    is_full (plant_history plant) ≡ false → answer ≡ answer_of (plant_history plant) event

-- the event would be answered so, whatever its stamp, if the plant's history has room
abbrev pub IsForeseenAt : PlainPlant → (ℕ → PlainEvent) → Answer → Type 0
IsForeseenAt plant event answer = (at : ℕ) → IsForeseen plant (event at) answer

-- how a batch stands that is open, or the rule against one that wasn't started or is closed
abbrev pub open_standing : Option Standing → Result Standing Rule
open_standing None = Err NoBatch
open_standing (Some standing) = if is_some standing.outcome then Err BatchClosed else Ok standing

-- the rule against the freeze of an open batch that stands so
abbrev pub freeze_rule : Bool → Standing → Option Rule
freeze_rule hold standing =
    when (is_some standing.hold && (not hold || unwrap_or standing.hold false)) AlreadyFrozen

-- the rule against the thaw of an open batch that stands so
abbrev pub thaw_rule : Standing → Option Rule
thaw_rule standing = when (is_none standing.hold) NotFrozen

-- what a service reported last, where it is seen
abbrev pub control_in : Sight → Option ServiceControl
control_in sight.Away = None
control_in sight.Unreported = None
control_in (sight.Is view) = Some view.control

-- what an operator's command is answered by what is seen of the service of a docked module
abbrev pub sight_asked : List ℕ → List ℕ → Command → Sight → Result LogEntry Rule
sight_asked tag service command sight.Away = Err (NotReported tag service)
sight_asked tag service command sight.Unreported = Err (NotReported tag service)
sight_asked tag service command (sight.Is view) = desk_answer tag service view command
