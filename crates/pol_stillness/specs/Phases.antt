-- How far a simulated service is with the commands that were sent to it: nothing is left to look at, or one command
-- that it takes.
use Rattle.std.specs.Prelude.{ℕ, ◌≡◌, ◌&&◌, not, Bool, true, false, List, ◌∷◌, Option, Some, None, is_some}
use Rattle.std.specs.Prelude.{if◌then◌else◌}
use Rattle.mtp_codes.specs.declared.command.Command.{Command}
use Rattle.mtp_codes.specs.declared.command.Command.TheVariants.{Complete}
use Rattle.mtp_codes.specs.declared.state.State.{State}
use Rattle.mtp_machine.specs.Machine.{command_target, same_command}
use Rattle.mtp_desc.specs.Plain.{PlainDescription}
use Rattle.mtp_sim.specs.declared.service.SimService.{SimService}
use Rattle.mtp_sim.specs.Ticks.{control_now, is_untold, changes, runs_through, service_ticked, is_reported}
use Rattle.mtp_sim.specs.Commands.{asked_procedure, procedure_after, service_took}
use Rattle.chart_core.specs.declared.entry.LogEntry.{LogEntry}
use Rattle.chart_core.specs.declared.entry.LogEntry.TheVariants.{Start}
use Rattle.chart_cursor.specs.Commands.{Sent, sent_by}
use Rattle.chart_core.specs.Entries.{chart_entry}
use Rattle.pol_events.specs.Events.{report, advance}
use Rattle.pol_events.specs.declared.answer.Answer.TheVariants.{Done, Did}
use Rattle.pol_history.specs.Looking.{History, past}
use Rattle.pol_history.specs.Modules.{since_docking, description_by}
use Rattle.pol_site.specs.Stories.{story, procedure_started, is_answered, controls_in}
use Rattle.pol_site.specs.Following.{control_due}
use Rattle.pol_simulated.specs.Units.{IsTold}
use Rattle.pol_stillness.specs.Law.{IsSentStill}

-- the procedure that an entry of a log asks for
abbrev pub asked_in : LogEntry → ℕ
asked_in (Start step tag service procedure) = procedure
asked_in _ = 0

-- the service changed by a command that it took, and hasn't reported that
abbrev pub is_changed : SimService → Bool
is_changed service = is_untold service && is_some service.last

-- what a story wants of a service: the procedure that was started last, and whether its last command was answered
pub record Wanted : Type 0 where
  pub procedure : ℕ
  pub answered : Bool

-- what a story wants of the service of a name
abbrev pub wanted : List ℕ → List ℕ → History → Wanted
wanted tag name told = record { procedure = procedure_started tag name told; answered = is_answered tag told name }

-- The service looked at every command: it runs the procedure that was started last, and a command is unanswered exactly
-- where it took it and hasn't reported.
pub record IsSettled (asks : Wanted) (service : SimService) : Type 0 where
  pub runs : asks.procedure ≡ service.procedure
  pub answered : asks.answered ≡ not (is_changed service)

-- The service is still, and will take the command of this entry; it then runs the procedure that was started last.
pub record IsGiven (description : PlainDescription) (asks : Wanted) (service : SimService) (entry : LogEntry) : Type 0
  where
    pub sent : Sent
    pub sends : sent_by entry ≡ Some sent
    pub tells : is_untold service ≡ false
    pub still : changes description service ≡ false
    pub unanswered : asks.answered ≡ false
    pub target : State
    pub leads : command_target service.state sent.command ≡ Some target
    pub waits : (same_command sent.command Complete && runs_through description service) ≡ false
    pub runs : procedure_after description service sent.command (asked_in entry) ≡ Some asks.procedure

-- the phase of a service, by the command that it hasn't looked at, if there is one
abbrev pub IsPhaseOf : PlainDescription → Wanted → SimService → Option LogEntry → Type 0
IsPhaseOf description asks service None = IsSettled asks service
IsPhaseOf description asks service (Some entry) = IsGiven description asks service entry

-- the phase of a service, by the command that it hasn't looked at, if there is one, and by a story
abbrev pub IsPhase : PlainDescription → List ℕ → History → SimService → Option LogEntry → Type 0
IsPhase description tag told service ahead = IsPhaseOf description (wanted tag service.name told) service ahead

-- what was reported after a tick that looked at the service
abbrev pub told_after : PlainDescription → List ℕ → ℕ → SimService → History → History
told_after description tag limit service told =
    if is_reported description limit service
    then record {
      event = report 0 tag service.name (control_now description (service_ticked description limit service));
      answer = Done;
    } ∷ told
    else told

-- A tick keeps the phase of a service; what it reports is due; and with a command ahead it reports nothing.
pub record TickKeepsPhase (description : PlainDescription) (tag : List ℕ) (limit : ℕ) (service : SimService)
    (told : History) (ahead : Option LogEntry) : Type 0 where
  pub phase :
      IsPhase description tag (told_after description tag limit service told)
      (service_ticked description limit service) ahead
  pub due :
      is_reported description limit service ≡ true → (past : History) → description_by past ≡ Some description →
      control_now description (service_ticked description limit service)
      ≡ control_due tag service.name past told (service_ticked description limit service).state

-- Every tick keeps the phase of a service that it looks at.
abbrev pub TicksKeepPhases : Type 0
TicksKeepPhases =
    (description : PlainDescription) (tag : List ℕ) (limit : ℕ) (service : SimService) (told : History)
    (ahead : Option LogEntry) →
    IsPhase description tag told service ahead → TickKeepsPhase description tag limit service told ahead

-- the service takes the command of this entry, and then nothing is ahead
pub record IsTaken (description : PlainDescription) (tag : List ℕ) (told : History) (service : SimService)
    (given : Command) (procedure : ℕ) : Type 0 where
  pub after : SimService
  pub took : service_took description service given procedure ≡ Some after
  pub name_is : after.name ≡ service.name
  pub settled : IsSettled (wanted tag after.name told) after

-- A command ahead is taken.
abbrev pub TakesSettle : Type 0
TakesSettle =
    (description : PlainDescription) (tag : List ℕ) (service : SimService) (told : History) (entry : LogEntry)
    (given : IsGiven description (wanted tag service.name told) service entry) →
    IsTaken description tag told service given.sent.command (asked_in entry)

-- A command that an advance sends to a service that is settled and in step is ahead of it.
abbrev pub SendsGive : Type 0
SendsGive =
    (description : PlainDescription) (service : SimService) (older : History) (at : ℕ) (batch : List ℕ) (did : LogEntry)
    (sent : Sent) →
    is_some (chart_entry did) ≡ true → sent_by did ≡ Some sent → sent.service ≡ service.name →
    IsSentStill older sent → description_by (past sent.tag older) ≡ Some description →
    IsTold description service (controls_in service.name (since_docking (past sent.tag older))) →
    ((step tag named : List ℕ) (procedure : ℕ) → did ≡ Start step tag named procedure →
    asked_procedure service.name procedure description ≡ Some procedure) →
    IsSettled (wanted sent.tag service.name (story sent.tag older)) service →
    IsGiven description
    (wanted sent.tag service.name (record { event = advance at batch; answer = Did did } ∷ story sent.tag older))
    service did
