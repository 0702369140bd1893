-- How far a simulated service is in a history, whose commands it looks at one by one.
use Rattle.std.specs.Prelude.{ℕ, suc, ◌≡◌, ◌≤◌, ◌&&◌, nat_le, true, false, List, [], ◌∷◌, length, Option, Some, None}
use Rattle.std.specs.Prelude.{if◌then◌else◌}
use Rattle.std.specs.List.{cons_option}
use Rattle.mtp_desc.specs.Plain.{PlainDescription}
use Rattle.mtp_sim.specs.declared.service.SimService.{SimService}
use Rattle.mtp_sim.specs.Sims.{PlainSim, first_service}
use Rattle.mtp_sim.specs.Ticks.{control_now, is_untold, service_ticked, is_reported}
use Rattle.chart_core.specs.declared.entry.LogEntry.{LogEntry}
use Rattle.chart_cursor.specs.Commands.{Sent, sent_by}
use Rattle.pol_events.specs.Events.{advance, report, PlainEntry}
use Rattle.pol_events.specs.declared.answer.Answer.TheVariants.{Done, Did}
use Rattle.pol_history.specs.Looking.{History, past}
use Rattle.pol_history.specs.Modules.{is_moving, since_docking, description_by}
use Rattle.pol_history.specs.Batches.{taken}
use Rattle.pol_history.specs.Runs.{IsLegal, IsOrderly}
use Rattle.pol_site.specs.Sites.{PlainSite}
use Rattle.pol_site.specs.Stories.{sent_to, if_to, touches, story, is_for, answering, started_in, controls_in}
use Rattle.pol_site.specs.Stories.{are_answered}
use Rattle.pol_site.specs.Following.{FollowsSite}
use Rattle.pol_site.specs.Commanded.{IsCommanded}
use Rattle.pol_simulated.specs.Units.{IsTold, IsInStep, service_called}
use Rattle.pol_simulated.specs.Places.{Found, next_command}
use Rattle.pol_stillness.specs.Phases.{asked_in, wanted, Wanted, IsPhaseOf, IsTaken}

-- the entries of logs from a place on that command the service, the newest first
abbrev pub unlooked : List ℕ → List ℕ → ℕ → History → List LogEntry
unlooked tag name from [] = []
unlooked tag name from (entry ∷ older) =
    if nat_le from (length older) && is_for name (sent_to tag entry)
    then cons_option (taken entry.answer) (unlooked tag name from older)
    else unlooked tag name from older

-- the list of the entry that is there, if one is
abbrev pub list_of : Option LogEntry → List LogEntry
list_of None = []
list_of (Some did) = did ∷ []

-- At most one command is ahead of the service, and it is in the phase for that, where these entries are left to look at
-- and a story wants this of it.
pub record IsServedBy (description : PlainDescription) (left : List LogEntry) (asks : Wanted) (service : SimService) :
    Type 0 where
  pub ahead : Option LogEntry
  pub is_ahead : left ≡ list_of ahead
  pub phase : IsPhaseOf description asks service ahead

-- the service is served in a history from a place on
abbrev pub IsServed : PlainDescription → List ℕ → ℕ → History → SimService → Type 0
IsServed description tag from history service =
    IsServedBy description (unlooked tag service.name from history) (wanted tag service.name (story tag history))
    service

-- A new service is served.
abbrev pub FirstsAreServed : Type 0
FirstsAreServed =
    (description : PlainDescription) (tag name : List ℕ) (from : ℕ) (history : History) →
    since_docking (story tag history) ≡ [] → length history ≤ from →
    IsServed description tag from history (first_service name)

-- An advance that commands a service leaves it served, in a history that follows its site.
abbrev pub SendsServe : Type 0
SendsServe =
    (site : PlainSite) (description : PlainDescription) (service : SimService) (older : History) (at : ℕ)
    (batch : List ℕ) (did : LogEntry) (sent : Sent) (from : ℕ) →
    IsLegal (record { event = advance at batch; answer = Did did } ∷ older) →
    IsOrderly (record { event = advance at batch; answer = Did did } ∷ older) →
    FollowsSite site (record { event = advance at batch; answer = Did did } ∷ older) → IsCommanded older →
    sent_by did ≡ Some sent → sent.service ≡ service.name → from ≤ length older →
    description_by (past sent.tag older) ≡ Some description →
    IsTold description service (controls_in service.name (since_docking (past sent.tag older))) →
    IsServed description sent.tag from older service →
    IsServed description sent.tag from (record { event = advance at batch; answer = Did did } ∷ older) service

-- An entry that doesn't command a service, nor report it, nor move its module, leaves it served.
abbrev pub OthersServe : Type 0
OthersServe =
    (description : PlainDescription) (tag : List ℕ) (service : SimService) (older : History) (entry : PlainEntry)
    (from : ℕ) →
    is_for service.name (sent_to tag entry) ≡ false →
    (touches tag entry ≡ true →
    (is_moving entry.event ≡ false) × (answering tag service.name entry ≡ None)
    × ((d : Option PlainDescription) → started_in tag service.name d (taken entry.answer) ≡ None)) →
    IsServed description tag from older service → IsServed description tag from (entry ∷ older) service

-- A tick that looks at a service leaves it served, with its report, if it gives one.
abbrev pub TicksServe : Type 0
TicksServe =
    (description : PlainDescription) (tag : List ℕ) (service : SimService) (older : History) (at limit from : ℕ) →
    IsServed description tag from older service →
    IsServed description tag from
    (if is_reported description limit service
    then record {
      event = report at tag service.name (control_now description (service_ticked description limit service));
      answer = Done;
    } ∷ older
    else older)
    (service_ticked description limit service)

-- The module of a service looks at the next command: the service takes it, where it is its own, and else stays.
pub record IsLooked (description : PlainDescription) (tag : List ℕ) (history : History) (service : SimService)
    (ahead : Found) : Type 0 where
  pub other :
      is_for service.name (if_to tag (sent_by ahead.did)) ≡ false →
      IsServed description tag (suc ahead.place) history service
  pub own :
      (sent : Sent) → sent_by ahead.did ≡ Some sent → is_for service.name (if_to tag (sent_by ahead.did)) ≡ true →
      (taken : IsTaken description tag (story tag history) service sent.command (asked_in ahead.did))
      × IsServed description tag (suc ahead.place) history taken.after

-- Looking at the next command serves each service.
abbrev pub LooksServe : Type 0
LooksServe =
    (description : PlainDescription) (tag : List ℕ) (service : SimService) (history : History) (ahead : Found)
    (from : ℕ) →
    next_command tag from history ≡ Some ahead → IsServed description tag from history service →
    IsLooked description tag history service ahead

-- Every command was answered at rest: where the state of each service was reported, and no command is left to look at.
abbrev pub RestIsAnswered : Type 0
RestIsAnswered =
    (site : PlainSite) (history : History) (tag : List ℕ) (sim : PlainSim) (from : ℕ) →
    IsLegal history → IsOrderly history → FollowsSite site history → IsCommanded history →
    IsInStep site tag (past tag history) sim → next_command tag from history ≡ None →
    ((name : List ℕ) (service : SimService) → service_called name sim.services ≡ Some service →
    (is_untold service ≡ false) × IsServed sim.description tag from history service) →
    are_answered tag (story tag history) ≡ true
