-- What a module's turn keeps.
use Rattle.std.specs.Prelude.{ℕ, ◌+◌, ◌≡◌, ◌≤◌, ◌&&◌, false, Some, map, List, [], ◌∷◌, Option, if◌then◌else◌}
use Rattle.std.specs.Str.{bytes_eq}
use Rattle.mtp_codes.specs.declared.command.Command.{Command}
use Rattle.mtp_codes.specs.Repeats.{repeats_by}
use Rattle.mtp_desc.specs.Plain.{PlainDescription, same_service}
use Rattle.mtp_sim.specs.Sims.{PlainSim, PlainPlan, first_sim, first_drift, drift_in}
use Rattle.pol_site.specs.Plans.{plan_by}
use Rattle.mtp_sim.specs.Ticks.{ticked, tick_report, is_pending}
use Rattle.mtp_sim.specs.Commands.{took, after_command}
use Rattle.mtp_machine.specs.Machine.{same_command}
use Rattle.mtp_assembly.specs.declared.control.ServiceControl.{ServiceControl}
use Rattle.mtp_sim.specs.declared.report.SimReport.{SimReport}
use Rattle.mtp_sim.specs.declared.report.SimReport.TheVariants.{Service}
use Rattle.pol_events.specs.declared.answer.Answer.TheVariants.{Done}
use Rattle.pol_history.specs.Modules.{docked, docking_by, control_by, since_docking, description_by}
use Rattle.pol_history.specs.Answers.{answer_of, is_full}
use Rattle.pol_site.specs.Following.{IsNewState}
use Rattle.pol_events.specs.Events.{PlainEntry}
use Rattle.pol_history.specs.Looking.{History, past}
use Rattle.pol_site.specs.Stories.{touches, story, times_sent}
use Rattle.pol_site.specs.Commanded.{times_changed}
use Rattle.pol_simulated.specs.Places.{before, StaysFrom}
use Rattle.pol_site.specs.Sites.{PlainSite}
use Rattle.pol_simulated.specs.Units.{told, is_same_drift, report_event, IsInStep, IsCounted, IsCountedBy}

-- A tick keeps a module in step, and its changes counted.
abbrev pub TicksKeep : Type 0
TicksKeep =
    (site : PlainSite) (tag : List ℕ) (past looked : History) (sim : PlainSim) →
    IsInStep site tag past sim → IsCounted tag past looked sim →
    IsInStep site tag (told tag (tick_report sim) past) (ticked sim)
    × IsCounted tag (told tag (tick_report sim) past) looked (ticked sim)

-- one more command of those that were sent
abbrev pub one_more : List ℕ → Command → (List ℕ → Command → ℕ) → List ℕ → Command → ℕ
one_more service command sent name other =
    sent name other + (if bytes_eq service name && same_command command other then 1 else 0)

-- A command that a module takes, with nothing pending, keeps it in step, and its changes counted.
abbrev pub CommandsKeep : Type 0
CommandsKeep =
    (site : PlainSite) (tag : List ℕ) (past : History) (sim : PlainSim) (sent : List ℕ → Command → ℕ)
    (service : List ℕ) (command : Command) (procedure : ℕ) →
    is_pending sim ≡ false → IsInStep site tag past sim → IsCountedBy sent past sim →
    IsInStep site tag past (after_command sim (took sim service command procedure))
    × IsCountedBy (one_more service command sent) past (after_command sim (took sim service command procedure))

-- An entry that doesn't touch a module changes neither its past nor its story.
abbrev pub UntouchedKeeps : Type 0
UntouchedKeeps =
    (tag : List ℕ) (history : History) (entry : PlainEntry) → touches tag entry ≡ false →
    (past tag (entry ∷ history) ≡ past tag history) × (story tag (entry ∷ history) ≡ story tag history)

-- Where a module's changes are counted against the commands that it looked at, each has its command.
abbrev pub CountsGiveCommanded : Type 0
CountsGiveCommanded =
    (site : PlainSite) (tag : List ℕ) (history : History) (place : ℕ) (waiting : Option SimReport) (sim : PlainSim) →
    StaysFrom tag place history → IsInStep site tag (told tag waiting (past tag history)) sim →
    IsCounted tag (told tag waiting (past tag history)) (story tag (before place history)) sim →
    (service : List ℕ) (command : Command) →
    times_changed service command (past tag history) ≤ times_sent tag service command (story tag history)

-- A report of a service that a docked module in step gives is accepted, and has a new state.
abbrev pub ReportsAreAccepted : Type 0
ReportsAreAccepted =
    (site : PlainSite) (tag : List ℕ) (history : History) (sim : PlainSim) (at count : ℕ) (name : List ℕ)
    (control : ServiceControl) →
    docking_by (past tag history) ≡ docked count → is_full history ≡ false →
    IsInStep site tag (past tag history) sim → tick_report sim ≡ Some (Service name control) →
    (answer_of history (report_event at tag (Service name control)) ≡ Done)
    × IsNewState (control_by name (past tag history)) control.state

-- A new simulator of a module to which nothing happened since docking is in step, and its changes are counted.
abbrev pub FirstSimsAreInStep : Type 0
FirstSimsAreInStep =
    (site : PlainSite) (tag : List ℕ) (past : History) (description : PlainDescription) (plan : PlainPlan)
    (sent : List ℕ → Command → ℕ) →
    since_docking past ≡ [] → description_by past ≡ Some description → plan_by site tag past ≡ Some plan →
    repeats_by same_service description.services ≡ false →
    repeats_by is_same_drift (map first_drift plan.drifts) ≡ false →
    map drift_in (map first_drift plan.drifts) ≡ plan.drifts →
    IsInStep site tag past (first_sim description plan) × IsCountedBy sent past (first_sim description plan)
