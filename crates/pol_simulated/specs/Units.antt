-- How a simulated module relates to what it reported.
use Rattle.std.specs.Prelude.{ℕ, ℤ, ◌≡◌, ◌≤◌, Bool, false, List, [], ◌∷◌, map, find, Option, Some, None, option_map}
use Rattle.std.specs.Prelude.{if◌then◌else◌}
use Rattle.std.specs.Str.{bytes_eq}
use Rattle.mtp_codes.specs.declared.command.Command.{Command}
use Rattle.mtp_codes.specs.Repeats.{repeats_by}
use Rattle.mtp_assembly.specs.declared.control.ServiceControl.{ServiceControl}
use Rattle.mtp_desc.specs.Plain.{PlainDescription}
use Rattle.mtp_desc.specs.Lookup.{self_completes}
use Rattle.mtp_sim.specs.declared.service.SimService.{SimService}
use Rattle.mtp_sim.specs.declared.drift.SimDrift.{SimDrift}
use Rattle.mtp_sim.specs.declared.report.SimReport.{SimReport}
use Rattle.mtp_sim.specs.declared.report.SimReport.TheVariants.{Service, Variable}
use Rattle.mtp_sim.specs.Sims.{PlainSim, PlainPlan, drift_in}
use Rattle.mtp_sim.specs.Ticks.{control_now, is_untold}
use Rattle.mtp_sim.specs.Told.{AreNext}
use Rattle.pol_events.specs.Events.{PlainEvent, report, variable}
use Rattle.pol_events.specs.declared.answer.Answer.TheVariants.{Done}
use Rattle.pol_history.specs.Looking.{History}
use Rattle.pol_history.specs.Modules.{since_docking, description_by, value_by}
use Rattle.pol_site.specs.Sites.{PlainSite}
use Rattle.pol_site.specs.Stories.{times_sent, controls_in}
use Rattle.pol_site.specs.Plans.{plan_by, whole_in}
use Rattle.pol_site.specs.Commanded.{changes_by}

-- ---- what was reported

-- the event of a report, with its stamp
abbrev pub report_event : ℕ → List ℕ → SimReport → PlainEvent
report_event at tag (Service name control) = report at tag name control
report_event at tag (Variable name value) = variable at tag name value

-- what a module reported: its past, and in front of it the report that still waits to be applied; its stamp is no
-- matter
abbrev pub told : List ℕ → Option SimReport → History → History
told tag None past = past
told tag (Some waiting) past = record { event = report_event 0 tag waiting; answer = Done } ∷ past

-- the newest of a list whose newest comes first
abbrev pub newest : {A : Type 0} → List A → Option A
newest [] = None
newest (first ∷ others) = Some first

-- ---- one service, one drift

-- what the service reported last is what it keeps; and where its state was reported, that is what it reports now
pub record IsTold (description : PlainDescription) (service : SimService) (controls : List ServiceControl) : Type 0
  where
    pub last : option_map (λ control. control.state) (newest controls) ≡ service.last
    pub now : is_untold service ≡ false → newest controls ≡ Some (control_now description service)

-- what the service of a module reported is what it keeps; a service that the module hasn't got reported nothing
abbrev pub IsServiceTold : PlainDescription → Option SimService → List ServiceControl → Type 0
IsServiceTold description None controls = controls ≡ []
IsServiceTold description (Some service) controls = IsTold description service controls

-- what the service went through: what it reported, and its state where that isn't reported
abbrev pub gone_through : PlainDescription → SimService → List ServiceControl → List ServiceControl
gone_through description service controls =
    if is_untold service then control_now description service ∷ controls else controls

-- the drift's last value is the one that it keeps; a variable that doesn't drift has none
abbrev pub IsDriftTold : Option SimDrift → Option ℤ → Type 0
IsDriftTold None value = value ≡ None
IsDriftTold (Some drift) value = value ≡ drift.last

-- ---- a module

-- the service of this name
abbrev pub service_called : List ℕ → List SimService → Option SimService
service_called name services = find (λ service. bytes_eq service.name name) services

-- the drift of this name
abbrev pub drift_called : List ℕ → List SimDrift → Option SimDrift
drift_called name drifts = find (λ drift. bytes_eq drift.name name) drifts

-- two services of one name
abbrev pub is_same_service : SimService → SimService → Bool
is_same_service service other = bytes_eq service.name other.name

-- two drifts of one name
abbrev pub is_same_drift : SimDrift → SimDrift → Bool
is_same_drift drift other = bytes_eq drift.name other.name

-- the plan by which the module is simulated
abbrev pub plan_in : PlainSim → PlainPlan
plan_in sim = record { ticks = sim.ticks; run = sim.run; drifts = map drift_in sim.drifts }

-- what a past says of a module: what is docked and how it is planned, what each of its services reported since, and the
-- last value of each of its variables
pub record Heard : Type 0 where
  pub description : Option PlainDescription
  pub plan : Option PlainPlan
  pub controls : List ℕ → List ServiceControl
  pub value : List ℕ → Option ℤ

-- what a past says of the module of a tag
abbrev pub heard : PlainSite → List ℕ → History → Heard
heard site tag past =
    record {
      description = description_by past;
      plan = plan_by site tag past;
      controls = λ name. controls_in name (since_docking past);
      value = λ name. whole_in (value_by name past);
    }

-- the module is the one that is docked, as its site plans it; each of its services is where it may be; and what it
-- keeps is what was reported
pub record IsInStepWith (said : Heard) (description : PlainDescription) (plan : PlainPlan)
    (simulated : List SimService) (drifting : List SimDrift) : Type 0 where
  pub described : said.description ≡ Some description
  pub planned : said.plan ≡ Some plan
  pub named : map (λ service. service.name) simulated ≡ map (λ service. service.name) description.services
  pub unlike_services : repeats_by is_same_service simulated ≡ false
  pub unlike_drifts : repeats_by is_same_drift drifting ≡ false
  pub next : AreNext simulated
  pub services :
      (name : List ℕ) → IsServiceTold description (service_called name simulated) (said.controls name)
  pub drifts : (name : List ℕ) → IsDriftTold (drift_called name drifting) (said.value name)

-- the module of the simulator is in step with a past; the place that its next tick looks at is no matter
abbrev pub IsInStep : PlainSite → List ℕ → History → PlainSim → Type 0
IsInStep site tag past sim =
    IsInStepWith (heard site tag past) sim.description (plan_in sim) sim.services sim.drifts

-- how often the service changed by the command, by what it went through
abbrev pub changes_of : PlainDescription → List ℕ → Command → SimService → List ServiceControl → ℕ
changes_of description name command service controls =
    changes_by (λ procedure. self_completes name procedure description) command
    (gone_through description service controls)

-- a service went through at most as many changes by a command as were sent among what the module looked at
abbrev pub IsServiceCounted :
    PlainDescription → List ℕ → Option SimService → List ServiceControl → (Command → ℕ) → Type 0
IsServiceCounted description name None controls sent = Unit {0}
IsServiceCounted description name (Some service) controls sent =
    (command : Command) → changes_of description name command service controls ≤ sent command

-- each service went through at most as many changes by a command as were sent to a service of its name
abbrev pub IsCountedBy : (List ℕ → Command → ℕ) → History → PlainSim → Type 0
IsCountedBy sent past sim =
    (name : List ℕ) →
    IsServiceCounted sim.description name (service_called name sim.services) (controls_in name (since_docking past))
    (sent name)

-- each service is counted against the commands in the part of the story that the module looked at
abbrev pub IsCounted : List ℕ → History → History → PlainSim → Type 0
IsCounted tag past looked sim = IsCountedBy (λ name command. times_sent tag name command looked) past sim
