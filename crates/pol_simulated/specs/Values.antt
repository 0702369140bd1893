-- The values that a simulated module reports are allowed.
use Rattle.std.specs.Prelude.{ℕ, ℤ, ◌≡◌, int_le, Bool, true, false, List, map, Option, Some, None}
use Rattle.std.specs.List.{AllByRecursion}
use Rattle.mtp_codes.specs.declared.command.Command.{Command}
use Rattle.mtp_codes.specs.declared.value.Value.{Value}
use Rattle.mtp_codes.specs.Repeats.{repeats_by}
use Rattle.mtp_desc.specs.Plain.{PlainDescription}
use Rattle.mtp_sim.specs.declared.drift.SimDrift.{SimDrift}
use Rattle.mtp_sim.specs.declared.report.SimReport.TheVariants.{Variable}
use Rattle.mtp_sim.specs.Sims.{PlainSim, PlainPlan, first_drift, first_sim, drift_in}
use Rattle.mtp_sim.specs.Ticks.{tick_report, ticked}
use Rattle.mtp_sim.specs.Commands.{took, after_command}
use Rattle.pol_events.specs.Events.{variable}
use Rattle.pol_history.specs.Looking.{History, past}
use Rattle.pol_history.specs.Modules.{docked, docking_by}
use Rattle.pol_history.specs.Answers.{answer_of, is_full}
use Rattle.pol_site.specs.Following.{IsValue}
use Rattle.pol_site.specs.Rules.{is_drift_sound}
use Rattle.pol_site.specs.Sites.{PlainSite}
use Rattle.pol_site.specs.Sound.{is_drift_ranged, is_plan_ranged, is_plan_sound, is_plan_unlike}
use Rattle.pol_simulated.specs.Units.{IsInStep, is_same_drift}

-- a value isn't below the first one, if there is one
abbrev pub has_risen : ℤ → Option ℤ → Bool
has_risen first None = true
has_risen first (Some value) = int_le first value

-- the drift is one that a site may give a module of this description, and its last value isn't below its first
pub record IsDriftKept (description : PlainDescription) (drift : SimDrift) : Type 0 where
  pub sound : is_drift_sound description (drift_in drift) ≡ true
  pub ranged : is_drift_ranged (drift_in drift) ≡ true
  pub risen : has_risen drift.from drift.last ≡ true

-- each drift of the module is kept
abbrev pub AreDriftsKept : PlainSim → Type 0
AreDriftsKept sim = AllByRecursion (IsDriftKept sim.description) sim.drifts

-- A plan that a site may give is the one that a new simulator keeps, and no two of its drifts are of one name.
abbrev pub PlansAreKept : Type 0
PlansAreKept =
    (description : PlainDescription) (plan : PlainPlan) →
    is_plan_sound description plan ≡ true → is_plan_unlike plan ≡ true →
    (map drift_in (map first_drift plan.drifts) ≡ plan.drifts)
    × (repeats_by is_same_drift (map first_drift plan.drifts) ≡ false)

-- The drifts of a new simulator are kept.
abbrev pub FirstDriftsAreKept : Type 0
FirstDriftsAreKept =
    (description : PlainDescription) (plan : PlainPlan) →
    is_plan_ranged plan ≡ true → is_plan_sound description plan ≡ true →
    AreDriftsKept (first_sim description plan)

-- A tick keeps the drifts of a module.
abbrev pub TicksKeepDrifts : Type 0
TicksKeepDrifts = (sim : PlainSim) → AreDriftsKept sim → AreDriftsKept (ticked sim)

-- A command keeps the drifts of a module.
abbrev pub CommandsKeepDrifts : Type 0
CommandsKeepDrifts =
    (sim : PlainSim) (service : List ℕ) (command : Command) (procedure : ℕ) → AreDriftsKept sim →
    AreDriftsKept (after_command sim (took sim service command procedure))

-- A value that a docked module in step reports is allowed.
abbrev pub ValuesAreAllowed : Type 0
ValuesAreAllowed =
    (site : PlainSite) (tag : List ℕ) (history : History) (sim : PlainSim) (at count : ℕ) (name : List ℕ)
    (value : Value) →
    docking_by (past tag history) ≡ docked count → is_full history ≡ false →
    IsInStep site tag (past tag history) sim → AreDriftsKept sim → tick_report sim ≡ Some (Variable name value) →
    IsValue site tag name (past tag history) value (answer_of history (variable at tag name value))
