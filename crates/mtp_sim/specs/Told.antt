-- What a simulated module reports follows the state machine.
use Rattle.std.specs.Prelude.{ℕ, ◌≡◌, ◌⊎◌, ⊤, true, false, List, Option, Some, None, IfSome, option_map, slice_get}
use Rattle.std.specs.List.{AllByRecursion}
use Rattle.mtp_codes.specs.declared.command.Command.{Command}
use Rattle.mtp_codes.specs.declared.state.State.{State}
use Rattle.mtp_codes.specs.declared.state.State.TheVariants.{Idle}
use Rattle.mtp_machine.specs.Machine.{IsEdge}
use Rattle.mtp_desc.specs.Plain.{PlainDescription}
use Rattle.mtp_sim.specs.declared.report.SimReport.{SimReport}
use Rattle.mtp_sim.specs.declared.report.SimReport.TheVariants.{Service, Variable}
use Rattle.mtp_sim.specs.declared.service.SimService.{SimService}
use Rattle.mtp_sim.specs.Sims.{PlainPlan, PlainSim, first_sim}
use Rattle.mtp_sim.specs.Ticks.{is_pending, is_untold, tick_report, ticked}
use Rattle.mtp_sim.specs.Commands.{took, after_command}

-- the first state that a service reports is Idle, and to each later one an edge leads from the one before
abbrev pub MayTell : Option State → State → Type 0
MayTell None state = state ≡ Idle
MayTell (Some last) state = IsEdge last state

-- a service is in the state that it reported last, or in one that it may report next
abbrev pub IsNext : SimService → Type 0
IsNext service = (service.last ≡ Some service.state) ⊎ MayTell service.last service.state

-- each service is in the state that it reported last, or in one that it may report next
abbrev pub AreNext : List SimService → Type 0
AreNext services = AllByRecursion IsNext services

-- a state that is reported under a name: it is reported of a service of this name, which may report it
pub record TellsNext (sim : PlainSim) (name : List ℕ) (state : State) : Type 0 where
  pub service : SimService
  pub here : slice_get sim.services sim.place ≡ Some service
  pub named : name ≡ service.name
  pub may : MayTell service.last state

-- what is reported follows the edges: a service reports a state that it may; a variable is free
abbrev pub FollowsEdges : PlainSim → SimReport → Type 0
FollowsEdges sim (Service name control) = TellsNext sim name control.state
FollowsEdges sim (Variable name value) = ⊤

-- no service leaves a state that it hasn't reported yet
abbrev pub StayUntold : PlainSim → PlainSim → Type 0
StayUntold old new =
    (place : ℕ) (service : SimService) → slice_get old.services place ≡ Some service → is_untold service ≡ true →
    option_map (λ after. after.state) (slice_get new.services place) ≡ Some service.state

-- a tick of this module keeps each service where it may be, reports what it may, and leaves no state before it was
-- reported
pub record TicksRightly (sim : PlainSim) : Type 0 where
  pub kept : AreNext (ticked sim).services
  pub edges : IfSome (tick_report sim) (FollowsEdges sim)
  pub stays : StayUntold sim (ticked sim)

-- The services of a module at first are in states that they may report.
abbrev pub FirstModulesFollowEdges : Type 0
FirstModulesFollowEdges =
    (description : PlainDescription) (plan : PlainPlan) → AreNext (first_sim description plan).services

-- Every tick of a module whose services are in states that they reported or may report keeps them so, reports what it
-- may, and leaves no state before it was reported.
abbrev pub TicksFollowEdges : Type 0
TicksFollowEdges = (sim : PlainSim) → AreNext sim.services → TicksRightly sim

-- Where nothing is pending, a command keeps each service in a state that it reported or may report.
abbrev pub CommandsFollowEdges : Type 0
CommandsFollowEdges =
    (sim : PlainSim) (service : List ℕ) (command : Command) (procedure : ℕ) → is_pending sim ≡ false →
    AreNext sim.services → AreNext (after_command sim (took sim service command procedure)).services
