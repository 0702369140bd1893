-- A simulated module takes a command.
use Rattle.std.specs.Prelude.{ℕ, ◌==◌, ◌&&◌, List, Option, Some, None, is_some, position, option_map, option_and_then}
use Rattle.std.specs.Prelude.{slice_get, slice_set, if◌then◌else◌}
use Rattle.std.specs.Str.{bytes_eq}
use Rattle.mtp_codes.specs.declared.command.Command.{Command}
use Rattle.mtp_codes.specs.declared.command.Command.TheVariants.{Start, Complete}
use Rattle.mtp_codes.specs.declared.state.State.{State}
use Rattle.mtp_machine.specs.Machine.{command_target, same_command}
use Rattle.mtp_desc.specs.Plain.{PlainDescription}
use Rattle.mtp_desc.specs.Lookup.{service_named, default_procedure, procedure_at}
use Rattle.mtp_sim.specs.declared.service.SimService.{SimService}
use Rattle.mtp_sim.specs.Sims.{PlainSim}
use Rattle.mtp_sim.specs.Ticks.{runs_through}

-- the number of the service's default procedure
abbrev pub default_number : List ℕ → PlainDescription → Option ℕ
default_number service description =
    option_map (λ procedure. procedure.number) (option_and_then default_procedure (service_named service description))

-- the procedure that a start asks for, if the service has it; 0 asks for the default one
abbrev pub asked_procedure : List ℕ → ℕ → PlainDescription → Option ℕ
asked_procedure service procedure description =
    if procedure == 0 then default_number service description
    else if is_some (procedure_at service procedure description) then Some procedure
    else None

-- the procedure that runs after the command; a start runs the one that it asks for
abbrev pub procedure_after : PlainDescription → SimService → Command → ℕ → Option ℕ
procedure_after description service command procedure =
    if same_command command Start then asked_procedure service.name procedure description else Some service.procedure

-- the service in the state to which the command leads, with the procedure that runs then
abbrev pub sent_to : SimService → State → ℕ → SimService
sent_to service state procedure =
    record { name = service.name; state = state; last = service.last; count = 0; procedure = procedure }

-- the service after it took the command, if it takes it
abbrev pub service_took : PlainDescription → SimService → Command → ℕ → Option SimService
service_took description service command procedure =
    if same_command command Complete && runs_through description service then None
    else option_and_then
    (λ state. option_map (sent_to service state) (procedure_after description service command procedure))
    (command_target service.state command)

-- the place of the service of this name
abbrev pub place_of : List ℕ → PlainSim → Option ℕ
place_of name sim = position (λ service. bytes_eq service.name name) sim.services

-- the module with this service at the place
abbrev pub with_service : PlainSim → ℕ → SimService → PlainSim
with_service sim place service =
    record {
      description = sim.description;
      ticks = sim.ticks;
      run = sim.run;
      services = slice_set sim.services place service;
      drifts = sim.drifts;
      place = sim.place;
    }

-- the module after the service at the place took the command, if it takes it
abbrev pub took_at : PlainSim → Command → ℕ → ℕ → Option PlainSim
took_at sim command procedure place =
    option_and_then
    (λ service. option_map (with_service sim place) (service_took sim.description service command procedure))
    (slice_get sim.services place)

-- the module after it took the command for a service, if it takes it
abbrev pub took : PlainSim → List ℕ → Command → ℕ → Option PlainSim
took sim service command procedure = option_and_then (took_at sim command procedure) (place_of service sim)

-- the module after the command: as it was, where it doesn't take it
abbrev pub after_command : PlainSim → Option PlainSim → PlainSim
after_command sim None = sim
after_command sim (Some after) = after
