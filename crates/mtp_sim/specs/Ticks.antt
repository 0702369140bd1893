-- One tick of a simulated module.
use Rattle.std.specs.Prelude.{ℕ, ◌+◌, ℤ, ◌+ℤ◌, int_lt, Bool, false, not, ◌&&◌, ◌||◌, ◌-◌, nat_le, List, length, filter}
use Rattle.std.specs.Prelude.{sum_by, Option, Some, None, is_some, is_none, option_map, slice_get, slice_set}
use Rattle.std.specs.Prelude.{if◌then◌else◌}
use Rattle.std.specs.List.{list_any}
use Rattle.mtp_codes.specs.Codes.{command_number}
use Rattle.mtp_codes.specs.declared.command.Command.TheVariants.{Complete}
use Rattle.mtp_codes.specs.declared.mode.Mode.TheVariants.{Automatic}
use Rattle.mtp_codes.specs.declared.mode.Origin.TheVariants.{External}
use Rattle.mtp_codes.specs.declared.state.State.{State}
use Rattle.mtp_codes.specs.declared.value.Value.TheVariants.{Whole}
use Rattle.mtp_machine.specs.Machine.{commanded, own_target, same_state, same_command}
use Rattle.mtp_machine.specs.States.{is_execute}
use Rattle.mtp_assembly.specs.declared.control.ServiceControl.{ServiceControl}
use Rattle.mtp_desc.specs.Plain.{PlainDescription}
use Rattle.mtp_desc.specs.Lookup.{self_completes}
use Rattle.mtp_sim.specs.declared.plan.Drift.{Drift}
use Rattle.mtp_sim.specs.declared.service.SimService.{SimService}
use Rattle.mtp_sim.specs.declared.drift.SimDrift.{SimDrift}
use Rattle.mtp_sim.specs.declared.report.SimReport.{SimReport}
use Rattle.mtp_sim.specs.declared.report.SimReport.TheVariants.{Service, Variable}
use Rattle.mtp_sim.specs.Sims.{PlainSim, drift_in}

-- the sum of the commands that leave a state, without Complete where the procedure completes by itself
unfoldable pub enabled_of : Bool → State → ℕ
enabled_of completes state =
    sum_by (λ row. command_number row.1)
    (filter (λ row. same_state row.0 state && not (completes && same_command row.1 Complete)) commanded)

-- what a service in this state reports while this procedure runs
abbrev pub control_in : Bool → ℕ → State → ServiceControl
control_in completes procedure state =
    record {
      state = state;
      mask = enabled_of completes state;
      mode = Automatic;
      origin = External;
      procedure = procedure;
    }

-- the running procedure of a service completes by itself
abbrev pub runs_through : PlainDescription → SimService → Bool
runs_through description service = self_completes service.name service.procedure description

-- what a service reports of itself
abbrev pub control_now : PlainDescription → SimService → ServiceControl
control_now description service = control_in (runs_through description service) service.procedure service.state

-- an optional state is this one
abbrev pub is_state : State → Option State → Bool
is_state state None = false
is_state state (Some other) = same_state other state

-- the state of the service isn't reported yet
abbrev pub is_untold : SimService → Bool
is_untold service = not (is_state service.state service.last)

-- a service changes from this state by itself, unless it is Execute and its procedure waits to be completed
abbrev pub changes_in : Bool → State → Bool
changes_in completes state = is_some (own_target state) && (completes || not (is_execute state))

-- the service changes by itself
abbrev pub changes : PlainDescription → SimService → Bool
changes description service = changes_in (runs_through description service) service.state

-- how many ticks a change takes: in Execute those of an execution
abbrev pub ticks_of : ℕ → ℕ → State → ℕ
ticks_of ticks run state = if is_execute state then run else ticks

-- the service in the state to which it changes by itself, which is reported
abbrev pub moved_on : SimService → Option State → SimService
moved_on service None = service
moved_on service (Some state) =
    record { name = service.name; state = state; last = Some state; count = 0; procedure = service.procedure }

-- the service with its state reported
abbrev pub told : SimService → SimService
told service =
    record {
      name = service.name;
      state = service.state;
      last = Some service.state;
      count = service.count;
      procedure = service.procedure;
    }

-- the service one tick further in its state
abbrev pub counted : SimService → SimService
counted service =
    record {
      name = service.name;
      state = service.state;
      last = service.last;
      count = service.count + 1;
      procedure = service.procedure;
    }

-- the service after a tick that looks at it
abbrev pub service_ticked : PlainDescription → ℕ → SimService → SimService
service_ticked description limit service =
    if is_untold service then told service
    else if changes description service
    then (if nat_le limit (service.count + 1) then moved_on service (own_target service.state) else counted service)
    else service

-- the tick reports the service: its state wasn't reported, or it changes now
abbrev pub is_reported : PlainDescription → ℕ → SimService → Bool
is_reported description limit service =
    is_untold service || (changes description service && nat_le limit (service.count + 1))

-- some service executes
abbrev pub is_executing : List SimService → Bool
is_executing services = list_any (λ service. is_execute service.state) services

-- the lesser of two numbers
abbrev pub at_most : ℤ → ℤ → ℤ
at_most greatest number = if int_lt greatest number then greatest else number

-- The value that follows the last one: the first is `from`, then each is the one before plus `by`, at most `to`; none
-- follows `to`.
abbrev pub next_value : Drift → Option ℤ → Option ℤ
next_value drift None = Some drift.from
next_value drift (Some last) = if int_lt last drift.to then Some (at_most drift.to (last +ℤ drift.by)) else None

-- the value that a tick reports when it looks at a drift, if any
abbrev pub value_told : Bool → SimDrift → Option ℤ
value_told executing drift = if executing || is_none drift.last then next_value (drift_in drift) drift.last else None

-- a drift after it was reported with this value
abbrev pub reported_at : SimDrift → ℤ → SimDrift
reported_at drift value =
    record { name = drift.name; from = drift.from; by = drift.by; to = drift.to; last = Some value }

-- the drifts after the one at the place was reported, if it was
abbrev pub drifts_after : List SimDrift → ℕ → SimDrift → Option ℤ → List SimDrift
drifts_after drifts place drift None = drifts
drifts_after drifts place drift (Some value) = slice_set drifts place (reported_at drift value)

-- the place after this one of so many, in a circle
abbrev pub place_after : ℕ → ℕ → ℕ
place_after count place = if nat_le count (place + 1) then 0 else place + 1

-- the module with these services and drifts, at its next place
abbrev pub moved : PlainSim → List SimService → List SimDrift → PlainSim
moved sim services drifts =
    record {
      description = sim.description;
      ticks = sim.ticks;
      run = sim.run;
      services = services;
      drifts = drifts;
      place = place_after (length sim.services + length sim.drifts) sim.place;
    }

-- the service at the place, if there is one
abbrev pub service_here : PlainSim → Option SimService
service_here sim = slice_get sim.services sim.place

-- the drift at the place, if there is one
abbrev pub drift_here : PlainSim → Option SimDrift
drift_here sim = slice_get sim.drifts (sim.place - length sim.services)

-- a report of a variable
abbrev pub variable_report : List ℕ → ℤ → SimReport
variable_report name value = Variable name (Whole value)

-- the report of a service
abbrev pub report_of : PlainDescription → SimService → SimReport
report_of description service = Service service.name (control_now description service)

-- how many ticks the next change of the service takes
abbrev pub limit_of : PlainSim → SimService → ℕ
limit_of sim service = ticks_of sim.ticks sim.run service.state

-- the service after a tick of the module that looks at it
abbrev pub ticked_service : PlainSim → SimService → SimService
ticked_service sim service = service_ticked sim.description (limit_of sim service) service

-- what a tick reports when it looks at a service
abbrev pub service_report : PlainSim → SimService → Option SimReport
service_report sim service =
    if is_reported sim.description (limit_of sim service) service
    then Some (report_of sim.description (ticked_service sim service))
    else None

-- what a tick reports when it looks at a drift, if there is one
abbrev pub drift_report : PlainSim → Option SimDrift → Option SimReport
drift_report sim None = None
drift_report sim (Some drift) = option_map (variable_report drift.name) (value_told (is_executing sim.services) drift)

-- what a tick reports, by the service at its place, if there is one
abbrev pub report_by : PlainSim → Option SimService → Option SimReport
report_by sim (Some service) = service_report sim service
report_by sim None = drift_report sim (drift_here sim)

-- what the next tick reports
abbrev pub tick_report : PlainSim → Option SimReport
tick_report sim = report_by sim (service_here sim)

-- the module after a tick that looks at a drift
abbrev pub ticked_at_drift : PlainSim → Option SimDrift → PlainSim
ticked_at_drift sim None = moved sim sim.services sim.drifts
ticked_at_drift sim (Some drift) =
    moved sim sim.services
    (drifts_after sim.drifts (sim.place - length sim.services) drift (value_told (is_executing sim.services) drift))

-- the module after a tick, by the service at its place, if there is one
abbrev pub ticked_at : PlainSim → Option SimService → PlainSim
ticked_at sim (Some service) = moved sim (slice_set sim.services sim.place (ticked_service sim service)) sim.drifts
ticked_at sim None = ticked_at_drift sim (drift_here sim)

-- the module after the next tick
abbrev pub ticked : PlainSim → PlainSim
ticked sim = ticked_at sim (service_here sim)

-- the value of the drift isn't reported yet
abbrev pub is_silent : SimDrift → Bool
is_silent drift = is_none drift.last

-- a state of a service, or a first value of a drift, isn't reported yet
abbrev pub is_pending : PlainSim → Bool
is_pending sim = list_any is_untold sim.services || list_any is_silent sim.drifts

-- a value of the drift is left
abbrev pub is_left : SimDrift → Bool
is_left drift = is_some (next_value (drift_in drift) drift.last)

-- nothing is pending, no service changes by itself, and no service executes while a drift has values left
abbrev pub is_at_rest : PlainSim → Bool
is_at_rest sim =
    not (is_pending sim)
    && (not (list_any (changes sim.description) sim.services)
    && not (is_executing sim.services && list_any is_left sim.drifts))
