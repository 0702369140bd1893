-- The parts of a locked plant may go to another thread.
use denote.Param.Send.{IsSend, IsSync, plain_send, sendable}
use denote.Param.SendFields.{as_row_send, declared_send, variants_send}
use Rattle.std.proofs.Crossing as heap
use Rattle.mtp_codes.specs.contracts.value.Value as value
use Rattle.mtp_assembly.specs.contracts.control.ServiceControl as control
use Rattle.mtp_desc.specs.contracts.description.Description as description
use denote.Struct.Field.{u32-field}
use Rattle.chart_core.specs.contracts.entry.LogEntry as log
use Rattle.chart_core.specs.contracts.why.Why as why
use Rattle.chart_core.specs.contracts.next.Outcome as outcome
use Rattle.pol_events.specs.contracts.answer.Answer as answer
use Rattle.pol_events.specs.contracts.answer.Rule as rule
use Rattle.pol_events.specs.contracts.event.Bind as bind
use Rattle.pol_events.specs.contracts.event.Event as event
use Rattle.pol_events.specs.contracts.event.Entry as entry
use Rattle.pol_slots.specs.contracts.berth.Berth as berth
use Rattle.pol_slots.specs.contracts.reported.Reported as reported
use Rattle.pol_slots.specs.contracts.last_values.LastValues as last_values
use Rattle.pol_slots.specs.contracts.slot.Slot as slot
use Rattle.pol_runs.specs.contracts.run.Run as run
use Rattle.pol_core.specs.contracts.plant.Plant as plant
use Rattle.pol_site.specs.contracts.site.Site as site
use Rattle.mtp_sim.specs.contracts.sim.Sim as sim
use Rattle.pol_actors.specs.contracts.unit.Unit as unit
use Rattle.pol_live.specs.contracts.turned.Placed as placed
use Rattle.pol_live.proofs.Crossing.{chart_send, chart_sync, name_send}

-- a description may go to another thread
description_send : IsSend description.the_row
description_send = search (sendable, heap.crosses) depth 40 fits 100000

-- a description may be read by other threads
description_sync : IsSync description.the_row
description_sync = search (sendable, heap.crosses) depth 40 fits 100000

-- a value may go to another thread
value_send : IsSend value.the_row
value_send = search (sendable, heap.crosses) depth 40 fits 100000

-- the control of a service may go to another thread
control_send : IsSend control.the_row
control_send = search (sendable, heap.crosses) depth 40 fits 100000

-- a rule may go to another thread
rule_send : IsSend rule.the_row
rule_send = search (sendable, heap.crosses, name_send) depth 300 fits 100000

-- an entry of a log may go to another thread
log_send : IsSend log.the_row
log_send = search (sendable, heap.crosses, name_send) depth 40 fits 100000

-- the reason why a batch waits may go to another thread
why_send : IsSend why.the_row
why_send = search (sendable, heap.crosses, name_send) depth 40 fits 100000

-- the outcome of a run may go to another thread
outcome_send : IsSend outcome.the_row
outcome_send = search (sendable, heap.crosses) depth 40 fits 100000

-- an answer may go to another thread
answer_send : IsSend answer.the_row
answer_send =
    variants_send answer.enum (
      tt,
      (
        (as_row_send u32-field (plain_send _ _ _ _ _), tt),
        (
          (log_send, tt),
          (
            (why_send, tt),
            (
              (outcome_send, tt),
              ((rule_send, tt), tt),
            ),
          ),
        ),
      ),
    )

-- the module that plays a role may go to another thread
bind_send : IsSend bind.the_row
bind_send = search (sendable, heap.crosses, name_send) depth 40 fits 100000

-- an event may go to another thread
event_send : IsSend event.the_row
event_send =
    search (sendable, heap.crosses, name_send, bind_send, description_send, description_sync, chart_send, chart_sync)
    depth 40 fits 100000

-- an entry of a history may go to another thread
entry_send : IsSend entry.the_row
entry_send = declared_send entry.the_type (event_send, (answer_send, tt))

-- the controls that were told last may go to another thread
controls_send : IsSend (last_values.the_row control.the_row)
controls_send = search (sendable, heap.crosses, name_send, control_send) depth 40 fits 100000

-- the values that were told last may go to another thread
values_send : IsSend (last_values.the_row value.the_row)
values_send = search (sendable, heap.crosses, name_send, value_send) depth 40 fits 100000

-- what a module reported may go to another thread
told_send : IsSend reported.the_row
told_send = search (sendable, heap.crosses, controls_send, values_send) depth 40 fits 100000

-- a berth may go to another thread
berth_send : IsSend berth.the_row
berth_send = search (sendable, heap.crosses, told_send) depth 40 fits 100000

-- a slot may go to another thread
slot_send : IsSend slot.the_row
slot_send =
    declared_send slot.the_type (
      heap.send,
      (
        name_send,
        (
          heap.Arc-send description.the_row description_send description_sync,
          (as_row_send u32-field (plain_send _ _ _ _ _), (berth_send, tt)),
        ),
      ),
    )

-- a run may go to another thread
run_send : IsSend run.the_row
run_send = search (sendable, heap.crosses, chart_send, chart_sync) depth 40 fits 100000

-- a plant may go to another thread
pub plant_send : IsSend plant.the_row
plant_send =
    search (sendable, heap.crosses, name_send, entry_send, slot_send, run_send, chart_send, chart_sync) depth 40 fits
    100000

-- a site may go to another thread
pub site_send : IsSend site.the_row
site_send =
    search (sendable, heap.crosses, description_send, description_sync, chart_send, chart_sync) depth 40 fits 100000

-- a site may be read by other threads
pub site_sync : IsSync site.the_row
site_sync =
    search (sendable, heap.crosses, description_send, description_sync, chart_send, chart_sync) depth 40 fits 100000

-- a simulation may go to another thread
sim_send : IsSend sim.the_row
sim_send = search (sendable, heap.crosses, description_send, description_sync) depth 40 fits 100000

-- a module of a site may go to another thread
pub unit_send : IsSend unit.the_row
unit_send = search (sendable, heap.crosses, sim_send) depth 40 fits 100000

-- an answer with its place may go to another thread
pub placed_send : IsSend placed.the_row
placed_send = declared_send placed.the_type (as_row_send u32-field (plain_send _ _ _ _ _), (answer_send, tt))
