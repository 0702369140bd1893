-- The answer is that of the services that are left.
use Rattle.std.proofs.Common.{◌≡◌, drop, map}
use Rattle.mtp_desc.specs.PlainService.{plain_service}
use Rattle.pol_events.specs.Refusals.{not_at_rest}
use Rattle.pol_slots.specs.Slots.{last_control}
use Rattle.pol_slots.proofs.slot.Slot.at_rest.Given as goal

abbrev pub invariant-loop-service : goal.invariant-loop-service
invariant-loop-service l =
    not_at_rest (last_control l.self) (map plain_service (drop l.service-index l.self.description.value.services.items))
    ≡ not_at_rest (last_control l.self) (map plain_service l.self.description.value.services.items)
