-- What is seen of a slot's services and variables.
use Rattle.std.specs.Prelude.{ℕ, List, Option, Some, None, Result, Ok, Err, option_map}
use Rattle.std.specs.Option.{option_or}
use Rattle.pol_events.specs.Refusals.{in_exchange, no_service}
use Rattle.pol_events.specs.Views.{seen_with}
use Rattle.pol_events.specs.declared.answer.Rule.{Rule}
use Rattle.pol_events.specs.declared.answer.Rule.TheVariants.{NotReported}
use Rattle.mtp_codes.specs.declared.value.Value.{Value}
use Rattle.mtp_modes.specs.declared.view.ServiceView.{ServiceView}
use Rattle.chart_cursor.specs.Sights.{reading_of_value, sight_of_view}
use Rattle.chart_cursor.specs.declared.sight.Sight.{Sight}
use Rattle.chart_cursor.specs.declared.sight.Sight.TheVariants as sight
use Rattle.chart_cursor.specs.declared.sight.ReadingSight.{ReadingSight}
use Rattle.chart_cursor.specs.declared.sight.ReadingSight.TheVariants as reading_sight
use Rattle.pol_slots.specs.Slots.{slot_tag, slot_description, slot_ticket, last_control, last_value}
use Rattle.pol_slots.specs.declared.slot.Slot.{Slot}

-- what the slot's service reported last, with what the description says of its procedure
abbrev pub slot_view : Slot → List ℕ → Option ServiceView
slot_view slot service =
    option_map (seen_with service (Some (slot_description slot))) (last_control slot service)

-- what is seen of a service whose module is away under a ticket, or has this view of it
abbrev pub sight_of : Option ℕ → Option ServiceView → Sight
sight_of (Some ticket) view = sight.Away
sight_of None view = sight_of_view view

-- what is seen of the slot's service
abbrev pub slot_sight : Slot → List ℕ → Sight
slot_sight slot service = sight_of (slot_ticket slot) (slot_view slot service)

-- a view, unless a rule is against it; where there is no view, another rule says so
abbrev pub view_unless : Option Rule → Rule → Option ServiceView → Result ServiceView Rule
view_unless (Some rule) unseen view = Err rule
view_unless None unseen None = Err unseen
view_unless None unseen (Some view) = Ok view

-- what the slot's service reported last, or the first rule against it: the module is away, its description lacks the
-- service, or the service wasn't reported
abbrev pub reported_view : Slot → List ℕ → Result ServiceView Rule
reported_view slot service =
    view_unless
    (option_or (in_exchange (slot_tag slot) (slot_ticket slot)) (no_service service (slot_description slot)))
    (NotReported (slot_tag slot) service)
    (slot_view slot service)

-- what is seen of a variable whose module is away under a ticket, or has this value of it
abbrev pub reading_of : Option ℕ → Option Value → ReadingSight
reading_of (Some ticket) last = reading_sight.Away
reading_of None last = reading_of_value last

-- what is seen of the slot's variable
abbrev pub slot_reading : Slot → List ℕ → ReadingSight
slot_reading slot name = reading_of (slot_ticket slot) (last_value slot name)
