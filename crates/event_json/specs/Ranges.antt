-- What every event of a program is: its names are names, and its numbers have their widths.
use Rattle.std.specs.Prelude.{ℕ, List, Bool, ◌&&◌}
use Rattle.std.specs.List.{list_all}
use Rattle.mtp_codes.specs.Names.{is_name}
use Rattle.mtp_codes.specs.Numbers.{greatest_u32, greatest_u64, is_between}
use Rattle.mtp_json.specs.Written.{is_scalar}
use Rattle.mtp_assembly.specs.declared.control.ServiceControl.{ServiceControl}
use Rattle.chart_json.specs.Sound.{is_sound}
use Rattle.pol_events.specs.declared.event.Bind.{Bind}
use Rattle.pol_events.specs.Bound.{PlainAllocation}
use Rattle.pol_events.specs.Events.{PlainEvent, plug, unplug, report, variable, recipe, start, advance, freeze, thaw}
use Rattle.pol_events.specs.Events.{stop_batch, abandon, desk, exchange_begin, exchange_end, exchange_cancel}

-- the stamp has 64 bits, and the name is a name
abbrev pub is_stamped : ℕ → List ℕ → Bool
is_stamped at named = is_between 0 greatest_u64 at && is_name named

-- the mask has 32 bits, and the procedure's number 16
abbrev pub is_control_in_range : ServiceControl → Bool
is_control_in_range control = is_between 0 greatest_u32 control.mask && is_between 0 65535 control.procedure

-- the role and the tag are names
abbrev pub is_bind_in_range : Bind → Bool
is_bind_in_range bind = is_name bind.role && is_name bind.tag

-- the roles and the tags of all binds, held and watched, are names
abbrev pub is_allocation_in_range : PlainAllocation → Bool
is_allocation_in_range binds = list_all is_bind_in_range binds.held && list_all is_bind_in_range binds.watched

-- an event's stamp, its name and what else its kind has are in range
abbrev pub is_in_range : PlainEvent → Bool
is_in_range (plug at tag description) = is_stamped at tag
is_in_range (unplug at tag) = is_stamped at tag
is_in_range (report at tag service control) = is_stamped at tag && (is_name service && is_control_in_range control)
is_in_range (variable at tag name value) = is_stamped at tag && (is_name name && is_scalar value)
is_in_range (recipe at name chart) = is_stamped at name && is_sound chart
is_in_range (start at batch name binds) = is_stamped at batch && (is_name name && is_allocation_in_range binds)
is_in_range (advance at batch) = is_stamped at batch
is_in_range (freeze at batch hold) = is_stamped at batch
is_in_range (thaw at batch) = is_stamped at batch
is_in_range (stop_batch at batch) = is_stamped at batch
is_in_range (abandon at batch) = is_stamped at batch
is_in_range (desk at tag service command) = is_stamped at tag && is_name service
is_in_range (exchange_begin at tag) = is_stamped at tag
is_in_range (exchange_end at tag ticket description) = is_stamped at tag && is_between 0 greatest_u32 ticket
is_in_range (exchange_cancel at tag ticket) = is_stamped at tag && is_between 0 greatest_u32 ticket
