-- The form of each kind of event line: what it says, or its first fault in reading order.
use Rattle.std.specs.Prelude.{ℕ, List, codes, Ok}
use Rattle.serde_json.specs.Data.{Data}
use Rattle.mtp_codes.specs.Codes.{command_codes, state_codes}
use Rattle.mtp_codes.specs.Numbers.{greatest_u32, greatest_u64}
use Rattle.mtp_json.specs.Form.{required, nested, object_here, nothing_but}
use Rattle.mtp_json.specs.Leaf.{code, count, name, scalar, truth, word}
use Rattle.mtp_json.specs.ReadResult.{ReadResult, ◌>>=◌}
use Rattle.mtp_assembly.specs.declared.control.ServiceControl.{ServiceControl}
use Rattle.desc_json.specs.Form.{description_of}
use Rattle.chart_json.specs.Form.{chart_from, roles_of, tree_of}
use Rattle.pol_events.specs.Events.{PlainEvent, plug, unplug, report, variable, recipe, start, advance, freeze, thaw}
use Rattle.pol_events.specs.Events.{stop_batch, abandon, desk, exchange_begin, exchange_end, exchange_cancel}
use Rattle.event_json.specs.declared.kind.EventKind.{EventKind}
use Rattle.event_json.specs.declared.kind.EventKind.TheVariants.{Plug, Unplug, Report, Variable, Recipe, Start, Advance}
use Rattle.event_json.specs.declared.kind.EventKind.TheVariants.{Freeze, Thaw, Stop, Abandon, Desk, ExchangeBegin}
use Rattle.event_json.specs.declared.kind.EventKind.TheVariants.{ExchangeEnd, ExchangeCancel}
use Rattle.event_json.specs.Binds.{allocation_from, binds_of, binds_or_none}
use Rattle.event_json.specs.Words.{kind_words, mode_words, origin_words}

-- ---- modules

-- a module is plugged
unfoldable pub plug_in : Data → ReadResult PlainEvent
plug_in value =
    required (codes "at") (count 0 greatest_u64) value >>= λ at.
    required (codes "tag") name value >>= λ tag.
    nested (codes "desc") description_of value >>= λ description.
    nothing_but (codes "ev at tag desc") value >>= λ _.
    Ok (plug at tag description)

-- an event that names a tag and nothing more
unfoldable pub tag_in : (ℕ → List ℕ → PlainEvent) → Data → ReadResult PlainEvent
tag_in event value =
    required (codes "at") (count 0 greatest_u64) value >>= λ at.
    required (codes "tag") name value >>= λ tag.
    nothing_but (codes "ev at tag") value >>= λ _.
    Ok (event at tag)

-- the five fields of what a service reports
unfoldable pub control_in : Data → ReadResult ServiceControl
control_in value =
    required (codes "StateCur") (code state_codes) value >>= λ state.
    required (codes "CommandEn") (count 0 greatest_u32) value >>= λ mask.
    required (codes "Mode") (word mode_words) value >>= λ mode.
    required (codes "Src") (word origin_words) value >>= λ origin.
    required (codes "ProcedureCur") (count 0 65535) value >>= λ procedure.
    Ok (record { state = state; mask = mask; mode = mode; origin = origin; procedure = procedure })

-- a service reports
unfoldable pub report_in : Data → ReadResult PlainEvent
report_in value =
    required (codes "at") (count 0 greatest_u64) value >>= λ at.
    required (codes "tag") name value >>= λ tag.
    required (codes "service") name value >>= λ service.
    control_in value >>= λ control.
    nothing_but (codes "ev at tag service StateCur CommandEn Mode Src ProcedureCur") value >>= λ _.
    Ok (report at tag service control)

-- a variable has a value
unfoldable pub variable_in : Data → ReadResult PlainEvent
variable_in value =
    required (codes "at") (count 0 greatest_u64) value >>= λ at.
    required (codes "tag") name value >>= λ tag.
    required (codes "name") name value >>= λ named.
    required (codes "value") scalar value >>= λ found.
    nothing_but (codes "ev at tag name value") value >>= λ _.
    Ok (variable at tag named found)

-- an operator commands a service
unfoldable pub desk_in : Data → ReadResult PlainEvent
desk_in value =
    required (codes "at") (count 0 greatest_u64) value >>= λ at.
    required (codes "tag") name value >>= λ tag.
    required (codes "service") name value >>= λ service.
    required (codes "CommandOp") (code command_codes) value >>= λ command.
    nothing_but (codes "ev at tag service CommandOp") value >>= λ _.
    Ok (desk at tag service command)

-- another module takes the place of one that is away
unfoldable pub exchange_end_in : Data → ReadResult PlainEvent
exchange_end_in value =
    required (codes "at") (count 0 greatest_u64) value >>= λ at.
    required (codes "tag") name value >>= λ tag.
    required (codes "ticket") (count 0 greatest_u32) value >>= λ ticket.
    nested (codes "desc") description_of value >>= λ description.
    nothing_but (codes "ev at tag ticket desc") value >>= λ _.
    Ok (exchange_end at tag ticket description)

-- a module that is away comes back
unfoldable pub exchange_cancel_in : Data → ReadResult PlainEvent
exchange_cancel_in value =
    required (codes "at") (count 0 greatest_u64) value >>= λ at.
    required (codes "tag") name value >>= λ tag.
    required (codes "ticket") (count 0 greatest_u32) value >>= λ ticket.
    nothing_but (codes "ev at tag ticket") value >>= λ _.
    Ok (exchange_cancel at tag ticket)

-- ---- recipes

-- a recipe is made known: that no role is named twice is asked when all else was read
unfoldable pub recipe_in : Data → ReadResult PlainEvent
recipe_in value =
    required (codes "at") (count 0 greatest_u64) value >>= λ at.
    required (codes "recipe") name value >>= λ named.
    nested (codes "roles") roles_of value >>= λ roles.
    nested (codes "chart") tree_of value >>= λ root.
    nothing_but (codes "ev at recipe roles chart") value >>= λ _.
    chart_from roles root >>= λ chart.
    Ok (recipe at named chart)

-- ---- batches

-- a batch is started: that no role is held and watched is asked when all else was read
unfoldable pub start_in : Data → ReadResult PlainEvent
start_in value =
    required (codes "at") (count 0 greatest_u64) value >>= λ at.
    required (codes "batch") name value >>= λ batch.
    required (codes "recipe") name value >>= λ named.
    nested (codes "bind") binds_of value >>= λ held.
    binds_or_none (codes "watch") value >>= λ watched.
    nothing_but (codes "ev at batch recipe bind watch") value >>= λ _.
    allocation_from (record { held = held; watched = watched }) >>= λ binds.
    Ok (start at batch named binds)

-- an event that names a batch and nothing more
unfoldable pub batch_in : (ℕ → List ℕ → PlainEvent) → Data → ReadResult PlainEvent
batch_in event value =
    required (codes "at") (count 0 greatest_u64) value >>= λ at.
    required (codes "batch") name value >>= λ batch.
    nothing_but (codes "ev at batch") value >>= λ _.
    Ok (event at batch)

-- a batch is frozen
unfoldable pub freeze_in : Data → ReadResult PlainEvent
freeze_in value =
    required (codes "at") (count 0 greatest_u64) value >>= λ at.
    required (codes "batch") name value >>= λ batch.
    required (codes "hold") truth value >>= λ hold.
    nothing_but (codes "ev at batch hold") value >>= λ _.
    Ok (freeze at batch hold)

-- ---- all kinds

-- an event of this kind
abbrev pub event_by : Data → EventKind → ReadResult PlainEvent
event_by value Plug = plug_in value
event_by value Unplug = tag_in unplug value
event_by value Report = report_in value
event_by value Variable = variable_in value
event_by value Recipe = recipe_in value
event_by value Start = start_in value
event_by value Advance = batch_in advance value
event_by value Freeze = freeze_in value
event_by value Thaw = batch_in thaw value
event_by value Stop = batch_in stop_batch value
event_by value Abandon = batch_in abandon value
event_by value Desk = desk_in value
event_by value ExchangeBegin = tag_in exchange_begin value
event_by value ExchangeEnd = exchange_end_in value
event_by value ExchangeCancel = exchange_cancel_in value

-- an event: `ev` names its kind, and then come the fields of this kind
unfoldable pub event_in : Data → ReadResult PlainEvent
event_in value =
    object_here value >>= λ _.
    required (codes "ev") (word kind_words) value >>= λ kind.
    event_by value kind
