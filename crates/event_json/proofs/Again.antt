-- What is written of an event is read back.
use Rattle.std.proofs.Common.{◌≡◌, ◌&&◌, ℕ, suc, Bool, List, [], ◌∷◌, length, Option, Ok, Some, None, true, false}
use Rattle.std.proofs.Common.{true≢false, refl, sym, ap}
use Rattle.std.proofs.lemmas.Bool.{and_parts}
use Rattle.std.specs.List.{list_all}
use Rattle.std.specs.Prelude.{codes, is_none, nat_le, ⊤}
use Rattle.std.specs.Str.{IsUtf8}
use Rattle.serde_json.specs.Data.{Data, string}
use Rattle.serde_json.specs.Events.{members_len}
use Rattle.serde_json.specs.Read.{read}
use Rattle.mtp_codes.specs.Codes.{command_codes, command_number, state_codes, state_number}
use Rattle.mtp_codes.specs.Names.{is_name}
use Rattle.mtp_codes.specs.declared.command.Command.{Command}
use Rattle.mtp_codes.specs.declared.limits.TheConstants.{MOST_BINDS}
use Rattle.mtp_codes.specs.declared.command.Command.TheVariants as command
use Rattle.mtp_codes.specs.declared.mode.Mode.{Mode}
use Rattle.mtp_codes.specs.declared.mode.Mode.TheVariants.{Off, Operator, Automatic}
use Rattle.mtp_codes.specs.declared.mode.Origin.{Origin}
use Rattle.mtp_codes.specs.declared.mode.Origin.TheVariants.{Internal, External}
use Rattle.mtp_codes.specs.declared.state.State.{State}
use Rattle.mtp_codes.specs.declared.state.State.TheVariants.{Stopped, Starting, Idle, Paused, Execute, Stopping}
use Rattle.mtp_codes.specs.declared.state.State.TheVariants.{Aborting, Aborted, Holding, Held, Unholding, Pausing}
use Rattle.mtp_codes.specs.declared.state.State.TheVariants.{Resuming, Resetting, Completing, Completed}
use Rattle.mtp_codes.specs.declared.value.Value.{Value}
use Rattle.mtp_codes.specs.Numbers.{greatest_u32, greatest_u64, is_between}
use Rattle.mtp_json.specs.Leaf.{code, word}
use Rattle.mtp_json.specs.Parse.{json_of}
use Rattle.mtp_json.specs.Written.{is_scalar, scalar_data}
use Rattle.mtp_json.proofs.Again.{scalar_again}
use Rattle.mtp_json.proofs.Utf8.{utf8_is}
use Rattle.mtp_assembly.specs.declared.control.ServiceControl.{ServiceControl}
use Rattle.mtp_desc.specs.PlainDescription.{plain_description}
use Rattle.mtp_desc.specs.Plain.{PlainDescription}
use Rattle.mtp_desc.proofs.Sound.{IsDescription, description_sound}
use Rattle.desc_json.specs.Written.{written_description}
use Rattle.desc_json.proofs.Again.{description_again}
use Rattle.chart_core.specs.Charts.{plain_chart}
use Rattle.chart_core.specs.Roles.{PlainChart, is_chart_form}
use Rattle.chart_core.specs.Valid.{chart_fault}
use Rattle.chart_json.specs.Sound.{is_sound}
use Rattle.chart_json.specs.Written.{written_roles, written_tree}
use Rattle.chart_json.proofs.Again.{chart_from_again, roles_of_chart_again, root_again}
use Rattle.pol_events.specs.declared.event.Bind.{Bind}
use Rattle.pol_events.specs.declared.event.Event.{Event}
use Rattle.pol_events.specs.declared.event.Event.TheVariants.{Plug, Unplug, Report, Variable, Recipe, Start, Advance}
use Rattle.pol_events.specs.declared.event.Event.TheVariants.{Freeze, Thaw, StopBatch, Abandon, Desk, ExchangeBegin}
use Rattle.pol_events.specs.declared.event.Event.TheVariants.{ExchangeEnd, ExchangeCancel}
use Rattle.pol_events.specs.Events.{PlainEvent, plug, unplug, report, variable, recipe, start, advance, freeze, thaw}
use Rattle.pol_events.specs.Events.{stop_batch, abandon, desk, exchange_begin, exchange_end, exchange_cancel}
use Rattle.pol_events.specs.Events.{plain_event}
use Rattle.pol_events.specs.Bound.{PlainAllocation, shares_a_role}
use Rattle.pol_events.specs.Orderly.{is_orderly, is_valid, rise}
use Rattle.pol_events.proofs.Rising.{by_role_rising}
use Rattle.pol_events.proofs.Given.{allocation_parts}
use Rattle.event_json.specs.Binds.{are_texts, each_bind, binds_of}
use Rattle.event_json.specs.Forms.{control_in, event_in, plug_in, tag_in, report_in, variable_in, desk_in}
use Rattle.event_json.specs.Forms.{exchange_end_in, exchange_cancel_in, recipe_in, start_in, freeze_in, batch_in}
use Rattle.event_json.specs.Ranges.{is_stamped, is_in_range, is_bind_in_range, is_allocation_in_range}
use Rattle.event_json.specs.Ranges.{is_control_in_range}
use Rattle.event_json.specs.Lines.{event_of, fault_within}
use Rattle.event_json.specs.Words.{mode_words, origin_words}
use Rattle.event_json.specs.Written.{whole, mode_word, origin_word, bind_members, written_binds, written_plug}
use Rattle.event_json.specs.Written.{written_tag, written_report, written_variable, written_desk, written_exchange_end}
use Rattle.event_json.specs.Written.{written_exchange_cancel, written_recipe, start_with, written_start, written_freeze}
use Rattle.event_json.specs.Written.{written_batch, written_event}

-- ---- words and codes

-- the code of a state names it
state_again : (state : State) → code state_codes (whole (state_number state)) ≡ Ok state
state_again Stopped = refl
state_again Starting = refl
state_again Idle = refl
state_again Paused = refl
state_again Execute = refl
state_again Stopping = refl
state_again Aborting = refl
state_again Aborted = refl
state_again Holding = refl
state_again Held = refl
state_again Unholding = refl
state_again Pausing = refl
state_again Resuming = refl
state_again Resetting = refl
state_again Completing = refl
state_again Completed = refl

-- the code of a command names it
command_again : (order : Command) → code command_codes (whole (command_number order)) ≡ Ok order
command_again command.Reset = refl
command_again command.Start = refl
command_again command.Stop = refl
command_again command.Hold = refl
command_again command.Unhold = refl
command_again command.Pause = refl
command_again command.Resume = refl
command_again command.Abort = refl
command_again command.Restart = refl
command_again command.Complete = refl

-- the word of a mode names it
mode_again : (mode : Mode) → word mode_words (string (mode_word mode)) ≡ Ok mode
mode_again Off = refl
mode_again Operator = refl
mode_again Automatic = refl

-- the word of a source names it
origin_again : (origin : Origin) → word origin_words (string (origin_word origin)) ≡ Ok origin
origin_again Internal = refl
origin_again External = refl

-- ---- modules

-- a written plug is read back
plug_again : (at : ℕ) (tag : List ℕ) (description : PlainDescription) → is_stamped at tag ≡ true
    → IsDescription description
    → event_in (written_plug at tag (written_description description)) ≡ Ok (plug at tag description)
unfolding event_in plug_in written_plug
plug_again at tag description held sound = let stamped =
    and_parts (is_between 0 greatest_u64 at) (is_name tag) held in rw
    (stamped.0, stamped.1, description_again description sound) refl

-- a written event that names a tag alone is read back by its form
tag_again : (word : List ℕ) (event : ℕ → List ℕ → PlainEvent) (at : ℕ) (tag : List ℕ) → is_stamped at tag ≡ true
    → tag_in event (written_tag word at tag) ≡ Ok (event at tag)
unfolding tag_in written_tag
tag_again word event at tag held = let stamped = and_parts (is_between 0 greatest_u64 at) (is_name tag) held in
    rw (stamped.0, stamped.1) refl

-- a written report is read back
report_again : (at : ℕ) (tag service : List ℕ) (control : ServiceControl)
    → is_in_range (report at tag service control) ≡ true
    → event_in (written_report at tag service control) ≡ Ok (report at tag service control)
unfolding event_in report_in control_in written_report
report_again at tag service control held =
    let parts = and_parts (is_stamped at tag) (is_name service && is_control_in_range control) held in
    let stamped = and_parts (is_between 0 greatest_u64 at) (is_name tag) parts.0 in
    let served = and_parts (is_name service) (is_control_in_range control) parts.1 in
    let ranged = and_parts (is_between 0 greatest_u32 control.mask) (is_between 0 65535 control.procedure) served.1 in
    rw (
      stamped.0,
      stamped.1,
      served.0,
      state_again control.state,
      ranged.0,
      mode_again control.mode,
      origin_again
          control.origin,
      ranged.1,
    ) refl

-- a written value of a variable is read back
variable_again : (at : ℕ) (tag named : List ℕ) (value : Value) → is_in_range (variable at tag named value) ≡ true
    → event_in (written_variable at tag named (scalar_data value)) ≡ Ok (variable at tag named value)
unfolding event_in variable_in written_variable
variable_again at tag named value held =
    let parts = and_parts (is_stamped at tag) (is_name named && is_scalar value) held in
    let stamped = and_parts (is_between 0 greatest_u64 at) (is_name tag) parts.0 in
    let valued = and_parts (is_name named) (is_scalar value) parts.1 in
    rw (stamped.0, stamped.1, valued.0, scalar_again value valued.1) refl

-- a written command of an operator is read back
desk_again : (at : ℕ) (tag service : List ℕ) (order : Command) → is_in_range (desk at tag service order) ≡ true
    → event_in (written_desk at tag service order) ≡ Ok (desk at tag service order)
unfolding event_in desk_in written_desk
desk_again at tag service order held =
    let parts = and_parts (is_stamped at tag) (is_name service) held in
    let stamped = and_parts (is_between 0 greatest_u64 at) (is_name tag) parts.0 in
    rw (stamped.0, stamped.1, parts.1, command_again order) refl

-- a written end of an exchange is read back
exchange_end_again : (at : ℕ) (tag : List ℕ) (ticket : ℕ) (description : PlainDescription)
    → (is_stamped at tag && is_between 0 greatest_u32 ticket) ≡ true → IsDescription description
    → event_in (written_exchange_end at tag ticket (written_description description))
    ≡ Ok (exchange_end at tag ticket description)
unfolding event_in exchange_end_in written_exchange_end
exchange_end_again at tag ticket description held sound =
    let parts = and_parts (is_stamped at tag) (is_between 0 greatest_u32 ticket) held in
    let stamped = and_parts (is_between 0 greatest_u64 at) (is_name tag) parts.0 in
    rw (stamped.0, stamped.1, parts.1, description_again description sound) refl

-- a written cancelling of an exchange is read back
exchange_cancel_again : (at : ℕ) (tag : List ℕ) (ticket : ℕ)
    → (is_stamped at tag && is_between 0 greatest_u32 ticket) ≡ true
    → event_in (written_exchange_cancel at tag ticket) ≡ Ok (exchange_cancel at tag ticket)
unfolding event_in exchange_cancel_in written_exchange_cancel
exchange_cancel_again at tag ticket held =
    let parts = and_parts (is_stamped at tag) (is_between 0 greatest_u32 ticket) held in
    let stamped = and_parts (is_between 0 greatest_u64 at) (is_name tag) parts.0 in
    rw (stamped.0, stamped.1, parts.1) refl

-- ---- recipes

-- a written recipe is read back
recipe_again : (at : ℕ) (named : List ℕ) (chart : PlainChart) → is_chart_form chart ≡ true
    → is_in_range (recipe at named chart) ≡ true
    → event_in (written_recipe at named (written_roles chart.roles) (written_tree chart.root))
    ≡ Ok (recipe at named chart)
unfolding event_in recipe_in written_recipe
recipe_again at named chart formed held =
    let parts = and_parts (is_stamped at named) (is_sound chart) held in
    let stamped = and_parts (is_between 0 greatest_u64 at) (is_name named) parts.0 in
    rw (
      stamped.0,
      stamped.1,
      roles_of_chart_again chart formed parts.1,
      root_again chart formed parts.1,
      chart_from_again chart formed,
    ) refl

-- ---- batches

-- what is written of binds has only texts
texts_again : (binds : List Bind) → are_texts (bind_members binds) ≡ true
texts_again [] = refl
texts_again (bind ∷ binds) = texts_again binds

-- and as many members as there are binds
many_again : (binds : List Bind) → members_len (bind_members binds) ≡ length binds
many_again [] = refl
many_again (bind ∷ binds) = ap suc (many_again binds)

-- each bind is read back
each_again : (binds : List Bind) → list_all is_bind_in_range binds ≡ true → each_bind (bind_members binds) ≡ Ok binds
unfolding each_bind
each_again [] held = refl
each_again (bind ∷ binds) held =
    let parts = and_parts (is_bind_in_range bind) (list_all is_bind_in_range binds) held in
    let named = and_parts (is_name bind.role) (is_name bind.tag) parts.0 in
    rw (named.0, named.1, each_again binds parts.1) refl

-- written binds are read back
binds_again : (binds : List Bind) → (nat_le (length binds) MOST_BINDS && rise binds) ≡ true
    → list_all is_bind_in_range binds ≡ true
    → binds_of (written_binds binds) ≡ Ok binds
unfolding binds_of written_binds
binds_again binds orderly held =
    let parts = and_parts (nat_le (length binds) MOST_BINDS) (rise binds) orderly in
    rw (texts_again binds, many_again binds, parts.0, each_again binds held, by_role_rising binds parts.1) refl

-- a written start is read back, where it watches nothing and where it watches something
watching_again : (at : ℕ) (batch named : List ℕ) (held watched : List Bind)
    → (is_between 0 greatest_u64 at ≡ true) × (is_name batch ≡ true) × (is_name named ≡ true)
    × (binds_of (written_binds held) ≡ Ok held)
    → ((unit : ⊤) → binds_of (written_binds watched) ≡ Ok watched)
    → shares_a_role (record { held = held; watched = watched }) ≡ false
    → event_in (written_start at batch named (record { held = held; watched = watched }))
    ≡ Ok (start at batch named (record { held = held; watched = watched }))
unfolding event_in start_in start_with
watching_again at batch named held [] (stamp, of_batch, of_recipe, again) seen apart =
    rw (stamp, of_batch, of_recipe, again, apart) refl
watching_again at batch named held (bind ∷ watched) (stamp, of_batch, of_recipe, again) seen apart =
    rw (stamp, of_batch, of_recipe, again, seen tt, apart) refl

-- a written start is read back
start_again : (at : ℕ) (batch named : List ℕ) (binds : PlainAllocation)
    → is_in_range (start at batch named binds) ≡ true
    → is_orderly (start at batch named binds) ≡ true
    → event_in (written_start at batch named binds) ≡ Ok (start at batch named binds)
start_again at batch named binds held orderly =
    let parts = and_parts (is_stamped at batch) (is_name named && is_allocation_in_range binds) held in
    let stamped = and_parts (is_between 0 greatest_u64 at) (is_name batch) parts.0 in
    let bound = and_parts (is_name named) (is_allocation_in_range binds) parts.1 in
    let ranged = and_parts (list_all is_bind_in_range binds.held) (list_all is_bind_in_range binds.watched) bound.1 in
    let ordered = allocation_parts binds orderly in
    watching_again at batch named binds.held binds.watched
    (stamped.0, stamped.1, bound.0, binds_again binds.held ordered.0 ranged.0)
    (λ _. binds_again binds.watched ordered.1 ranged.1) ordered.2

-- a written freeze is read back
pub freeze_again : (at : ℕ) (batch : List ℕ) (hold : Bool) → is_stamped at batch ≡ true
    → event_in (written_freeze at batch hold) ≡ Ok (freeze at batch hold)
unfolding event_in freeze_in written_freeze
freeze_again at batch hold held = let stamped = and_parts (is_between 0 greatest_u64 at) (is_name batch) held in
    rw (stamped.0, stamped.1) refl

-- a written event that names a batch alone is read back by its form
batch_again : (word : List ℕ) (event : ℕ → List ℕ → PlainEvent) (at : ℕ) (batch : List ℕ) → is_stamped at batch ≡ true
    → batch_in event (written_batch word at batch) ≡ Ok (event at batch)
unfolding batch_in written_batch
batch_again word event at batch held = let stamped = and_parts (is_between 0 greatest_u64 at) (is_name batch) held in
    rw (stamped.0, stamped.1) refl

-- ---- all kinds

-- what is none is none
is_none_none : {A : Type 0} (found : Option A) → is_none found ≡ true → found ≡ None
is_none_none None none = refl
is_none_none (Some value) none = absurd (true≢false (sym none))

-- the chart of an orderly event has no fault
pub faultless : (event : PlainEvent) → is_orderly event ≡ true → fault_within event ≡ None
faultless (recipe at name chart) orderly = is_none_none (chart_fault chart)
    (and_parts (is_chart_form chart) (is_valid chart) orderly).1
faultless _ orderly = refl

-- a written event is read back
pub event_again : (event : Event) → is_in_range (plain_event event) ≡ true → is_orderly (plain_event event) ≡ true
    → event_in (written_event (plain_event event)) ≡ Ok (plain_event event)
unfolding event_in written_tag written_batch
event_again (Plug at tag desc) held orderly = plug_again at tag (plain_description desc.value) held
    (description_sound desc.value)
event_again (Unplug at tag) held orderly = tag_again (codes "unplug") unplug at tag held
event_again (Report at tag service control) held orderly = report_again at tag service control held
event_again (Variable at tag name value) held orderly = variable_again at tag name value held
event_again (Recipe at name chart) held orderly = recipe_again at name (plain_chart chart.value) chart.value.form held
event_again (Start at batch name bind watch) held orderly =
    start_again at batch name (record { held = bind.items; watched = watch.items }) held orderly
event_again (Advance at batch) held orderly = batch_again (codes "advance") advance at batch held
event_again (Freeze at batch hold) held orderly = freeze_again at batch hold held
event_again (Thaw at batch) held orderly = batch_again (codes "thaw") thaw at batch held
event_again (StopBatch at batch) held orderly = batch_again (codes "stop") stop_batch at batch held
event_again (Abandon at batch) held orderly = batch_again (codes "abandon") abandon at batch held
event_again (Desk at tag service order) held orderly = desk_again at tag service order held
event_again (ExchangeBegin at tag) held orderly = tag_again (codes "exchange_begin") exchange_begin at tag held
event_again (ExchangeEnd at tag ticket desc) held orderly = exchange_end_again at tag ticket
    (plain_description desc.value) held (description_sound desc.value)
event_again (ExchangeCancel at tag ticket) held orderly = exchange_cancel_again at tag ticket held

-- a text that is read as a value is a line that says what the value says, if that is orderly
pub line_again : (text : List ℕ) (value : Data) (event : PlainEvent) → IsUtf8 text → read text ≡ Some value
    → event_in value ≡ Ok event → is_orderly event ≡ true → event_of text ≡ Ok event
unfolding event_of json_of
line_again text value event utf8 is again orderly = rw (utf8_is text utf8, is, again, faultless event orderly) refl
