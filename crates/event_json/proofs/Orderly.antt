-- What a line says is orderly.
use Rattle.std.proofs.Common.{◌≡◌, ◌&&◌, ℕ, Bool, List, true, false, Option, Some, None, Err, Ok, rules, refl}
use Rattle.std.specs.Prelude.{[], codes, unwrap_or, IfOk, IsTrue, Result}
use Rattle.serde_json.specs.Data.{Data}
use Rattle.mtp_codes.specs.Numbers.{greatest_u64}
use Rattle.mtp_codes.specs.Repeats.{repeats_by}
use Rattle.mtp_json.specs.declared.fault.FaultKind.TheVariants.{Repeated}
use Rattle.mtp_json.specs.Form.{required, nested, nested_if_there, nothing_but, refused_if}
use Rattle.mtp_json.specs.Leaf.{count, name}
use Rattle.mtp_json.specs.ReadResult.{ReadResult, ◌>>=◌, under}
use Rattle.chart_core.specs.Form.{is_tree_formed}
use Rattle.chart_core.specs.Roles.{PlainRole, PlainChart, is_chart_form}
use Rattle.chart_core.specs.Trees.{Tree}
use Rattle.chart_core.specs.Valid.{chart_fault}
use Rattle.chart_core.specs.declared.fault.ChartFault.{ChartFault}
use Rattle.chart_json.specs.Form.{roles_of, are_roles_sized, same_role, tree_of, chart_from}
use Rattle.chart_json.proofs.Formed.{tree_formed, roles_sized, chart_formed}
use Rattle.chart_json.proofs.Told.{any_before, told_before, told_inside, told_inside_if_there}
use Rattle.pol_events.specs.declared.event.Event.{Event}
use Rattle.pol_events.specs.Bound.{PlainAllocation, shares_a_role}
use Rattle.pol_events.specs.declared.event.Bind.{Bind}
use Rattle.pol_events.specs.Events.{PlainEvent, plain_event, recipe}
use Rattle.pol_events.specs.Orderly.{is_allocation, is_orderly, is_valid}
use Rattle.event_json.specs.declared.fault.LineRefusal.{LineRefusal}
use Rattle.event_json.specs.declared.kind.EventKind.{EventKind}
use Rattle.event_json.specs.declared.kind.EventKind.TheVariants.{Plug, Unplug, Report, Variable, Recipe, Start, Advance}
use Rattle.event_json.specs.declared.kind.EventKind.TheVariants.{Freeze, Thaw, Stop, Abandon, Desk, ExchangeBegin}
use Rattle.event_json.specs.declared.kind.EventKind.TheVariants.{ExchangeEnd, ExchangeCancel}
use Rattle.event_json.specs.Binds.{allocation_from, binds_of, binds_or_none}
use Rattle.event_json.specs.Forms.{plug_in, tag_in, report_in, variable_in, desk_in, exchange_end_in}
use Rattle.event_json.specs.Forms.{exchange_cancel_in, recipe_in, start_in, freeze_in, batch_in, event_by, event_in}
use Rattle.event_json.specs.Lines.{Tells, read_of, fault_within, unless_faulty, of_line, event_of}
use Rattle.event_json.proofs.Members.{AreOrderly, binds_orderly}

-- the event is orderly, unless its chart has a fault
abbrev pub IsOrderly : PlainEvent → Type 0
IsOrderly event = fault_within event ≡ None → is_orderly event ≡ true

-- the binds at a key are orderly, and so are none
pub none_orderly : (key : List ℕ) (value : Data) → IfOk (binds_or_none key value) AreOrderly
none_orderly key value =
    told_before (λ found. AreOrderly (unwrap_or found [])) AreOrderly (nested_if_there key binds_of value) _
    (told_inside_if_there (λ found. AreOrderly (unwrap_or found [])) key binds_of refl binds_orderly value)
    (λ found orderly. orderly)

-- the binds are as in a line
abbrev pub IsAllocation : PlainAllocation → Type 0
IsAllocation binds = is_allocation binds ≡ true

-- two lists of which no role is in both
pub allocation_orderly : (held watched : List Bind) → AreOrderly held → AreOrderly watched
    → IfOk (allocation_from (record { held = held; watched = watched })) IsAllocation
allocation_orderly held watched first second = go (shares_a_role (record { held = held; watched = watched })) refl
  where
    go : (broken : Bool) → shares_a_role (record { held = held; watched = watched }) ≡ broken →
        IfOk (under (codes "watch") (refused_if broken Repeated)
        >>= λ _. Ok (record { held = held; watched = watched })) IsAllocation
    go true is = tt
    go false is = rw (first, second, is) refl

-- a start that is read is in order
start_orderly : (value : Data) → IfOk (start_in value) IsOrderly
unfolding start_in
start_orderly value =
    any_before IsOrderly (required (codes "at") (count 0 greatest_u64) value) _ (λ at.
    any_before IsOrderly (required (codes "batch") name value) _ (λ batch.
    any_before IsOrderly (required (codes "recipe") name value) _ (λ named.
    told_before AreOrderly IsOrderly (nested (codes "bind") binds_of value) _
    (told_inside AreOrderly (codes "bind") binds_of binds_orderly value) (λ held first.
    told_before AreOrderly IsOrderly (binds_or_none (codes "watch") value) _ (none_orderly (codes "watch") value)
    (λ watched second.
    any_before IsOrderly (nothing_but (codes "ev at batch recipe bind watch") value) _ (λ _.
    told_before IsAllocation IsOrderly (allocation_from (record { held = held; watched = watched })) _
    (allocation_orderly held watched first second) (λ binds orderly _. orderly)))))))

-- a chart that is formed and has no fault is orderly
sound_chart : (chart : PlainChart) → is_chart_form chart ≡ true → chart_fault chart ≡ None
    → (is_chart_form chart && is_valid chart) ≡ true
sound_chart chart formed none = rw (formed, none) refl

-- a chart of sized roles and a formed root is formed, where no role is named twice
made_orderly : (at : ℕ) (named : List ℕ) (roles : List PlainRole) (root : Tree) → are_roles_sized roles ≡ true
    → is_tree_formed root ≡ true →
    IfOk (chart_from roles root >>= λ chart. Ok (recipe at named chart)) IsOrderly
unfolding chart_from
made_orderly at named roles root sized formed = go (repeats_by same_role roles) refl
  where
    go : (broken : Bool) → repeats_by same_role roles ≡ broken →
        IfOk ((under (codes "roles") (refused_if broken Repeated) >>= λ _. Ok (record { roles = roles; root = root }))
        >>= λ chart. Ok (recipe at named chart)) IsOrderly
    go true is = tt
    go false is = λ none. sound_chart (record { roles = roles; root = root })
        (chart_formed roles root sized formed is) none

-- and so is a recipe
recipe_orderly : (value : Data) → IfOk (recipe_in value) IsOrderly
unfolding recipe_in
recipe_orderly value =
    any_before IsOrderly (required (codes "at") (count 0 greatest_u64) value) _ (λ at.
    any_before IsOrderly (required (codes "recipe") name value) _ (λ named.
    told_before (λ roles. are_roles_sized roles ≡ true) IsOrderly (nested (codes "roles") roles_of value) _
    (told_inside (λ roles. are_roles_sized roles ≡ true) (codes "roles") roles_of roles_sized value) (λ roles sized.
    told_before (λ root. is_tree_formed root ≡ true) IsOrderly (nested (codes "chart") tree_of value) _
    (told_inside (λ root. is_tree_formed root ≡ true) (codes "chart") tree_of tree_formed value) (λ root formed.
    any_before IsOrderly (nothing_but (codes "ev at recipe roles chart") value) _
    (λ _. made_orderly at named roles root sized formed)))))

-- an event of any kind is orderly, unless its chart has a fault
pub kind_orderly : (value : Data) (kind : EventKind) → IfOk (event_by value kind) IsOrderly
unfolding plug_in tag_in report_in variable_in desk_in exchange_end_in exchange_cancel_in freeze_in batch_in
kind_orderly value Plug = search (rules, any_before)
kind_orderly value Unplug = search (rules, any_before)
kind_orderly value Report = search (rules, any_before)
kind_orderly value Variable = search (rules, any_before)
kind_orderly value Recipe = recipe_orderly value
kind_orderly value Start = start_orderly value
kind_orderly value Advance = search (rules, any_before)
kind_orderly value Freeze = search (rules, any_before)
kind_orderly value Thaw = search (rules, any_before)
kind_orderly value Stop = search (rules, any_before)
kind_orderly value Abandon = search (rules, any_before)
kind_orderly value Desk = search (rules, any_before)
kind_orderly value ExchangeBegin = search (rules, any_before)
kind_orderly value ExchangeEnd = search (rules, any_before)
kind_orderly value ExchangeCancel = search (rules, any_before)

-- and so is one that a value says
pub value_orderly : (value : Data) → IfOk (event_in value) IsOrderly
unfolding event_in
value_orderly value = search (rules, any_before, kind_orderly)

-- so whatever a line says is in order, but for the rules of charts
read_orderly : (line : List ℕ) → IfOk (read_of line) IsOrderly
read_orderly line = search (rules, any_before, value_orderly)

-- with those it is in order in full
valid_orderly : (found event : PlainEvent) (fault : Option ChartFault) → fault_within found ≡ fault → IsOrderly found
    → unless_faulty found fault ≡ Ok event → is_orderly event ≡ true
valid_orderly found event None none orderly is = let same : found ≡ event = cc in rw (← same) (orderly none)
valid_orderly found event (Some fault) some orderly is = absurd cc

-- an event that a line says is in order
said_orderly : (read : ReadResult PlainEvent) (event : PlainEvent) → IfOk read IsOrderly → of_line read ≡ Ok event
    → is_orderly event ≡ true
said_orderly (Ok found) event orderly is = valid_orderly found event (fault_within found) refl orderly is
said_orderly (Err fault) event orderly is = absurd cc

-- an event that a line says is orderly
pub line_orderly : (line : List ℕ) (event : PlainEvent) → event_of line ≡ Ok event → is_orderly event ≡ true
unfolding event_of
line_orderly line event is = said_orderly (read_of line) event (read_orderly line) is

-- what was told of a value is orderly
pub from_orderly : (value : Data) (result : Result Event LineRefusal) → Tells result (of_line (event_in value))
    → IfOk result (λ event. IsTrue (is_orderly (plain_event event)))
from_orderly value (Ok event) tells = said_orderly (event_in value) (plain_event event) (value_orderly value) tells
from_orderly value (Err refusal) tells = tt

-- what was told of a line is orderly
pub told_orderly : (line : List ℕ) (result : Result Event LineRefusal) → Tells result (event_of line)
    → IfOk result (λ event. IsTrue (is_orderly (plain_event event)))
told_orderly line (Ok event) tells = line_orderly line (plain_event event) tells
told_orderly line (Err refusal) tells = tt
