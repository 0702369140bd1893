-- Looking back at a batch: each value is found in the batch's past, its chart among the recipes.
use Rattle.std.specs.Prelude.{ℕ, Bool, true, false, ◌&&◌, List, [], filter, filter_map, Option, Some, None, is_some}
use Rattle.std.specs.Prelude.{is_none, unwrap_or, reverse, option_and_then, if◌then◌else◌}
use Rattle.std.specs.Str.{bytes_eq}
use Rattle.mtp_codes.specs.Names.{is_among}
use Rattle.chart_core.specs.Roles.{PlainChart}
use Rattle.chart_core.specs.declared.entry.LogEntry.{LogEntry}
use Rattle.chart_core.specs.declared.entry.LogEntry.TheVariants.{Hold}
use Rattle.chart_core.specs.declared.next.Outcome.{Outcome}
use Rattle.chart_cursor.specs.Freezing.{Freezing, thawed, waiting, holding}
use Rattle.pol_events.specs.Events.{PlainEvent, recipe, start, freeze, thaw, stop_batch, PlainEntry}
use Rattle.pol_events.specs.declared.event.Bind.{Bind}
use Rattle.pol_events.specs.declared.answer.Answer.{Answer}
use Rattle.pol_events.specs.declared.answer.Answer.TheVariants.{Did, Closed}
use Rattle.pol_events.specs.Bound.{tags_of, PlainAllocation, given}
use Rattle.pol_history.specs.Looking.{History, past_of_batch, recipes, last_of, after_last, is_accepted}

-- what a batch was started with: its recipe, and which module plays each role, held or watched
pub record Started : Type 0 where
  pub recipe : List ℕ
  pub binds : PlainAllocation

-- what an event starts a batch with; none where it isn't a start
abbrev pub starting : PlainEvent → Option Started
starting (start at batch name binds) = Some (record { recipe = name; binds = binds })
starting _ = None

-- the batch's start, by its past
abbrev pub start_by : History → Option Started
start_by past = last_of (λ entry. starting entry.event) past

-- the batch's start, if it was started
abbrev pub start_of : History → List ℕ → Option Started
start_of history batch = start_by (past_of_batch batch history)

-- the chart that an event brings, where it is a recipe of this name
abbrev pub charted : List ℕ → PlainEvent → Option PlainChart
charted name (recipe at other chart) = if bytes_eq other name then Some chart else None
charted name _ = None

-- the chart of the recipe of this name, by the accepted recipes
abbrev pub chart_named : List ℕ → History → Option PlainChart
chart_named name recipes = last_of (λ entry. charted name entry.event) recipes

-- the chart of a batch with this start, by the accepted recipes
abbrev pub chart_by : History → Option Started → Option PlainChart
chart_by recipes started = option_and_then (λ started. chart_named started.recipe recipes) started

-- the chart of the batch
abbrev pub chart_of : History → List ℕ → Option PlainChart
chart_of history batch = chart_by (recipes history) (start_of history batch)

-- the binds of a start, held and watched; none of another event
abbrev pub binds_in : PlainEvent → List Bind
binds_in (start at batch name binds) = given binds
binds_in _ = []

-- the outcome with which an answer closes a batch
abbrev pub closing : Answer → Option Outcome
closing (Closed outcome) = Some outcome
closing _ = None

-- the outcome with which the batch was closed, by its past
abbrev pub outcome_by : History → Option Outcome
outcome_by past = last_of (λ entry. closing entry.answer) past

-- the outcome with which the batch was closed, if it was
abbrev pub outcome_of : History → List ℕ → Option Outcome
outcome_of history batch = outcome_by (past_of_batch batch history)

-- whether an event freezes its batch or ends its freeze
abbrev pub freezing : PlainEvent → Option Bool
freezing (freeze at batch hold) = Some true
freezing (thaw at batch) = Some false
freezing (stop_batch at batch) = Some false
freezing _ = None

-- the batch is frozen, by its past: the last of its freezes, thaws and stops is a freeze
abbrev pub is_frozen_by : History → Bool
is_frozen_by past = unwrap_or (last_of (λ entry. freezing entry.event) past) false

-- the batch is frozen
abbrev pub is_frozen : History → List ℕ → Bool
is_frozen history batch = is_frozen_by (past_of_batch batch history)

-- whether a freeze holds the services
abbrev pub holds : PlainEvent → Option Bool
holds (freeze at batch hold) = Some hold
holds _ = None

-- the batch is frozen and its services are held, by its past: its last freeze has `hold`
abbrev pub is_holding_by : History → Bool
is_holding_by past = is_frozen_by past && unwrap_or (last_of (λ entry. holds entry.event) past) false

-- the event is a freeze
abbrev pub is_freeze : PlainEvent → Bool
is_freeze (freeze at batch hold) = true
is_freeze _ = false

-- the step that an answer says was asked to hold
abbrev pub held_step : Answer → Option (List ℕ)
held_step (Did (Hold step tag service)) = Some step
held_step _ = None

-- the steps that were asked to hold since the batch's last freeze, by its past, the last one first
abbrev pub asked_by : History → List (List ℕ)
asked_by past = filter_map (λ entry. held_step entry.answer) (after_last (λ entry. is_freeze entry.event) past)

-- how a batch is frozen, by whether it is frozen, whether its services are held, and which steps were asked
abbrev pub frozen_so : Bool → Bool → List (List ℕ) → Freezing
frozen_so false held asked = thawed
frozen_so true false asked = waiting
frozen_so true true asked = holding asked

-- how the batch is frozen, by its past
abbrev pub freezing_by : History → Freezing
freezing_by past = frozen_so (is_frozen_by past) (is_holding_by past) (asked_by past)

-- how the batch is frozen
abbrev pub freezing_of : History → List ℕ → Freezing
freezing_of history batch = freezing_by (past_of_batch batch history)

-- the entry that an answer says was taken
abbrev pub taken : Answer → Option LogEntry
taken (Did entry) = Some entry
taken _ = None

-- the batch's log by its past, the oldest entry first
abbrev pub log_by : History → List LogEntry
log_by past = reverse (filter_map (λ entry. taken entry.answer) past)

-- the batch's log, the oldest entry first
abbrev pub log_of : History → List ℕ → List LogEntry
log_of history batch = log_by (past_of_batch batch history)

-- the batch of a start that binds the tag
abbrev pub taking : List ℕ → PlainEvent → Option (List ℕ)
taking tag (start at batch name binds) = if is_among (tags_of binds.held) tag then Some batch else None
taking tag _ = None

-- the batch whose accepted start an entry is, where it binds the tag
abbrev pub takes : List ℕ → PlainEntry → Option (List ℕ)
takes tag entry = if is_accepted entry.answer then taking tag entry.event else None

-- a batch, where it isn't closed
abbrev pub if_open : History → Option (List ℕ) → Option (List ℕ)
if_open history None = None
if_open history (Some batch) = if is_none (outcome_of history batch) then Some batch else None

-- the batch that holds the module: that of the last accepted start that binds it, where that batch isn't closed
abbrev pub holder_of : History → List ℕ → Option (List ℕ)
holder_of history tag = if_open history (last_of (takes tag) history)

-- the batch of a start that watches the tag
abbrev pub watching : List ℕ → PlainEvent → Option (List ℕ)
watching tag (start at batch name binds) = if is_among (tags_of binds.watched) tag then Some batch else None
watching tag _ = None

-- the batch whose accepted start an entry is, where it watches the tag
abbrev pub watches : List ℕ → PlainEntry → Option (List ℕ)
watches tag entry = if is_accepted entry.answer then watching tag entry.event else None

-- the batch isn't closed
abbrev pub is_open : History → List ℕ → Bool
is_open history batch = is_none (outcome_of history batch)

-- the batches that watch the module: they aren't closed, and their accepted starts watch it; in the order of the starts
abbrev pub watchers_of : History → List ℕ → List (List ℕ)
watchers_of history tag = reverse (filter (is_open history) (filter_map (watches tag) history))

-- the entry is an accepted start
abbrev pub is_start : PlainEntry → Bool
is_start entry = is_some (starting entry.event) && is_accepted entry.answer

-- the batch that an event starts
abbrev pub started_batch : PlainEvent → Option (List ℕ)
started_batch (start at batch name binds) = Some batch
started_batch _ = None

-- the batches that were started, in the order of their starts
abbrev pub batches : History → List (List ℕ)
batches history = reverse
    (filter_map (λ entry. if is_accepted entry.answer then started_batch entry.event else None) history)
