-- The rules that can refuse an event.
use Rattle.std.specs.Prelude.{ℕ, Bool, not, ◌&&◌, ◌||◌, nat_le, List, [], ◌∷◌, length, map, filter, Option, Some, None}
use Rattle.std.specs.Prelude.{is_some, is_none, option_and_then, option_map}
use Rattle.std.specs.Option.{option_or}
pub use Rattle.std.specs.Option.{option_and_then as by_description, option_and_then as by_view}
pub use Rattle.std.specs.Option.{option_and_then as by_holder}
use Rattle.mtp_codes.specs.Names.{same_name}
use Rattle.mtp_codes.specs.Faults.{when, first_of}
use Rattle.mtp_codes.specs.declared.limits.TheConstants.{MOST_BATCHES, MOST_MODULES, MOST_RECIPES}
use Rattle.mtp_machine.specs.States.{is_idle}
use Rattle.mtp_modes.specs.declared.view.ServiceView.{ServiceView}
use Rattle.mtp_desc.specs.Plain.{PlainDescription}
use Rattle.chart_core.specs.Roles.{PlainChart}
use Rattle.chart_core.specs.Trees.{PlainStep, steps}
use Rattle.mtp_procs.specs.Covers.{cover_fault, missing_by}
use Rattle.chart_cursor.specs.Logs.{active}
pub use Rattle.pol_events.specs.BindRules.{role_unbound, unknown_role, role_unknown, is_bound_before, twice}
pub use Rattle.pol_events.specs.BindRules.{one_module_twice, has_step, watched_step}
use Rattle.pol_events.specs.Refusals.{cover_rule, in_exchange, not_at_rest}
use Rattle.pol_events.specs.declared.answer.Rule.{Rule}
use Rattle.pol_events.specs.declared.answer.Rule.TheVariants.{TagTaken, NoModule, PlantFull, NotInExchange, RecipeKnown}
use Rattle.pol_events.specs.declared.answer.Rule.TheVariants.{NoRecipe, BatchKnown, NoBatch, BatchClosed, NotReported}
use Rattle.pol_events.specs.declared.answer.Rule.TheVariants.{NotIdle, Busy, BatchesFull, ActiveStep, HeldBack}
use Rattle.pol_events.specs.declared.answer.Rule.TheVariants.{NotFrozen, AlreadyFrozen, RecipesFull, Watched}
use Rattle.pol_events.specs.declared.event.Bind.{Bind}
use Rattle.pol_events.specs.Bound.{bound_tag, bound_role, given, step_on}
use Rattle.pol_history.specs.Looking.{History, past, past_of_batch, recipes}
use Rattle.pol_history.specs.Modules.{Docking, absent, docked, away, docking_by, description_by, control_by, view_by}
use Rattle.pol_history.specs.Modules.{present_tags, ticket_of}
use Rattle.pol_history.specs.Batches.{Started, start_by, chart_named, chart_by, outcome_by, is_frozen_by, is_holding_by}
use Rattle.pol_history.specs.Batches.{log_by, holder_of, is_start, watchers_of}

-- ---- whether a tag is docked

-- the tag is docked or away already
abbrev pub tag_taken : Docking → Option Rule
tag_taken absent = None
tag_taken (docked count) = Some TagTaken
tag_taken (away ticket) = Some TagTaken

-- the tag is neither docked nor away
abbrev pub no_module : List ℕ → Docking → Option Rule
no_module tag absent = Some (NoModule tag)
no_module tag (docked count) = None
no_module tag (away ticket) = None

-- the tag's module isn't away
abbrev pub not_in_exchange : Docking → Option Rule
not_in_exchange absent = None
not_in_exchange (docked count) = Some NotInExchange
not_in_exchange (away ticket) = None

-- 64 tags are docked or away
abbrev pub plant_full : History → Option Rule
plant_full history = when (nat_le MOST_MODULES (length (present_tags history))) PlantFull

-- ---- what a module is and has reported

-- the service wasn't reported since the module was docked
abbrev pub not_reported : List ℕ → List ℕ → Option ServiceView → Option Rule
not_reported tag service None = Some (NotReported tag service)
not_reported tag service (Some view) = None

-- the service is in another state than Idle
abbrev pub not_idle : List ℕ → List ℕ → Option ServiceView → Option Rule
not_idle tag service view =
    option_and_then
    (λ view. when (not (is_idle view.control.state)) (NotIdle tag service view.control.state))
    view

-- the first service of the module that reported last that it isn't at rest
abbrev pub module_not_at_rest : History → PlainDescription → Option Rule
module_not_at_rest past description = not_at_rest (λ service. control_by service past) description.services

-- ---- recipes

-- a recipe of this name is known
abbrev pub recipe_known : List ℕ → History → Option Rule
recipe_known name recipes = when (is_some (chart_named name recipes)) RecipeKnown

-- 64 recipes are known
abbrev pub recipes_full : History → Option Rule
recipes_full recipes = when (nat_le MOST_RECIPES (length recipes)) RecipesFull

-- no recipe of this name is known
abbrev pub no_recipe : Option PlainChart → Option Rule
no_recipe chart = when (is_none chart) NoRecipe

-- ---- batches

-- the batch was started
abbrev pub batch_known : Option Started → Option Rule
batch_known started = when (is_some started) BatchKnown

-- the batch wasn't started
abbrev pub no_batch : Option Started → Option Rule
no_batch started = when (is_none started) NoBatch

-- the batch is closed
abbrev pub batch_closed : History → Option Rule
batch_closed past = when (is_some (outcome_by past)) BatchClosed

-- the batch is frozen, and either the freeze doesn't hold the services or they are held already
abbrev pub already_frozen : Bool → History → Option Rule
already_frozen hold past = when (is_frozen_by past && (not hold || is_holding_by past)) AlreadyFrozen

-- the batch is not frozen
abbrev pub not_frozen : History → Option Rule
not_frozen past = when (not (is_frozen_by past)) NotFrozen

-- 128 batches were started
abbrev pub batches_full : History → Option Rule
batches_full history = when (nat_le MOST_BATCHES (length (filter is_start history))) BatchesFull

-- ---- the binds of a start, against the roles of the recipe

-- the module can't play the role
abbrev pub not_covered : PlainChart → List ℕ → Option PlainDescription → Option Rule
not_covered chart role description =
    option_and_then
    (λ description. option_map (cover_rule role) (cover_fault chart role description))
    description

-- the steps of the chart, in chart order
abbrev pub steps_in : PlainChart → List PlainStep
steps_in chart = map (λ placed. placed.step) (steps chart.root 0)

-- the services of the steps of a role, in chart order
abbrev pub services_of : PlainChart → List ℕ → List (List ℕ)
services_of chart role = map (λ step. step.service) (filter (λ step. same_name step.role role) (steps_in chart))

-- the service wasn't reported, or isn't idle
abbrev pub unready : List ℕ → History → List ℕ → Option Rule
unready tag past service = option_or (not_reported tag service (view_by service past))
    (not_idle tag service (view_by service past))

-- the first of these services that wasn't reported or isn't idle
abbrev pub not_ready : List ℕ → History → List (List ℕ) → Option Rule
not_ready tag past services = first_of (map (unready tag past) services)

-- what is wrong with the module of a role, by the module's past
abbrev pub module_rules : PlainChart → List ℕ → List ℕ → History → List (Option Rule)
module_rules chart role tag past =
    no_module tag (docking_by past)
    ∷ in_exchange tag (ticket_of (docking_by past))
    ∷ not_covered chart role (description_by past)
    ∷ not_ready tag past (services_of chart role)
    ∷ []

-- the first thing that is wrong with the module of a role, if it has one
abbrev pub module_rule : History → PlainChart → List ℕ → Option (List ℕ) → Option Rule
module_rule history chart role tag =
    option_and_then (λ tag. first_of (module_rules chart role tag (past tag history))) tag

-- the first thing that is wrong with a module, over these roles
abbrev pub modules_unfit : History → PlainChart → List Bind → List (List ℕ) → Option Rule
modules_unfit history chart binds roles =
    first_of (map (λ role. module_rule history chart role (bound_tag binds role)) roles)

-- the module is held by a batch
abbrev pub busy_module : List ℕ → Option (List ℕ) → Option Rule
busy_module tag holder = option_map (Busy tag) holder

-- the module of a role is held by a batch
abbrev pub busy_role : History → Option (List ℕ) → Option Rule
busy_role history tag = option_and_then (λ tag. busy_module tag (holder_of history tag)) tag

-- the first module over these roles that is held
abbrev pub busy : History → List Bind → List (List ℕ) → Option Rule
busy history binds roles = first_of (map (λ role. busy_role history (bound_tag binds role)) roles)

-- ---- the batches that hold and watch a module

-- a batch watches the module; the rule names the first one that does
abbrev pub watched : History → List ℕ → Option Rule
watched history tag = first_of (map (λ batch. Some (Watched batch)) (watchers_of history tag))

-- the first active step of a batch, by its past, on the module
abbrev pub active_step_on : History → List ℕ → List ℕ → History → Option Rule
active_step_on recipes tag batch past =
    option_and_then
    (λ started.
    option_and_then
    (λ chart. option_map (λ step. ActiveStep batch step.name)
    (step_on (given started.binds) tag (active chart (log_by past))))
    (chart_by recipes (Some started)))
    (start_by past)

-- the batch that holds the module has an active step on it
abbrev pub active_step : History → List ℕ → Option Rule
active_step history tag =
    option_and_then (λ batch. active_step_on (recipes history) tag batch (past_of_batch batch history))
    (holder_of history tag)

-- what of the chart the new module doesn't cover, for the role that the tag plays in the batch
abbrev pub uncovered_by : History → List ℕ → PlainDescription → List ℕ → History → Option Rule
uncovered_by recipes tag description batch past =
    option_and_then
    (λ started.
    option_and_then
    (λ chart.
    option_and_then
    (λ role. option_map (λ fault. HeldBack batch (missing_by role fault)) (cover_fault chart role description))
    (bound_role (given started.binds) tag))
    (chart_by recipes (Some started)))
    (start_by past)

-- what of the chart the new module doesn't cover, for the role that the tag plays in this batch of the history
abbrev pub uncovered_in : History → List ℕ → PlainDescription → List ℕ → Option Rule
uncovered_in history tag description batch =
    uncovered_by (recipes history) tag description batch (past_of_batch batch history)

-- the new module doesn't cover its role in the batch that holds the tag, or else in one that watches it, the first
abbrev pub held_back : History → List ℕ → PlainDescription → Option Rule
held_back history tag description =
    option_or (option_and_then (uncovered_in history tag description) (holder_of history tag))
    (first_of (map (uncovered_in history tag description) (watchers_of history tag)))
