-- When an actor of a site has nothing to do.
use Rattle.std.specs.Prelude.{ℕ, Bool, true, false, not, ◌&&◌, ◌||◌, ◌⊎◌, nat_lt, nat_le, List, length, Option, Some}
use Rattle.std.specs.Prelude.{None, is_some, is_none, slice_get, IsTrue, if◌then◌else◌}
use Rattle.std.specs.List.{list_all, list_any, AllByRecursion}
use Rattle.mtp_machine.specs.States.{is_execute}
use Rattle.mtp_desc.specs.Plain.{PlainService, PlainDescription}
use Rattle.mtp_sim.specs.declared.plan.Drift.{Drift}
use Rattle.mtp_sim.specs.Ticks.{changes_in, next_value}
use Rattle.mtp_modes.specs.declared.view.ServiceView.{ServiceView}
use Rattle.pol_events.specs.Events.{PlainEntry, start, exchange_begin}
use Rattle.pol_events.specs.declared.answer.Answer.{Answer}
use Rattle.pol_events.specs.declared.answer.Answer.TheVariants.{Refused}
use Rattle.chart_core.specs.declared.next.Next.{Next}
use Rattle.chart_core.specs.declared.next.Next.TheVariants.{Waiting}
use Rattle.pol_events.specs.declared.answer.Rule.{Rule}
use Rattle.pol_events.specs.declared.answer.Rule.TheVariants.{ActiveStep, NotAtRest}
use Rattle.pol_history.specs.Looking.{History, past, is_accepted}
use Rattle.pol_history.specs.Modules.{Docking, absent, docked, away, docking_by, docking_of, description_by, view_by}
use Rattle.pol_history.specs.Modules.{value_by}
use Rattle.pol_history.specs.Batches.{start_of, outcome_of}
use Rattle.pol_history.specs.Following.{next_of}
use Rattle.pol_history.specs.Answers.{answer_of, is_full}
use Rattle.pol_site.specs.Sites.{PlainSite, PlainSiteBatch, PlainSiteExchange, PlainSiteDesk}
use Rattle.pol_site.specs.Actors.{Actor, the_exchanger, a_module, a_batch, the_desk, actors}
use Rattle.pol_site.specs.Stories.{story, are_answered}
use Rattle.pol_site.specs.Plans.{plan_by, drifts_in, whole_in, begun_in}
use Rattle.pol_site.specs.Following.{openings, opened, ordered, last_entry_of, is_put_off}

-- ---- the exchanger

-- the module is away
abbrev pub is_away : Docking → Bool
is_away absent = false
is_away (docked count) = false
is_away (away ticket) = true

-- an exchange waits while this rule holds
abbrev pub is_busy_rule : Rule → Bool
is_busy_rule (ActiveStep batch step) = true
is_busy_rule (NotAtRest service state) = true
is_busy_rule _ = false

-- the answer to the begin of an exchange for which it waits
abbrev pub is_busy : Answer → Bool
is_busy (Refused rule) = is_busy_rule rule
is_busy _ = false

-- the next exchange waits: for entries, or for its module; or there is none
abbrev pub waits_to_begin : History → Option PlainSiteExchange → Bool
waits_to_begin history None = true
waits_to_begin history (Some exchange) =
    nat_lt (length history) exchange.after || is_busy (answer_of history (exchange_begin 0 exchange.tag))

-- all recipes are known and all modules plugged, no module is away, and the next exchange waits
abbrev pub is_settled_exchanger : PlainSite → History → Bool
is_settled_exchanger site history =
    nat_le (length (openings site)) (opened history)
    && (not (list_any (λ unit. is_away (docking_of history unit.tag)) site.modules)
    && waits_to_begin history (slice_get site.exchanges (begun_in history)))

-- ---- a module

-- the service was reported, and doesn't change by itself
abbrev pub is_still : Option ServiceView → Bool
is_still None = false
is_still (Some view) = not (changes_in view.self_completes view.control.state)

-- the service executes
abbrev pub is_running : Option ServiceView → Bool
is_running None = false
is_running (Some view) = is_execute view.control.state

-- some service of the module executes, by its past
abbrev pub is_some_running : History → List PlainService → Bool
is_some_running past services = list_any (λ service. is_running (view_by service.name past)) services

-- the drift was reported
abbrev pub is_read : History → Drift → Bool
is_read past drift = is_some (whole_in (value_by drift.name past))

-- the drift has reached its greatest value
abbrev pub is_spent : History → Drift → Bool
is_spent past drift = is_none (next_value drift (whole_in (value_by drift.name past)))

-- each service and each drift of the module was reported, no service changes by itself, and where one executes each
-- drift is spent; by the module's past
abbrev pub is_quiet_module : PlainDescription → List Drift → History → Bool
is_quiet_module description drifts past =
    list_all (λ service. is_still (view_by service.name past)) description.services
    && (list_all (is_read past) drifts
    && (not (is_some_running past description.services) || list_all (is_spent past) drifts))

-- a module with this description is quiet, by its past; so is one without a description
abbrev pub is_quiet_by : Option PlainDescription → List Drift → History → Bool
is_quiet_by None drifts past = true
is_quiet_by (Some description) drifts past = is_quiet_module description drifts past

-- a module that is docked is quiet, and every command to it is followed by a report; by its past and story
abbrev pub is_settled_in : PlainSite → List ℕ → History → History → Docking → Bool
is_settled_in site tag past story absent = true
is_settled_in site tag past story (away ticket) = true
is_settled_in site tag past story (docked count) =
    is_quiet_by (description_by past) (drifts_in (plan_by site tag past)) past && are_answered tag story

-- a module
abbrev pub is_settled_module : PlainSite → History → List ℕ → Bool
is_settled_module site history tag =
    is_settled_in site tag (past tag history) (story tag history) (docking_by (past tag history))

-- ---- a batch

-- the next entry of the batch is an obstacle
abbrev pub is_waiting : Option Next → Bool
is_waiting (Some (Waiting obstacle)) = true
is_waiting _ = false

-- the start of the batch was refused for good, or is put off
abbrev pub is_start_settled : History → PlainSiteBatch → Option PlainEntry → Bool
is_start_settled history batch (Some entry) = not (is_accepted entry.answer)
is_start_settled history batch None = is_put_off (answer_of history (start 0 batch.batch batch.recipe batch.binds))

-- a batch is settled: it is closed; or it waits; or it isn't started, and its start was refused or is put off
abbrev pub is_settled_batch : History → PlainSiteBatch → Bool
is_settled_batch history batch =
    if is_some (start_of history batch.batch)
    then is_some (outcome_of history batch.batch) || is_waiting (next_of history batch.batch)
    else is_start_settled history batch (last_entry_of batch.batch history)

-- ---- the desk

-- the next command of the desk waits for entries, or there is none
abbrev pub waits_to_order : History → Option PlainSiteDesk → Bool
waits_to_order history None = true
waits_to_order history (Some order) = nat_lt (length history) order.after

-- ---- all

-- the actor has nothing to do
abbrev pub is_settled : PlainSite → History → Actor → Bool
is_settled site history the_exchanger = is_settled_exchanger site history
is_settled site history (a_module unit) = is_settled_module site history unit.tag
is_settled site history (a_batch batch) = is_settled_batch history batch
is_settled site history the_desk = waits_to_order history (slice_get site.desk (ordered history))

-- the actor has nothing to do after the history
abbrev pub IsSettledActor : PlainSite → History → Actor → Type 0
IsSettledActor site history actor = IsTrue (is_settled site history actor)

-- No actor of the site has anything to do, or the history is full.
abbrev pub IsSettled : PlainSite → History → Type 0
IsSettled site history = AllByRecursion (IsSettledActor site history) (actors site) ⊎ IsTrue (is_full history)
