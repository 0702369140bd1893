-- The rules that can refuse each kind of event, in their order, and the answer to an event.
use Rattle.std.specs.Prelude.{ℕ, Bool, ◌||◌, nat_le, List, [], ◌∷◌, length, Option, Some, None, if◌then◌else◌}
use Rattle.std.specs.Prelude.{option_and_then}
use Rattle.mtp_codes.specs.Faults.{when}
use Rattle.mtp_codes.specs.declared.limits.TheConstants.{LONGEST_HISTORY}
use Rattle.chart_core.specs.Roles.{PlainChart, role_names}
use Rattle.chart_core.specs.declared.entry.LogEntry.TheVariants.{StopAsked, Asked}
use Rattle.chart_core.specs.declared.next.Next.TheVariants as next
use Rattle.chart_core.specs.declared.next.Next.{Next}
use Rattle.chart_core.specs.declared.next.Outcome.TheVariants.{Abandoned}
use Rattle.chart_cursor.specs.Logs.{has_broken, was_stopped}
use Rattle.pol_events.specs.Events.{PlainEvent, plug, unplug, report, variable, recipe, start, advance, freeze, thaw}
use Rattle.pol_events.specs.Events.{stop_batch, abandon, desk, exchange_begin, exchange_end, exchange_cancel}
use Rattle.pol_events.specs.declared.answer.Rule.{Rule}
use Rattle.pol_events.specs.declared.answer.Rule.TheVariants.{Held, HistoryFull}
use Rattle.pol_events.specs.declared.answer.Answer.{Answer}
use Rattle.pol_events.specs.declared.answer.Answer.TheVariants.{Done, Ticket, Did, Waiting, Closed, Refused}
use Rattle.pol_events.specs.Refusals.{no_service, forbidden, in_exchange, wrong_ticket, report_rules, variable_rules}
use Rattle.pol_events.specs.Bound.{PlainAllocation, given}
use Rattle.pol_history.specs.Looking.{History, past, past_of_batch, recipes}
use Rattle.pol_history.specs.Modules.{docking_by, ticket_of, description_by, control_by, view_by, next_ticket}
use Rattle.pol_history.specs.Batches.{start_by, chart_named, log_by, holder_of}
use Rattle.pol_history.specs.Following.{next_of}
use Rattle.pol_history.specs.Rules.{tag_taken, no_module, not_in_exchange, plant_full, module_not_at_rest, not_reported}
use Rattle.pol_history.specs.Rules.{recipe_known, recipes_full, no_recipe, batch_known, no_batch, batch_closed}
use Rattle.pol_history.specs.Rules.{already_frozen, not_frozen, batches_full, role_unbound, role_unknown}
use Rattle.pol_history.specs.Rules.{one_module_twice, watched_step, steps_in, modules_unfit, busy, watched, active_step}
use Rattle.pol_history.specs.Rules.{held_back}

-- the rules of a start, by the chart of its recipe
abbrev pub start_rules : History → List ℕ → PlainAllocation → Option PlainChart → List (Option Rule)
start_rules history batch binds None = no_recipe None ∷ []
start_rules history batch binds (Some chart) =
    batch_known (start_by (past_of_batch batch history))
    ∷ role_unbound (given binds) (role_names chart)
    ∷ role_unknown binds (role_names chart)
    ∷ one_module_twice (given binds) [] (role_names chart)
    ∷ watched_step binds.watched (steps_in chart) (role_names chart)
    ∷ modules_unfit history chart (given binds) (role_names chart)
    ∷ busy history binds.held (role_names chart)
    ∷ batches_full history
    ∷ []

-- the rules that can refuse the event, in their order
abbrev pub rules : History → PlainEvent → List (Option Rule)
rules history (plug at tag description) =
    tag_taken (docking_by (past tag history)) ∷ plant_full history ∷ []
rules history (unplug at tag) =
    no_module tag (docking_by (past tag history))
    ∷ in_exchange tag (ticket_of (docking_by (past tag history)))
    ∷ option_and_then (λ batch. Some (Held batch)) (holder_of history tag)
    ∷ watched history tag
    ∷ []
rules history (report at tag service control) =
    no_module tag (docking_by (past tag history))
    ∷ report_rules tag service control.state (ticket_of (docking_by (past tag history)))
    (description_by (past tag history))
    (control_by service (past tag history))
rules history (variable at tag name value) =
    no_module tag (docking_by (past tag history))
    ∷ variable_rules tag name value (ticket_of (docking_by (past tag history))) (description_by (past tag history))
rules history (recipe at name chart) =
    recipe_known name (recipes history) ∷ recipes_full (recipes history) ∷ []
rules history (start at batch name binds) =
    start_rules history batch binds (chart_named name (recipes history))
rules history (advance at batch) =
    no_batch (start_by (past_of_batch batch history)) ∷ batch_closed (past_of_batch batch history) ∷ []
rules history (freeze at batch hold) =
    no_batch (start_by (past_of_batch batch history))
    ∷ batch_closed (past_of_batch batch history)
    ∷ already_frozen hold (past_of_batch batch history)
    ∷ []
rules history (thaw at batch) =
    no_batch (start_by (past_of_batch batch history))
    ∷ batch_closed (past_of_batch batch history)
    ∷ not_frozen (past_of_batch batch history)
    ∷ []
rules history (stop_batch at batch) =
    no_batch (start_by (past_of_batch batch history)) ∷ batch_closed (past_of_batch batch history) ∷ []
rules history (abandon at batch) =
    no_batch (start_by (past_of_batch batch history)) ∷ batch_closed (past_of_batch batch history) ∷ []
rules history (desk at tag service command) =
    no_module tag (docking_by (past tag history))
    ∷ in_exchange tag (ticket_of (docking_by (past tag history)))
    ∷ option_and_then (no_service service) (description_by (past tag history))
    ∷ not_reported tag service (view_by service (past tag history))
    ∷ option_and_then (forbidden command) (view_by service (past tag history))
    ∷ []
rules history (exchange_begin at tag) =
    no_module tag (docking_by (past tag history))
    ∷ in_exchange tag (ticket_of (docking_by (past tag history)))
    ∷ active_step history tag
    ∷ option_and_then (module_not_at_rest (past tag history)) (description_by (past tag history))
    ∷ []
rules history (exchange_end at tag ticket description) =
    no_module tag (docking_by (past tag history))
    ∷ not_in_exchange (docking_by (past tag history))
    ∷ wrong_ticket ticket (ticket_of (docking_by (past tag history)))
    ∷ held_back history tag description
    ∷ []
rules history (exchange_cancel at tag ticket) =
    no_module tag (docking_by (past tag history))
    ∷ not_in_exchange (docking_by (past tag history))
    ∷ wrong_ticket ticket (ticket_of (docking_by (past tag history)))
    ∷ []

-- the next entry of a batch, as the answer to its advance
abbrev pub advanced : Option Next → Answer
advanced None = Done
advanced (Some (next.Did entry)) = Did entry
advanced (Some (next.Waiting obstacle)) = Waiting obstacle
advanced (Some (next.Closed outcome)) = Closed outcome

-- the answer to a stop: StopAsked goes into the log, unless the batch is being stopped already
abbrev pub stopped : History → Answer
stopped past = if has_broken (log_by past) || was_stopped (log_by past) then Done else Did StopAsked

-- the answer where no rule refuses the event
abbrev pub otherwise : History → PlainEvent → Answer
otherwise history (advance at batch) = advanced (next_of history batch)
otherwise history (stop_batch at batch) = stopped (past_of_batch batch history)
otherwise history (abandon at batch) = Closed Abandoned
otherwise history (desk at tag service command) = Did (Asked tag service command)
otherwise history (exchange_begin at tag) = Ticket (next_ticket (past tag history))
otherwise history _ = Done

-- the first rule that holds, else the answer
abbrev pub first_rule : List (Option Rule) → Answer → Answer
first_rule [] answer = answer
first_rule (Some rule ∷ rules) answer = Refused rule
first_rule (None ∷ rules) answer = first_rule rules answer

-- the history has 200,000 entries
abbrev pub is_full : History → Bool
is_full history = nat_le LONGEST_HISTORY (length history)

-- the answer to an event after a history
abbrev pub answer_of : History → PlainEvent → Answer
answer_of history event = first_rule (when (is_full history) HistoryFull ∷ rules history event)
    (otherwise history event)
