-- Where the history has room, every answer is recorded: no rule of an event's kind says that the history is full.
use Rattle.std.proofs.Common.{◌≡◌, ℕ, Bool, true, false, not, List, [], ◌∷◌, map, Option, Some, None, is_none, refl, ap}
use Rattle.std.proofs.Common.{◌∙◌}
use Rattle.std.specs.Prelude.{◌||◌, ◌&&◌, is_some, find, option_map, option_and_then, if◌then◌else◌}
use Rattle.std.specs.Option.{option_or}
use Rattle.mtp_codes.specs.Faults.{when, first_of}
use Rattle.mtp_codes.specs.Names.{is_among}
use Rattle.mtp_codes.specs.declared.cover.CoverFault.{CoverFault}
use Rattle.mtp_codes.specs.declared.cover.CoverFault.TheVariants as cover
use Rattle.mtp_codes.specs.declared.mode.Forbid.{Forbid}
use Rattle.mtp_codes.specs.declared.mode.Forbid.TheVariants as forbid
use Rattle.mtp_codes.specs.declared.mode.Speaker.TheVariants.{Operator}
use Rattle.mtp_codes.specs.declared.state.State.{State}
use Rattle.mtp_machine.specs.States.{is_idle, is_at_rest}
use Rattle.mtp_assembly.specs.Fits.{view_fault}
use Rattle.mtp_assembly.specs.declared.check.ValueFault.{ValueFault}
use Rattle.mtp_assembly.specs.declared.check.ValueFault.TheVariants as value
use Rattle.mtp_assembly.specs.declared.control.ServiceControl.{ServiceControl}
use Rattle.mtp_modes.specs.Permission.{forbidden_by}
use Rattle.mtp_modes.specs.declared.view.ServiceView.{ServiceView}
use Rattle.mtp_desc.specs.Plain.{PlainDescription}
use Rattle.mtp_desc.specs.Lookup.{variable_named}
use Rattle.mtp_procs.specs.Covers.{cover_fault, missing_by}
use Rattle.chart_core.specs.Roles.{PlainChart, role_names}
use Rattle.chart_core.specs.Trees.{PlainStep}
use Rattle.chart_core.specs.declared.entry.LogEntry.TheVariants.{StopAsked}
use Rattle.chart_core.specs.declared.next.Next.{Next}
use Rattle.chart_core.specs.declared.next.Next.TheVariants as next
use Rattle.chart_cursor.specs.Logs.{active, has_broken, was_stopped}
use Rattle.pol_events.specs.Events.{PlainEvent, plug, unplug, report, variable, recipe, start, advance, freeze, thaw}
use Rattle.pol_events.specs.Events.{stop_batch, abandon, desk, exchange_begin, exchange_end, exchange_cancel}
use Rattle.pol_events.specs.Refusals.{no_service, not_an_edge, may_follow, no_variable, value_misfit, value_rule}
use Rattle.pol_events.specs.Refusals.{forbid_rule, forbidden, in_exchange, wrong_ticket, cover_rule}
use Rattle.pol_events.specs.Refusals.{service_not_at_rest}
use Rattle.pol_events.specs.Bound.{PlainAllocation, bound_tag, bound_role, given, step_on}
use Rattle.pol_events.specs.BindRules.{first_name}
use Rattle.pol_events.specs.declared.answer.Answer.{Answer}
use Rattle.pol_events.specs.declared.answer.Answer.TheVariants.{Done, Did, Refused}
use Rattle.pol_events.specs.declared.answer.Rule.{Rule}
use Rattle.pol_events.specs.declared.answer.Rule.TheVariants.{PlantFull, InExchange, WrongTicket, NoService, NotAnEdge}
use Rattle.pol_events.specs.declared.answer.Rule.TheVariants.{NoVariable, RecipeKnown, BatchKnown, NoBatch, BatchClosed}
use Rattle.pol_events.specs.declared.answer.Rule.TheVariants.{RoleUnbound, RoleUnknown, OneModuleTwice, NotIdle}
use Rattle.pol_events.specs.declared.answer.Rule.TheVariants.{BatchesFull, NotAtRest, ActiveStep, HeldBack, NotFrozen}
use Rattle.pol_events.specs.declared.answer.Rule.TheVariants.{AlreadyFrozen, RecipesFull, Watched, WatchedStep}
use Rattle.pol_events.specs.declared.event.Bind.{Bind}
use Rattle.pol_history.specs.Looking.{History, past, past_of_batch, recipes}
use Rattle.pol_history.specs.Modules.{Docking, absent, docked, away, docking_by, ticket_of, description_by, control_by}
use Rattle.pol_history.specs.Modules.{view_by}
use Rattle.pol_history.specs.Batches.{start_by, chart_named, chart_by, log_by, holder_of, watchers_of}
use Rattle.pol_history.specs.Rules.{tag_taken, no_module, not_in_exchange, not_reported, not_idle, module_not_at_rest}
use Rattle.pol_history.specs.Rules.{not_covered, services_of, unready, not_ready, module_rule, is_bound_before, twice}
use Rattle.pol_history.specs.Rules.{one_module_twice, busy_module, busy_role, active_step, uncovered_in, held_back}
use Rattle.pol_history.specs.Rules.{watched, unknown_role, has_step, steps_in}
use Rattle.pol_history.specs.Answers.{start_rules, rules, advanced, otherwise, first_rule, is_full, answer_of}
use Rattle.pol_history.specs.Runs.{is_recorded}
use Rattle.pol_history.proofs.Accepted.{with_room}

-- ---- a rule that is recorded

-- where the rule holds, its refusal is recorded
abbrev Records : Option Rule → Type 0
Records None = Unit {0}
Records (Some rule) = is_recorded (Refused rule) ≡ true

-- that of each rule of the list is
abbrev AllRecord : List (Option Rule) → Type 0
AllRecord [] = Unit {0}
AllRecord (rule ∷ rules) = Records rule × AllRecord rules

-- the first of such rules, or else an answer that is recorded, is recorded
first_records : (rules : List (Option Rule)) (answer : Answer) → AllRecord rules → is_recorded answer ≡ true
    → is_recorded (first_rule rules answer) ≡ true
first_records [] answer keep recorded = recorded
first_records (Some rule ∷ rules) answer keep recorded = keep.0
first_records (None ∷ rules) answer keep recorded = first_records rules answer keep.1 recorded

-- a rule under a test
when_records : (test : Bool) (rule : Rule) → is_recorded (Refused rule) ≡ true → Records (when test rule)
when_records true rule recorded = recorded
when_records false rule recorded = tt

-- the first of two rules
or_records : (one other : Option Rule) → Records one → Records other → Records (option_or one other)
or_records None other first second = second
or_records (Some rule) other first second = first

-- a rule of what was found
mapped_records : {X : Type 0} (says : X → Rule) → ((x : X) → is_recorded (Refused (says x)) ≡ true) →
    (found : Option X) →
    Records (option_map says found)
mapped_records says recorded None = tt
mapped_records says recorded (Some x) = recorded x

-- likewise, where that may say nothing
then_records : {X : Type 0} (says : X → Option Rule) → ((x : X) → Records (says x)) → (found : Option X) →
    Records (option_and_then says found)
then_records says keep None = tt
then_records says keep (Some x) = keep x

-- the first rule that holds over a list
each_records : {X : Type 0} (says : X → Option Rule) → ((x : X) → Records (says x)) → (xs : List X) →
    Records (first_of (map says xs))
each_records says keep [] = tt
each_records says keep (x ∷ xs) = or_records (says x) (first_of (map says xs)) (keep x) (each_records says keep xs)

-- ---- rules of a module

-- a tag that is taken
taken_records : (docking : Docking) → Records (tag_taken docking)
taken_records absent = tt
taken_records (docked count) = refl
taken_records (away ticket) = refl

-- a module that isn't there
module_records : (tag : List ℕ) (docking : Docking) → Records (no_module tag docking)
module_records tag absent = refl
module_records tag (docked count) = tt
module_records tag (away ticket) = tt

-- a module that isn't away
docked_records : (docking : Docking) → Records (not_in_exchange docking)
docked_records absent = tt
docked_records (docked count) = refl
docked_records (away ticket) = tt

-- one that is
exchange_records : (tag : List ℕ) (ticket : Option ℕ) → Records (in_exchange tag ticket)
exchange_records tag ticket = mapped_records (InExchange tag) (λ ticket. refl) ticket

-- a wrong ticket
ticket_records : (given : ℕ) (ticket : Option ℕ) → Records (wrong_ticket given ticket)
ticket_records given None = tt
ticket_records given (Some kept) = when_records _ (WrongTicket kept given) refl

-- a report that follows no edge
edge_records : (state : State) (last : Option ServiceControl) → Records (not_an_edge state last)
edge_records state None = tt
edge_records state (Some last) = when_records (not (may_follow last.state state)) (NotAnEdge last.state state) refl

-- a value that is refused
value_recorded : (fault : ValueFault) → is_recorded (Refused (value_rule fault)) ≡ true
value_recorded value.WrongKind = refl
value_recorded value.OutOfRange = refl

-- a command that is forbidden
forbid_recorded : (fault : Forbid) → is_recorded (Refused (forbid_rule fault)) ≡ true
forbid_recorded forbid.ModeForbids = refl
forbid_recorded forbid.SelfCompletes = refl
forbid_recorded forbid.StateForbids = refl
forbid_recorded forbid.NotEnabled = refl

-- a service that hasn't reported
reported_records : (tag service : List ℕ) (view : Option ServiceView) → Records (not_reported tag service view)
reported_records tag service None = refl
reported_records tag service (Some view) = tt

-- one that isn't idle
idle_records : (tag service : List ℕ) (view : Option ServiceView) → Records (not_idle tag service view)
idle_records tag service None = tt
idle_records tag service (Some view) =
    when_records (not (is_idle view.control.state)) (NotIdle tag service view.control.state) refl

-- one that isn't at rest
rest_records : (service : List ℕ) (last : Option ServiceControl) → Records (service_not_at_rest service last)
rest_records service None = tt
rest_records service (Some control) = when_records (not (is_at_rest control.state))
    (NotAtRest service control.state) refl

-- ---- rules of a start

-- a role that isn't covered
cover_recorded : (role : List ℕ) (fault : CoverFault) → is_recorded (Refused (cover_rule role fault)) ≡ true
cover_recorded role cover.WrongType = refl
cover_recorded role cover.WrongVersion = refl
cover_recorded role (cover.NotCovered missing) = refl

-- and the rule that says so
covered_records : (chart : PlainChart) (role : List ℕ) (description : Option PlainDescription) →
    Records (not_covered chart role description)
covered_records chart role None = tt
covered_records chart role (Some description) =
    mapped_records (cover_rule role) (cover_recorded role) (cover_fault chart role description)

-- a module that isn't ready for a role
ready_records : (tag : List ℕ) (past : History) (service : List ℕ) → Records (unready tag past service)
ready_records tag past service =
    or_records (not_reported tag service (view_by service past)) (not_idle tag service (view_by service past))
    (reported_records tag service (view_by service past)) (idle_records tag service (view_by service past))

-- a module that is bound twice
twice_records : (binds : List Bind) (earlier roles : List (List ℕ)) → Records (one_module_twice binds earlier roles)
twice_records binds earlier [] = tt
twice_records binds earlier (role ∷ roles) =
    or_records (twice binds earlier (bound_tag binds role)) (one_module_twice binds (role ∷ earlier) roles)
    (one (bound_tag binds role)) (twice_records binds (role ∷ earlier) roles)
  where
    one : (tag : Option (List ℕ)) → Records (twice binds earlier tag)
    one None = tt
    one (Some tag) = when_records (is_bound_before binds earlier tag) (OneModuleTwice tag) refl

-- the rule of a role and its module
unfit_records : (history : History) (chart : PlainChart) (role : List ℕ) (tag : Option (List ℕ)) →
    Records (module_rule history chart role tag)
unfit_records history chart role None = tt
unfit_records history chart role (Some tag) =
    or_records (no_module tag (docking_by (past tag history))) _ (module_records tag _)
    (or_records (in_exchange tag (ticket_of (docking_by (past tag history)))) _ (exchange_records tag _)
    (or_records (not_covered chart role (description_by (past tag history))) _ (covered_records chart role _)
    (or_records (not_ready tag (past tag history) (services_of chart role)) None
    (each_records (unready tag (past tag history)) (ready_records tag (past tag history))
    (services_of chart role)) tt)))

-- a module that is busy
busy_records : (history : History) (tag : Option (List ℕ)) → Records (busy_role history tag)
busy_records history None = tt
busy_records history (Some tag) = held (holder_of history tag)
  where
    held : (holder : Option (List ℕ)) → Records (busy_module tag holder)
    held None = tt
    held (Some batch) = refl

-- the rules of a start
start_records : (history : History) (batch : List ℕ) (binds : PlainAllocation) (chart : Option PlainChart)
    → AllRecord (start_rules history batch binds chart)
start_records history batch binds None = (refl, tt)
start_records history batch binds (Some chart) = (
  when_records _ BatchKnown refl,
  (
    mapped_records RoleUnbound (λ role. refl)
        (find (λ role. is_none (bound_tag (given binds) role)) (role_names chart)),
    (
      mapped_records RoleUnknown (λ role. refl)
          (first_name (unknown_role binds.held (role_names chart)) (unknown_role binds.watched (role_names chart))),
      (
        twice_records (given binds) [] (role_names chart),
        (
          mapped_records WatchedStep (λ role. refl)
              (find (λ role. is_some (bound_tag binds.watched role) && has_step (steps_in chart) role)
              (role_names chart)),
          (
            each_records (λ role. module_rule history chart role (bound_tag (given binds) role))
                (λ role. unfit_records history chart role (bound_tag (given binds) role)) (role_names chart),
            (
              each_records (λ role. busy_role history (bound_tag binds.held role))
                  (λ role. busy_records history (bound_tag binds.held role)) (role_names chart),
              (when_records _ BatchesFull refl, tt),
            ),
          ),
        ),
      ),
    ),
  ),
)

-- ---- rules of holders and watchers

-- an active step of the holder
active_records : (history : History) (tag : List ℕ) → Records (active_step history tag)
active_records history tag =
    then_records _ (λ batch. then_records _ (λ started. then_records _
    (λ chart. mapped_records (λ (step : PlainStep). ActiveStep batch step.name) (λ step. refl)
    (step_on (given started.binds) tag (active chart (log_by (past_of_batch batch history)))))
    (chart_by (recipes history) (Some started))) (start_by (past_of_batch batch history))) (holder_of history tag)

-- a new module that a batch can't do with
uncovered_records : (history : History) (tag : List ℕ) (description : PlainDescription) (batch : List ℕ) →
    Records (uncovered_in history tag description batch)
uncovered_records history tag description batch =
    then_records _ (λ started. then_records _
    (λ chart. then_records _
    (λ role. mapped_records (λ fault. HeldBack batch (missing_by role fault)) (λ fault. refl)
    (cover_fault chart role description))
    (bound_role (given started.binds) tag))
    (chart_by (recipes history) (Some started))) (start_by (past_of_batch batch history))

-- one that the holder or a watcher can't do with
back_records : (history : History) (tag : List ℕ) (description : PlainDescription) →
    Records (held_back history tag description)
back_records history tag description =
    or_records (option_and_then (uncovered_in history tag description) (holder_of history tag)) _
    (then_records _ (uncovered_records history tag description) (holder_of history tag))
    (each_records (uncovered_in history tag description) (uncovered_records history tag description)
    (watchers_of history tag))

-- a module that is watched
watched_records : (history : History) (tag : List ℕ) → Records (watched history tag)
watched_records history tag = each_records (λ batch. Some (Watched batch)) (λ batch. refl) (watchers_of history tag)

-- ---- all kinds of event

-- so whichever rule holds of an event, its answer is recorded
rules_record : (history : History) (event : PlainEvent) → AllRecord (rules history event)
rules_record history (plug at tag description) = (taken_records _, (when_records _ PlantFull refl, tt))
rules_record history (unplug at tag) = (
  module_records tag _,
  (
    exchange_records tag _,
    (then_records _ (λ batch. refl) (holder_of history tag), (watched_records history tag, tt)),
  ),
)
rules_record history (report at tag service control) = (
  module_records tag _,
  (
    exchange_records tag _,
    (
      then_records (no_service service) (λ description. when_records _ NoService refl) _,
      (edge_records control.state _, tt),
    ),
  ),
)
rules_record history (variable at tag name value) = (
  module_records tag _,
  (
    exchange_records tag _,
    (
      then_records (no_variable name) (λ description. when_records _ NoVariable refl) _,
      (
        then_records (value_misfit name value) (λ description. then_records _
            (λ variable. mapped_records value_rule value_recorded (view_fault variable.kind value))
            (variable_named name description)) _,
        tt,
      ),
    ),
  ),
)
rules_record history (recipe at name chart) = (when_records _ RecipeKnown refl, (when_records _ RecipesFull refl, tt))
rules_record history (start at batch name binds) = start_records history batch binds
    (chart_named name (recipes history))
rules_record history (advance at batch) = (when_records _ NoBatch refl, (when_records _ BatchClosed refl, tt))
rules_record history (freeze at batch hold) =
    (when_records _ NoBatch refl, (when_records _ BatchClosed refl, (when_records _ AlreadyFrozen refl, tt)))
rules_record history (thaw at batch) =
    (when_records _ NoBatch refl, (when_records _ BatchClosed refl, (when_records _ NotFrozen refl, tt)))
rules_record history (stop_batch at batch) = (when_records _ NoBatch refl, (when_records _ BatchClosed refl, tt))
rules_record history (abandon at batch) = (when_records _ NoBatch refl, (when_records _ BatchClosed refl, tt))
rules_record history (desk at tag service command) = (
  module_records tag _,
  (
    exchange_records tag _,
    (
      then_records (no_service service) (λ description. when_records _ NoService refl) _,
      (
        reported_records tag service (view_by service (past tag history)),
        (
          then_records (forbidden command)
              (λ view. mapped_records forbid_rule forbid_recorded (forbidden_by view Operator command))
              (view_by service (past tag history)),
          tt,
        ),
      ),
    ),
  ),
)
rules_record history (exchange_begin at tag) = (
  module_records tag _,
  (
    exchange_records tag _,
    (
      active_records history tag,
      (
        then_records (module_not_at_rest (past tag history)) (λ description. each_records
            (λ service. service_not_at_rest service.name (control_by service.name (past tag history)))
            (λ service. rest_records service.name (control_by service.name (past tag history))) description.services) _,
        tt,
      ),
    ),
  ),
)
rules_record history (exchange_end at tag ticket description) =
    (module_records tag _, (docked_records _, (ticket_records ticket _, (back_records history tag description, tt))))
rules_record history (exchange_cancel at tag ticket) =
    (module_records tag _, (docked_records _, (ticket_records ticket _, tt)))

-- the answer to an advance is recorded
next_recorded : (next : Option Next) → is_recorded (advanced next) ≡ true
next_recorded None = refl
next_recorded (Some (next.Did entry)) = refl
next_recorded (Some (next.Waiting obstacle)) = refl
next_recorded (Some (next.Closed outcome)) = refl

-- and the answer to a stop
stop_recorded : (stopping : Bool) → is_recorded (if stopping then Done else Did StopAsked) ≡ true
stop_recorded true = refl
stop_recorded false = refl

-- so whatever is answered where no rule holds is recorded
otherwise_recorded : (history : History) (event : PlainEvent) → is_recorded (otherwise history event) ≡ true
otherwise_recorded history (advance at batch) = next_recorded _
otherwise_recorded history (stop_batch at batch) =
    stop_recorded (has_broken (log_by (past_of_batch batch history)) || was_stopped
    (log_by (past_of_batch batch history)))
otherwise_recorded history _ = refl

-- an event that comes where the history has room is recorded with its answer
pub recorded_with_room : (history : History) (event : PlainEvent) → is_full history ≡ false →
    is_recorded (answer_of history event) ≡ true
recorded_with_room history event room =
    ap is_recorded (with_room history event room)
    ∙ first_records (rules history event) (otherwise history event) (rules_record history event)
    (otherwise_recorded history event)
