-- An event of a batch that is refused, or after which its run goes on.
use Rattle.std.proofs.Common.{◌≡◌, ℕ, Bool, true, false, cond, List, [], ◌∷◌, ◌++◌, Option, Some, None, is_some, refl}
use Rattle.std.proofs.Common.{ap, sym, ◌∙◌, subst}
use Rattle.std.specs.Prelude.{◌&&◌, ◌||◌, not, if◌then◌else◌, unwrap_or, Result, Ok, Err, OnOk, OnErr, ⊤}
use Rattle.std.specs.Map.{lookup}
use Rattle.std.specs.Str.{bytes_eq}
use Rattle.mtp_codes.specs.Faults.{when, done_unless}
use Rattle.mtp_codes.proofs.Names.{same_true}
use Rattle.chart_core.specs.Charts.{plain_chart}
use Rattle.chart_core.specs.declared.entry.LogEntry.TheVariants.{StopAsked}
use Rattle.chart_core.specs.declared.next.Outcome.{Outcome}
use Rattle.chart_cursor.specs.Logs.{has_broken, was_stopped}
use Rattle.pol_events.specs.Events.{PlainEvent, PlainEntry, freeze, thaw, stop_batch}
use Rattle.pol_events.specs.declared.answer.Answer.{Answer}
use Rattle.pol_events.specs.declared.answer.Answer.TheVariants.{Done, Did, Refused}
use Rattle.pol_events.specs.declared.answer.Rule.{Rule}
use Rattle.pol_events.specs.declared.answer.Rule.TheVariants.{BatchClosed, AlreadyFrozen, NotFrozen}
use Rattle.pol_history.specs.Answers.{first_rule, rules, otherwise, answer_of, is_full}
use Rattle.pol_history.specs.Batches.{starting, start_by, closing, outcome_by, outcome_of, holds, is_frozen_by}
use Rattle.pol_history.specs.Batches.{is_holding_by, asked_by, log_by}
use Rattle.pol_history.specs.Looking.{History, of_batch, subject, is_accepted, past_of_batch, recipes, last_of}
use Rattle.pol_history.specs.Modules.{present_tags}
use Rattle.pol_history.specs.Refused.{ChangesNothing}
use Rattle.pol_history.specs.Rules.{no_batch, batch_closed, already_frozen, not_frozen}
use Rattle.pol_history.specs.Runs.{entry_of}
use Rattle.pol_history.proofs.Accepted.{paired, with_room}
use Rattle.pol_history.proofs.Pasts.{log_grows}
use Rattle.pol_history.proofs.Refused.{refused_nothing}
use Rattle.pol_slots.specs.declared.slot.Slot.{Slot}
use Rattle.pol_table.specs.Rows.{Rows, look}
use Rattle.pol_runs.specs.Freezes.{is_frozen, is_holding, frozen_as}
use Rattle.pol_runs.specs.Logs.{Asks, Follows}
use Rattle.pol_runs.specs.declared.freeze.Freeze.TheVariants.{Thawed}
use Rattle.pol_runs.specs.Runs.{PlainRun}
use Rattle.pol_core.specs.Batches.{RunKeeps, IsRun, RunsMirror, ChangesRun, Freezes, FreezesOne, Stops, StopsOne}
use Rattle.pol_core.specs.Batches.{IsOpenRun, not_open, freed_if, AnswersBatch}
use Rattle.pol_core.specs.Seats.{SeatsMirror, IsCounted, done_or_refused}
use Rattle.pol_core.proofs.Closing.{seats_freed}
use Rattle.pol_core.proofs.Counting.{counted_same}
use Rattle.pol_core.proofs.Judging.{refuse}
use Rattle.pol_core.proofs.Seating.{seats_refused}
use Rattle.pol_core.proofs.Stepping.{run_keeps, runs_changed}

-- ---- refused events

-- the runs keep a history with a refused event
pub runs_refused : (history : History) (entry : PlainEntry) (runs : List (List ℕ × PlainRun)) →
    ChangesNothing entry history → RunsMirror runs history →
    RunsMirror runs (entry ∷ history)
runs_refused history entry runs nothing mirror batch =
    subst (IsRun batch (lookup (bytes_eq batch) runs) (past_of_batch batch (entry ∷ history))) (sym nothing.recipes)
    (subst (λ past. IsRun batch (lookup (bytes_eq batch) runs) past (recipes history))
    (sym (nothing.batch_pasts batch)) (mirror batch))

-- so do all tables
pub batch_refused : (history : History) (event : PlainEvent) (answer : Answer) (modules : Rows Slot)
    (runs : List (List ℕ × PlainRun)) →
    answer ≡ answer_of history event → is_accepted answer ≡ false → SeatsMirror modules history →
    IsCounted modules history → RunsMirror runs history →
    AnswersBatch history event answer modules runs
batch_refused history event answer modules runs is refused seats counted batches =
    let entry : PlainEntry = entry_of history event in
    let nothing = refused_nothing entry history (ap is_accepted (sym is) ∙ refused) in
    record {
      answer_is = is;
      seats = seats_refused history entry modules nothing seats;
      counted = counted_same history entry modules nothing.present counted;
      batches = runs_refused history entry runs nothing batches;
    }

-- the first two rules of a batch, by its run
batch_rules : (batch : List ℕ) (found : Option PlainRun) (past recipes : History) (rest : List (Option Rule))
    (answer : Answer) → IsRun batch found past recipes →
    first_rule (no_batch (start_by past) ∷ batch_closed past ∷ rest) answer
    ≡ refuse (not_open found) (first_rule rest answer)
batch_rules batch None past recipes rest answer is =
    ap (λ past. first_rule (no_batch (start_by past) ∷ batch_closed past ∷ rest) answer) is
batch_rules batch (Some run) past recipes rest answer keeps =
    ap (λ found. first_rule (no_batch found ∷ batch_closed past ∷ rest) answer) keeps.started
    ∙ ap (λ outcome. first_rule (when (is_some outcome) BatchClosed ∷ rest) answer) (sym keeps.outcome_is)
    ∙ go run.outcome
  where
    go : (outcome : Option Outcome) → first_rule (when (is_some outcome) BatchClosed ∷ rest) answer
        ≡ refuse (when (is_some outcome) BatchClosed) (first_rule rest answer)
    go None = refl
    go (Some closed) = refl

-- the event has the two rules first, and then these
abbrev pub BatchRules : History → PlainEvent → List ℕ → List (Option Rule) → Type 0
BatchRules history event batch rest =
    rules history event ≡ no_batch (start_by (past_of_batch batch history)) ∷ batch_closed
    (past_of_batch batch history) ∷ rest

-- the answer to an event of a batch, by its run
batch_answer : (history : History) (event : PlainEvent) (batch : List ℕ) (rest : List (Option Rule))
    (runs : List (List ℕ × PlainRun)) →
    BatchRules history event batch rest → is_full history ≡ false → RunsMirror runs history →
    answer_of history event ≡ refuse (not_open (lookup (bytes_eq batch) runs))
    (first_rule rest (otherwise history event))
batch_answer history event batch rest runs same room batches =
    with_room history event room
    ∙ ap (λ rules. first_rule rules (otherwise history event)) same
    ∙ batch_rules batch (lookup (bytes_eq batch) runs) (past_of_batch batch history) (recipes history) rest
    (otherwise history event) (batches batch)

-- a batch that isn't open
pub not_open_answered : (history : History) (event : PlainEvent) (batch : List ℕ) (rest : List (Option Rule))
    (rule : Rule) (modules : Rows Slot)
    (runs : List (List ℕ × PlainRun)) → BatchRules history event batch rest → is_full history ≡ false →
    SeatsMirror modules history → IsCounted modules history →
    RunsMirror runs history → not_open (lookup (bytes_eq batch) runs) ≡ Some rule →
    AnswersBatch history event (Refused rule) modules runs
not_open_answered history event batch rest rule modules runs same room seats counted batches is =
    batch_refused history event (Refused rule) modules runs
    (sym (batch_answer history event batch rest runs same room batches
    ∙ ap (λ rule. refuse rule (first_rule rest (otherwise history event))) is))
    refl seats counted batches

-- an open batch meets neither rule
pub open_answer : (history : History) (event : PlainEvent) (batch : List ℕ) (rest : List (Option Rule))
    (run : PlainRun) (runs : List (List ℕ × PlainRun)) →
    BatchRules history event batch rest → is_full history ≡ false → RunsMirror runs history → IsOpenRun batch run runs →
    answer_of history event ≡ first_rule rest (otherwise history event)
open_answer history event batch rest run runs same room batches open' =
    batch_answer history event batch rest runs same room batches
    ∙ ap (λ found. refuse (not_open found) (first_rule rest (otherwise history event))) open'.found
    ∙ ap (λ outcome. refuse (when (is_some outcome) BatchClosed) (first_rule rest (otherwise history event)))
    open'.is_open

-- looking back, the batch isn't closed
pub open_outcome : (history : History) (batch : List ℕ) (run : PlainRun) (runs : List (List ℕ × PlainRun)) →
    RunsMirror runs history → IsOpenRun batch run runs →
    outcome_of history batch ≡ None
open_outcome history batch run runs batches open' =
    let keeps = run_keeps history batch runs run batches open'.found in
    sym keeps.outcome_is ∙ open'.is_open

-- ---- a run that goes on

-- an accepted event that doesn't close its batch changes one run, and no module
pub batch_stays : (history : History) (event : PlainEvent) (batch : List ℕ) (answer : Answer)
    (after : PlainRun) (modules : Rows Slot)
    (runs new : List (List ℕ × PlainRun)) → subject event ≡ of_batch batch → starting event ≡ None →
    present_tags (entry_of history event ∷ history) ≡ present_tags history → answer ≡ answer_of history event →
    is_accepted answer ≡ true →
    closing answer ≡ None → outcome_of history batch ≡ None → ChangesRun batch after runs new →
    RunKeeps batch after (paired event answer ∷ past_of_batch batch history) (recipes history) →
    SeatsMirror modules history → IsCounted modules history → RunsMirror runs history →
    AnswersBatch history event answer modules new
batch_stays history event batch answer after modules runs new is unstarted present same accepted
    unclosed open' changes keeps seats counted batches =
    let entry : PlainEntry = paired event answer in
    record {
      answer_is = same;
      seats = subst (λ answer. SeatsMirror modules (paired event answer ∷ history)) same
          (seats_freed history entry batch modules modules is unstarted accepted open'
          (λ tag. ap (λ closes. freed_if closes batch (look tag modules)) (sym unclosed)) seats);
      counted = counted_same history (entry_of history event) modules present counted;
      batches = subst (λ answer. RunsMirror new (paired event answer ∷ history)) same
          (runs_changed history entry batch after runs new is accepted changes keeps batches);
    }

-- a run in the place of another, of the same past
runs_replaced : (history : History) (batch : List ℕ) (after : PlainRun) (old new : List (List ℕ × PlainRun)) →
    ChangesRun batch after old new →
    RunKeeps batch after (past_of_batch batch history) (recipes history) → RunsMirror old history →
    RunsMirror new history
runs_replaced history batch after old new changes keeps mirror other =
    subst (λ found. IsRun other found (past_of_batch other history) (recipes history)) (sym (changes other))
    (go (bytes_eq batch other) refl)
  where
    go : (same : Bool) → bytes_eq batch other ≡ same →
        IsRun other (cond same (Some after) (lookup (bytes_eq other) old)) (past_of_batch other history)
        (recipes history)
    go true same = subst (λ other. RunKeeps other after (past_of_batch other history) (recipes history))
        (same_true batch other same) keeps
    go false apart = mirror other

-- ---- a freeze begins or ends

-- the run was frozen, and keeps the past that ends in the freeze
frozen_keeps : (batch : List ℕ) (at : ℕ) (hold : Bool) (run after : PlainRun) (past recipes : History) →
    Freezes hold run after → RunKeeps batch run past recipes →
    RunKeeps batch after (paired (freeze at batch hold) Done ∷ past) recipes
frozen_keeps batch at hold run after past recipes freezes keeps =
    record {
      batch_is = freezes.same_batch.batch ∙ keeps.batch_is;
      recipe = keeps.recipe;
      binds = keeps.binds;
      recipe_is = freezes.same_batch.recipe ∙ keeps.recipe_is;
      binds_are = freezes.same_batch.binds ∙ keeps.binds_are;
      held_are = freezes.same_batch.held ∙ keeps.held_are;
      started = keeps.started;
      charted = keeps.charted ∙ ap (λ chart. Some (plain_chart chart)) (sym freezes.same_batch.chart);
      follows = freezes.log (log_by past) keeps.follows;
      asks = freezes.asked;
      frozen_is = ap is_frozen freezes.freeze_is ∙ frozen hold;
      holding_is = ap is_holding freezes.freeze_is ∙ held hold;
      outcome_is = freezes.outcome_is ∙ keeps.outcome_is;
    }
  where
    frozen : (hold : Bool) → is_frozen (frozen_as hold) ≡ true
    frozen true = refl
    frozen false = refl

    held : (hold : Bool) → is_holding (frozen_as hold) ≡ hold
    held true = refl
    held false = refl

-- a batch is frozen
pub freeze_answered : (history : History) (at : ℕ) (batch : List ℕ) (hold : Bool) (run : PlainRun)
    (modules : Rows Slot) (runs new : List (List ℕ × PlainRun)) (result : Result ⊤ Rule) →
    is_full history ≡ false → IsOpenRun batch run runs →
    result ≡ done_unless (when (is_frozen run.freeze && (not hold || is_holding run.freeze)) AlreadyFrozen) →
    OnOk result (FreezesOne batch hold run runs new) → OnErr result (ChangesRun batch run runs new) →
    SeatsMirror modules history → IsCounted modules history → RunsMirror runs history →
    AnswersBatch history (freeze at batch hold) (done_or_refused result) modules new
freeze_answered history at batch hold run modules runs new result room open' answer changes stays seats counted
    batches =
    go result (is_frozen run.freeze && (not hold || is_holding run.freeze)) refl answer changes stays
  where
    past' : History
    past' = past_of_batch batch history

    keeps : RunKeeps batch run (past_of_batch batch history) (recipes history)
    keeps = run_keeps history batch runs run batches open'.found

    same : answer_of history (freeze at batch hold)
        ≡ first_rule (when (is_frozen run.freeze && (not hold || is_holding run.freeze)) AlreadyFrozen ∷ []) Done
    same =
        open_answer history (freeze at batch hold) batch (already_frozen hold (past_of_batch batch history) ∷ [])
        run runs refl room batches open'
        ∙ ap (λ frozen. first_rule (when (frozen && (not hold || is_holding_by (past_of_batch batch history)))
        AlreadyFrozen ∷ []) Done) (sym keeps.frozen_is)
        ∙ ap (λ held. first_rule (when (is_frozen run.freeze && (not hold || held)) AlreadyFrozen ∷ []) Done)
        (sym keeps.holding_is)

    go : (result : Result ⊤ Rule) (refuses : Bool) →
        is_frozen run.freeze && (not hold || is_holding run.freeze) ≡ refuses →
        result ≡ done_unless (when (is_frozen run.freeze && (not hold || is_holding run.freeze)) AlreadyFrozen) →
        OnOk result (FreezesOne batch hold run runs new) → OnErr result (ChangesRun batch run runs new) →
        AnswersBatch history (freeze at batch hold) (done_or_refused result) modules new
    go (Ok done) true is answer changes stays =
        let clash : Ok done ≡ done_unless (when true AlreadyFrozen) = answer
        ∙ ap (λ refuses. done_unless (when refuses AlreadyFrozen)) is in cc
    go (Err rule) false is answer changes stays =
        let clash : Err rule ≡ done_unless (when false AlreadyFrozen) = answer
        ∙ ap (λ refuses. done_unless (when refuses AlreadyFrozen)) is in cc
    go (Err rule) true is answer changes stays =
        let one : Err rule ≡ done_unless (when true AlreadyFrozen) = answer
        ∙ ap (λ refuses. done_unless (when refuses AlreadyFrozen)) is in
        let rule_is : AlreadyFrozen ≡ rule = cc in
        batch_refused history (freeze at batch hold) (Refused rule) modules new
        (ap Refused (sym rule_is)
        ∙ sym (same ∙ ap (λ refuses. first_rule (when refuses AlreadyFrozen ∷ []) Done) is)) refl seats counted
        (runs_replaced history batch run runs new stays keeps batches)
    go (Ok done) false is answer changes stays =
        batch_stays history (freeze at batch hold) batch Done changes.after modules runs new refl refl refl
        (sym (same ∙ ap (λ refuses. first_rule (when refuses AlreadyFrozen ∷ []) Done) is)) refl refl
        (open_outcome history batch run runs batches open') changes.runs
        (frozen_keeps batch at hold run changes.after past' (recipes history) changes.freezes keeps) seats counted
        batches

-- the run that is thawed keeps a past that says so
thawed_keeps : (batch : List ℕ) (run : PlainRun) (past recipes after : History) →
    start_by after ≡ start_by past → log_by after ≡ log_by past → asked_by after ≡ asked_by past →
    outcome_by after ≡ outcome_by past → false ≡ is_frozen_by after → RunKeeps batch run past recipes →
    RunKeeps batch (record run { freeze = Thawed }) after recipes
thawed_keeps batch run past recipes after starts logs asked outcomes frozen keeps =
    let follows : Follows run (log_by after) = subst (Follows run) (sym logs) keeps.follows in
    let asks : Asks run (asked_by after) = subst (Asks run) (sym asked) keeps.asks in
    record {
      batch_is = keeps.batch_is;
      recipe = keeps.recipe;
      binds = keeps.binds;
      recipe_is = keeps.recipe_is;
      binds_are = keeps.binds_are;
      held_are = keeps.held_are;
      started = starts ∙ keeps.started;
      charted = keeps.charted;
      follows = record {
        proceeds = record {
          marks = follows.proceeds.marks;
          broke = follows.proceeds.broke;
          stopped = follows.proceeds.stopped;
          active = follows.proceeds.active;
        };
        held = follows.held;
      };
      asks = asks;
      frozen_is = frozen;
      holding_is =
          ap (λ frozen. frozen && unwrap_or (last_of (λ (entry : PlainEntry). holds entry.event) after) false) frozen;
      outcome_is = keeps.outcome_is ∙ sym outcomes;
    }

-- a frozen batch goes on
pub thaw_answered : (history : History) (at : ℕ) (batch : List ℕ) (run : PlainRun) (modules : Rows Slot)
    (runs new : List (List ℕ × PlainRun)) →
    is_full history ≡ false → IsOpenRun batch run runs → ChangesRun batch (record run { freeze = Thawed }) runs new →
    SeatsMirror modules history → IsCounted modules history → RunsMirror runs history →
    AnswersBatch history (thaw at batch) (done_or_refused (done_unless (when (not (is_frozen run.freeze)) NotFrozen)))
    modules new
thaw_answered history at batch run modules runs new room open' changes seats counted batches =
    go (is_frozen run.freeze) refl
  where
    past' : History
    past' = past_of_batch batch history

    keeps : RunKeeps batch run (past_of_batch batch history) (recipes history)
    keeps = run_keeps history batch runs run batches open'.found

    same : answer_of history (thaw at batch) ≡ first_rule (when (not (is_frozen run.freeze)) NotFrozen ∷ []) Done
    same =
        open_answer history (thaw at batch) batch (not_frozen (past_of_batch batch history) ∷ [])
        run runs refl room batches open'
        ∙ ap (λ frozen. first_rule (when (not frozen) NotFrozen ∷ []) Done) (sym keeps.frozen_is)

    go : (frozen : Bool) → is_frozen run.freeze ≡ frozen →
        AnswersBatch history (thaw at batch)
        (done_or_refused (done_unless (when (not (is_frozen run.freeze)) NotFrozen))) modules new
    go true is =
        subst (λ (frozen : Bool). AnswersBatch history (thaw at batch)
        (done_or_refused (done_unless (when (not frozen) NotFrozen))) modules new) (sym is)
        (batch_stays history (thaw at batch) batch Done (record run { freeze = Thawed }) modules runs new refl refl refl
        (sym (same ∙ ap (λ frozen. first_rule (when (not frozen) NotFrozen ∷ []) Done) is)) refl refl
        (open_outcome history batch run runs batches open') changes
        (thawed_keeps batch run past' (recipes history) (paired (thaw at batch) Done ∷ past') refl refl refl refl refl
        keeps) seats counted batches)
    go false is =
        subst (λ (frozen : Bool). AnswersBatch history (thaw at batch)
        (done_or_refused (done_unless (when (not frozen) NotFrozen))) modules new) (sym is)
        (batch_refused history (thaw at batch) (Refused NotFrozen) modules new
        (sym (same ∙ ap (λ frozen. first_rule (when (not frozen) NotFrozen ∷ []) Done) is)) refl seats counted
        (runs_replaced history batch (record run { freeze = Thawed }) runs new changes
        (thawed_keeps batch run past' (recipes history) past' refl refl refl refl (sym is ∙ keeps.frozen_is) keeps)
        batches))

-- ---- a stop

-- the answer, where the stop is new or not
stop_told : (is_new is_old : Bool) → is_new ≡ not is_old → (if is_new then Did StopAsked else Done)
    ≡ (if is_old then Done else Did StopAsked)
stop_told is_new true is = ap (λ new. if new then Did StopAsked else Done) is
stop_told is_new false is = ap (λ new. if new then Did StopAsked else Done) is

-- the run keeps the past that ends in the stop
stopped_keeps : (batch : List ℕ) (at : ℕ) (is_new : Bool) (run after : PlainRun) (past recipes : History) →
    Stops is_new run after → RunKeeps batch run past recipes →
    RunKeeps batch after (paired (stop_batch at batch) (if is_new then Did StopAsked else Done) ∷ past) recipes
stopped_keeps batch at is_new run after past recipes stops keeps =
    record {
      batch_is = stops.same_batch.batch ∙ keeps.batch_is;
      recipe = keeps.recipe;
      binds = keeps.binds;
      recipe_is = stops.same_batch.recipe ∙ keeps.recipe_is;
      binds_are = stops.same_batch.binds ∙ keeps.binds_are;
      held_are = stops.same_batch.held ∙ keeps.held_are;
      started = keeps.started;
      charted = keeps.charted ∙ ap (λ chart. Some (plain_chart chart)) (sym stops.same_batch.chart);
      follows = follows is_new (stops.log (log_by past) keeps.follows);
      asks = asks is_new;
      frozen_is = ap is_frozen stops.freeze_is;
      holding_is = ap is_holding stops.freeze_is;
      outcome_is = stops.outcome_is ∙ keeps.outcome_is ∙ unclosed is_new;
    }
  where
    follows : (is_new : Bool) → Follows after (if is_new then log_by past ++ StopAsked ∷ [] else log_by past) →
        Follows after (log_by (paired (stop_batch at batch) (if is_new then Did StopAsked else Done) ∷ past))
    follows true follows' = subst (Follows after) (sym (log_grows past (stop_batch at batch) StopAsked)) follows'
    follows false follows' = follows'

    asks : (is_new : Bool) →
        Asks after (asked_by (paired (stop_batch at batch) (if is_new then Did StopAsked else Done) ∷ past))
    asks true = stops.asked (asked_by past) keeps.asks
    asks false = stops.asked (asked_by past) keeps.asks

    unclosed : (is_new : Bool) → outcome_by past ≡ outcome_by
        (paired (stop_batch at batch) (if is_new then Did StopAsked else Done) ∷ past)
    unclosed true = refl
    unclosed false = refl

-- a batch is to be stopped
pub stop_answered : (history : History) (at : ℕ) (batch : List ℕ) (is_new : Bool) (run : PlainRun)
    (modules : Rows Slot) (runs new : List (List ℕ × PlainRun)) →
    is_full history ≡ false → IsOpenRun batch run runs → StopsOne batch is_new run runs new →
    SeatsMirror modules history → IsCounted modules history → RunsMirror runs history →
    AnswersBatch history (stop_batch at batch) (if is_new then Did StopAsked else Done) modules new
stop_answered history at batch is_new run modules runs new room open' stops seats counted batches =
    let keeps = run_keeps history batch runs run batches open'.found in
    let past' = past_of_batch batch history in
    batch_stays history (stop_batch at batch) batch (if is_new then Did StopAsked else Done)
    stops.after modules runs new refl refl refl
    (stop_told is_new (has_broken (log_by past') || was_stopped (log_by past'))
    (stops.stops.was (log_by past') keeps.follows)
    ∙ sym (open_answer history (stop_batch at batch) batch [] run runs refl room batches open'))
    (accepted is_new) (unclosed is_new) (open_outcome history batch run runs batches open') stops.runs
    (stopped_keeps batch at is_new run stops.after past' (recipes history) stops.stops keeps) seats counted batches
  where
    accepted : (is_new : Bool) → is_accepted (if is_new then Did StopAsked else Done) ≡ true
    accepted true = refl
    accepted false = refl

    unclosed : (is_new : Bool) → closing (if is_new then Did StopAsked else Done) ≡ None
    unclosed true = refl
    unclosed false = refl
