-- A batch that is advanced: its answer, and what the tables keep then.
use Rattle.std.proofs.Common.{◌≡◌, ℕ, Bool, true, false, cond, List, [], ◌∷◌, Option, Some, None, length, refl, ap, sym}
use Rattle.std.proofs.Common.{◌∙◌, subst}
use Rattle.std.specs.Prelude.{is_some, option_and_then}
use Rattle.std.specs.Map.{lookup}
use Rattle.std.specs.Option.{option_or, option_map}
use Rattle.std.specs.Str.{bytes_eq}
use Rattle.mtp_codes.specs.Faults.{when}
use Rattle.mtp_codes.proofs.Names.{same_true}
use Rattle.chart_core.specs.Charts.{plain_chart}
use Rattle.chart_core.specs.declared.entry.LogEntry.{LogEntry}
use Rattle.chart_core.specs.declared.entry.LogEntry.TheVariants.{Hold}
use Rattle.chart_core.specs.declared.next.Next.{Next}
use Rattle.chart_core.specs.declared.next.Next.TheVariants as next
use Rattle.chart_cursor.specs.NextEntry.{next_by}
use Rattle.pol_events.specs.Bound.{given}
use Rattle.pol_events.specs.Events.{PlainEntry, advance}
use Rattle.pol_events.specs.declared.answer.Rule.TheVariants.{BatchClosed}
use Rattle.pol_history.specs.Answers.{advanced, first_rule, answer_of, is_full}
use Rattle.pol_history.specs.Batches.{Started, closing, outcome_by, is_frozen_by, asked_by, frozen_so, freezing_by}
use Rattle.pol_history.specs.Batches.{log_by}
use Rattle.pol_history.specs.Following.{sights_by, next_of_started, next_of}
use Rattle.pol_history.specs.Looking.{History, of_batch, subject, is_accepted, past, past_of_batch, recipes}
use Rattle.pol_history.specs.Rules.{no_batch, batch_closed}
use Rattle.pol_history.specs.Runs.{entry_of}
use Rattle.pol_history.proofs.Accepted.{paired, with_room}
use Rattle.pol_history.proofs.Pasts.{log_grows, batch_recipes_same, batch_past_apart, batch_past_own}
use Rattle.pol_slots.specs.declared.slot.Slot.{Slot}
use Rattle.pol_table.specs.Rows.{Rows, look}
use Rattle.chart_cursor.specs.Freezing.{Freezing}
use Rattle.pol_runs.specs.Freezes.{is_frozen, is_holding, freezing}
use Rattle.pol_runs.specs.Logs.{Asks, Follows, asked_after, closing_in, log_after}
use Rattle.pol_runs.specs.declared.freeze.Freeze.{Freeze}
use Rattle.pol_runs.specs.declared.freeze.Freeze.TheVariants.{Thawed, Waiting, Holding}
use Rattle.pol_runs.specs.Runs.{PlainRun}
use Rattle.pol_core.specs.Batches.{RunKeeps, IsRun, RunsMirror, ComesNext, Settles, SettlesOne, IsOpenRun, AnswersBatch}
use Rattle.pol_core.specs.Batches.{freed_if}
use Rattle.pol_core.specs.Seats.{SeatsMirror, IsCounted}
use Rattle.pol_core.specs.Seen.{table_sights}
use Rattle.pol_core.proofs.Closing.{seats_freed}
use Rattle.pol_core.proofs.Counting.{counted_same, counted_freed}
use Rattle.pol_core.proofs.Sights.{sights_same}

-- the run of a batch keeps its past
pub run_keeps : (history : History) (batch : List ℕ) (runs : List (List ℕ × PlainRun)) (run : PlainRun) →
    RunsMirror runs history →
    lookup (bytes_eq batch) runs ≡ Some run → RunKeeps batch run (past_of_batch batch history) (recipes history)
run_keeps history batch runs run mirror found =
    subst (λ found. IsRun batch found (past_of_batch batch history) (recipes history)) found (mirror batch)

-- how a run is frozen, with the steps that were asked to hold since
frozen_told : (freeze : Freeze) (asked : List (List ℕ)) →
    freezing freeze asked ≡ frozen_so (is_frozen freeze) (is_holding freeze) asked
frozen_told Thawed asked = refl
frozen_told Waiting asked = refl
frozen_told Holding asked = refl

-- it is how the batch is frozen by its past
freezing_is : (batch : List ℕ) (run : PlainRun) (past recipes : History) → RunKeeps batch run past recipes →
    freezing run.freeze (asked_by past) ≡ freezing_by past
freezing_is batch run past recipes keeps =
    frozen_told run.freeze (asked_by past)
    ∙ ap (λ frozen. frozen_so frozen (is_holding run.freeze) (asked_by past)) keeps.frozen_is
    ∙ ap (λ held. frozen_so (is_frozen_by past) held (asked_by past)) keeps.holding_is

-- what comes next is the defined next entry
pub next_of_is : (history : History) (batch : List ℕ) (rows : Rows Slot) (run : PlainRun) (next : Next) →
    SeatsMirror rows history →
    RunKeeps batch run (past_of_batch batch history) (recipes history) →
    ComesNext (table_sights rows run.binds) next run → next_of history batch ≡ Some next
next_of_is history batch rows run next mirror keeps comes =
    let past' = past_of_batch batch history in
    let same : next ≡ next_by (plain_chart run.chart) (freezing_by past') (log_by past')
    (sights_by (given keeps.binds) (λ tag. past tag history))
    = comes (log_by past') (asked_by past') keeps.follows keeps.asks
    ∙ ap (λ seen. next_by (plain_chart run.chart) (freezing run.freeze (asked_by past')) (log_by past') seen)
    (sights_same rows history run.binds mirror)
    ∙ ap (λ (freezing : Freezing). next_by (plain_chart run.chart) freezing (log_by past')
    (sights_by run.binds (λ tag. past tag history)))
    (freezing_is batch run past' (recipes history) keeps)
    ∙ ap (λ binds. next_by (plain_chart run.chart) (freezing_by past') (log_by past')
    (sights_by binds (λ tag. past tag history)))
    keeps.binds_are in
    ap begins keeps.started
    ∙ ap (option_map (λ chart. next_by chart (freezing_by past') (log_by past')
    (sights_by (given keeps.binds) (λ tag. past tag history)))) keeps.charted
    ∙ ap Some (sym same)
  where
    begins : Option Started → Option Next
    begins found = option_and_then (next_of_started (recipes history) (past_of_batch batch history)
        (λ tag. past tag history)) found

-- so it is the answer to an advance
next_is : (history : History) (at : ℕ) (batch : List ℕ) (rows : Rows Slot) (run : PlainRun) (next : Next) →
    is_full history ≡ false → SeatsMirror rows history →
    RunKeeps batch run (past_of_batch batch history) (recipes history) → run.outcome ≡ None →
    ComesNext (table_sights rows run.binds) next run →
    answer_of history (advance at batch) ≡ advanced (Some next)
next_is history at batch rows run next room mirror keeps open' comes =
    let past' = past_of_batch batch history in
    with_room history (advance at batch) room
    ∙ ap (λ found. first_rule (no_batch found ∷ batch_closed past' ∷ []) (advanced (next_of history batch)))
    keeps.started
    ∙ ap (λ outcome. first_rule (when (is_some outcome) BatchClosed ∷ []) (advanced (next_of history batch)))
    (sym keeps.outcome_is ∙ open')
    ∙ ap advanced (next_of_is history batch rows run next mirror keeps comes)

-- the log after the answer
log_is : (past : History) (at : ℕ) (batch : List ℕ) (next : Next) →
    log_by (paired (advance at batch) (advanced (Some next)) ∷ past) ≡ log_after next (log_by past)
log_is past at batch (next.Did entry) = log_grows past (advance at batch) entry
log_is past at batch (next.Waiting obstacle) = refl
log_is past at batch (next.Closed outcome) = refl

-- the steps that were asked to hold, after the answer
asked_is : (past : History) (at : ℕ) (batch : List ℕ) (next : Next) →
    asked_by (paired (advance at batch) (advanced (Some next)) ∷ past) ≡ asked_after next (asked_by past)
asked_is past at batch (next.Did entry) = go entry
  where
    go : (entry : LogEntry) →
        asked_by (paired (advance at batch) (advanced (Some (next.Did entry))) ∷ past)
        ≡ asked_after (next.Did entry) (asked_by past)
    go (Hold step tag service) = refl
    go _ = refl
asked_is past at batch (next.Waiting obstacle) = refl
asked_is past at batch (next.Closed outcome) = refl

-- the outcome with which the answer closes the batch
closing_is : (next : Next) → closing (advanced (Some next)) ≡ closing_in next
closing_is (next.Did entry) = refl
closing_is (next.Waiting obstacle) = refl
closing_is (next.Closed outcome) = refl

-- no advance of an open batch is refused
accepted_is : (next : Next) → is_accepted (advanced (Some next)) ≡ true
accepted_is (next.Did entry) = refl
accepted_is (next.Waiting obstacle) = refl
accepted_is (next.Closed outcome) = refl

-- the run that has settled keeps the past with the answer
settled_keeps : (past recipes : History) (at : ℕ) (batch : List ℕ) (run after : PlainRun) (next : Next) →
    Settles next run after → RunKeeps batch run past recipes →
    RunKeeps batch after (paired (advance at batch) (advanced (Some next)) ∷ past) recipes
settled_keeps past recipes at batch run after next settles keeps =
    record {
      batch_is = settles.same_batch.batch ∙ keeps.batch_is;
      recipe = keeps.recipe;
      binds = keeps.binds;
      recipe_is = settles.same_batch.recipe ∙ keeps.recipe_is;
      binds_are = settles.same_batch.binds ∙ keeps.binds_are;
      held_are = settles.same_batch.held ∙ keeps.held_are;
      started = keeps.started;
      charted = keeps.charted ∙ ap (λ chart. Some (plain_chart chart)) (sym settles.same_batch.chart);
      follows = subst (Follows after) (sym (log_is past at batch next)) (settles.log (log_by past) keeps.follows);
      asks = subst (Asks after) (sym (asked_is past at batch next)) (settles.asked (asked_by past) keeps.asks);
      frozen_is = ap is_frozen settles.freeze_is ∙ keeps.frozen_is;
      holding_is = ap is_holding settles.freeze_is ∙ keeps.holding_is;
      outcome_is = settles.outcome_is ∙ ap (option_or (closing_in next)) keeps.outcome_is
          ∙ ap (λ closes. option_or closes (outcome_by past)) (sym (closing_is next));
    }

-- one run changes
pub runs_changed : (history : History) (entry : PlainEntry) (batch : List ℕ) (after : PlainRun)
    (old new : List (List ℕ × PlainRun)) → subject entry.event ≡ of_batch batch →
    is_accepted entry.answer ≡ true → ((other : List ℕ) → lookup (bytes_eq other) new
    ≡ cond (bytes_eq batch other) (Some after) (lookup (bytes_eq other) old)) →
    RunKeeps batch after (entry ∷ past_of_batch batch history) (recipes history) → RunsMirror old history →
    RunsMirror new (entry ∷ history)
runs_changed history entry batch after old new is accepted looks keeps mirror other =
    subst (IsRun other (lookup (bytes_eq other) new) (past_of_batch other (entry ∷ history)))
    (sym (batch_recipes_same history entry batch is))
    (subst (λ found. IsRun other found (past_of_batch other (entry ∷ history)) (recipes history))
    (sym (looks other)) (go (bytes_eq batch other) refl))
  where
    go : (same : Bool) → bytes_eq batch other ≡ same →
        IsRun other (cond same (Some after) (lookup (bytes_eq other) old)) (past_of_batch other (entry ∷ history))
        (recipes history)
    go true same =
        subst (λ other. RunKeeps other after (past_of_batch other (entry ∷ history)) (recipes history))
        (same_true batch other same)
        (subst (λ past. RunKeeps batch after past (recipes history))
        (sym (batch_past_own history entry batch is accepted)) keeps)
    go false apart =
        subst (λ past. IsRun other (lookup (bytes_eq other) old) past (recipes history))
        (sym (batch_past_apart history entry batch other is apart)) (mirror other)

-- a batch that is advanced
pub advance_answered : (history : History) (at : ℕ) (batch : List ℕ) (run : PlainRun) (next : Next)
    (rows freed : Rows Slot) (runs after : List (List ℕ × PlainRun)) →
    SeatsMirror rows history → IsCounted rows history → RunsMirror runs history → is_full history ≡ false →
    IsOpenRun batch run runs →
    ComesNext (table_sights rows run.binds) next run → SettlesOne batch next run runs after →
    ((tag : List ℕ) → look tag freed ≡ freed_if (closing_in next) batch (look tag rows)) →
    length freed ≡ length rows →
    AnswersBatch history (advance at batch) (advanced (Some next)) freed after
advance_answered history at batch run next rows freed runs after seats counted mirror room
    open' comes settles looks same_length =
    let keeps = run_keeps history batch runs run mirror open'.found in
    let same = next_is history at batch rows run next room seats keeps open'.is_open comes in
    let entry : PlainEntry = paired (advance at batch) (advanced (Some next)) in
    record {
      answer_is = sym same;
      seats = subst (λ answer. SeatsMirror freed (paired (advance at batch) answer ∷ history)) (sym same)
          (seats_freed history entry batch rows freed refl refl (accepted_is next) (sym keeps.outcome_is
          ∙ open'.is_open)
          (λ tag. looks tag ∙ ap (λ closes. freed_if closes batch (look tag rows)) (sym (closing_is next))) seats);
      counted = counted_same history (entry_of history (advance at batch)) freed refl
          (counted_freed history (closing_in next) batch rows freed looks same_length counted);
      batches = subst (λ answer. RunsMirror after (paired (advance at batch) answer ∷ history)) (sym same)
          (runs_changed history entry batch settles.after runs after refl (accepted_is next) settles.runs
          (settled_keeps (past_of_batch batch history) (recipes history) at batch run settles.after
          next settles.settles keeps) mirror);
    }
