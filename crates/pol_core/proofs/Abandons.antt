-- A batch that is given up.
use Rattle.std.proofs.Common.{◌≡◌, ℕ, false, List, [], ◌∷◌, Some, length, refl, sym, subst}
use Rattle.std.specs.Option.{option_map}
use Rattle.chart_core.specs.declared.next.Outcome.TheVariants.{Abandoned}
use Rattle.pol_events.specs.Events.{PlainEntry, abandon}
use Rattle.pol_events.specs.declared.answer.Answer.TheVariants.{Closed}
use Rattle.pol_history.specs.Answers.{is_full}
use Rattle.pol_history.specs.Looking.{History}
use Rattle.pol_history.specs.Runs.{entry_of}
use Rattle.pol_history.proofs.Accepted.{paired}
use Rattle.pol_slots.specs.declared.slot.Slot.{Slot}
use Rattle.pol_table.specs.Rows.{Rows, look, freed_from}
use Rattle.pol_runs.specs.Runs.{PlainRun}
use Rattle.pol_core.specs.Batches.{RunsMirror, ChangesRun, IsOpenRun, AnswersBatch}
use Rattle.pol_core.specs.Seats.{SeatsMirror, IsCounted}
use Rattle.pol_core.proofs.Closing.{seats_freed}
use Rattle.pol_core.proofs.Counting.{counted_same, counted_freed}
use Rattle.pol_core.proofs.Lasting.{open_answer, open_outcome}
use Rattle.pol_core.proofs.Stepping.{run_keeps, runs_changed}

-- an open batch is given up: it is closed, and its modules are free
pub abandon_answered : (history : History) (at : ℕ) (batch : List ℕ) (run : PlainRun) (rows freed : Rows Slot)
    (runs after : List (List ℕ × PlainRun)) →
    SeatsMirror rows history → IsCounted rows history → RunsMirror runs history → is_full history ≡ false →
    IsOpenRun batch run runs →
    ChangesRun batch (record run { outcome = Some Abandoned }) runs after →
    ((tag : List ℕ) → look tag freed ≡ option_map (freed_from batch) (look tag rows)) → length freed ≡ length rows →
    AnswersBatch history (abandon at batch) (Closed Abandoned) freed after
abandon_answered history at batch run rows freed runs after seats counted mirror room open'
    changes looks same_length =
    let keeps = run_keeps history batch runs run mirror open'.found in
    let same = open_answer history (abandon at batch) batch [] run runs refl room mirror open' in
    let entry : PlainEntry = paired (abandon at batch) (Closed Abandoned) in
    record {
      answer_is = sym same;
      seats = subst (λ answer. SeatsMirror freed (paired (abandon at batch) answer ∷ history)) (sym same)
          (seats_freed history entry batch rows freed refl refl refl
          (open_outcome history batch run runs mirror open') looks seats);
      counted = counted_same history (entry_of history (abandon at batch)) freed refl
          (counted_freed history (Some Abandoned) batch rows freed looks same_length counted);
      batches = subst (λ answer. RunsMirror after (paired (abandon at batch) answer ∷ history)) (sym same)
          (runs_changed history entry batch (record run { outcome = Some Abandoned }) runs after refl refl changes
          (record {
            batch_is = keeps.batch_is;
            recipe = keeps.recipe;
            binds = keeps.binds;
            recipe_is = keeps.recipe_is;
            binds_are = keeps.binds_are;
            held_are = keeps.held_are;
            started = keeps.started;
            charted = keeps.charted;
            follows = record {
              proceeds = record {
                marks = keeps.follows.proceeds.marks;
                broke = keeps.follows.proceeds.broke;
                stopped = keeps.follows.proceeds.stopped;
                active = keeps.follows.proceeds.active;
              };
              held = keeps.follows.held;
            };
            asks = keeps.asks;
            frozen_is = keeps.frozen_is;
            holding_is = keeps.holding_is;
            outcome_is = refl;
          }) mirror);
    }
