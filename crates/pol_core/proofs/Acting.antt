-- The first active step on a module of the batch that holds it.
use Rattle.std.proofs.Common.{◌≡◌, ℕ, List, Option, Some, None, refl, ap, sym, ◌∙◌, subst}
use Rattle.std.specs.Prelude.{option_map, option_and_then}
use Rattle.std.specs.Map.{lookup}
use Rattle.std.specs.Str.{bytes_eq}
use Rattle.chart_core.specs.Charts.{plain_chart}
use Rattle.chart_core.specs.Trees.{PlainStep}
use Rattle.chart_core.specs.declared.entry.LogEntry.{LogEntry}
use Rattle.chart_cursor.specs.Logs.{active}
use Rattle.pol_events.specs.Bound.{given, step_on}
use Rattle.pol_events.specs.declared.answer.Rule.{Rule}
use Rattle.pol_events.specs.declared.answer.Rule.TheVariants.{ActiveStep}
use Rattle.pol_history.specs.Batches.{Started, chart_by, log_by}
use Rattle.pol_history.specs.Looking.{History, past_of_batch, recipes}
use Rattle.pol_history.specs.Rules.{active_step_on, active_step}
use Rattle.pol_slots.specs.declared.slot.Slot.{Slot}
use Rattle.pol_table.specs.Rows as tables
use Rattle.pol_table.specs.Rows.{Rows}
use Rattle.pol_runs.specs.Logs.{Follows}
use Rattle.pol_runs.specs.Runs.{PlainRun}
use Rattle.pol_core.specs.Batches.{RunKeeps, IsRun, RunsMirror}
use Rattle.pol_core.specs.Seats.{SeatsMirror}
use Rattle.pol_core.proofs.Unfit.{holder_same}

-- the holder's past decides
held_acts : (history : History) (tag batch : List ℕ) (rows : Rows Slot) → SeatsMirror rows history →
    tables.holder_of tag rows ≡ Some batch →
    active_step history tag ≡ active_step_on (recipes history) tag batch (past_of_batch batch history)
held_acts history tag batch rows mirror is =
    ap (option_and_then (λ batch. active_step_on (recipes history) tag batch (past_of_batch batch history)))
    (sym (holder_same rows history tag mirror) ∙ is)

-- the rule names the step
mapped : (batch : List ℕ) (found : Option PlainStep) →
    option_map (λ step. ActiveStep batch step.name) found ≡ option_map (ActiveStep batch)
    (option_map (λ step. step.name) found)
mapped batch None = refl
mapped batch (Some step) = refl

-- the first active step of the holder's run on the module
pub run_acts : (history : History) (tag batch : List ℕ) (rows : Rows Slot) (runs : List (List ℕ × PlainRun))
    (run : PlainRun) (step : Option (List ℕ)) →
    SeatsMirror rows history → RunsMirror runs history → tables.holder_of tag rows ≡ Some batch →
    lookup (bytes_eq batch) runs ≡ Some run →
    ((log : List LogEntry) → Follows run log → step ≡ option_map (λ step. step.name)
    (step_on run.binds tag (active (plain_chart run.chart) log))) →
    option_map (ActiveStep batch) step ≡ active_step history tag
run_acts history tag batch rows runs run step mirror batches is found says =
    let keeps : RunKeeps batch run (past_of_batch batch history) (recipes history)
    = subst (λ found. IsRun batch found (past_of_batch batch history) (recipes history)) found (batches batch) in
    ap (option_map (ActiveStep batch)) (says (log_by (past_of_batch batch history)) keeps.follows)
    ∙ sym (mapped batch (step_on run.binds tag (active (plain_chart run.chart) (log_by (past_of_batch batch history)))))
    ∙ ap (λ binds. option_map (λ step. ActiveStep batch step.name)
    (step_on binds tag (active (plain_chart run.chart) (log_by (past_of_batch batch history))))) keeps.binds_are
    ∙ sym (held_acts history tag batch rows mirror is
    ∙ ap (λ found. option_and_then (by_chart found) found) keeps.started
    ∙ ap (option_and_then (λ chart. option_map (λ step. ActiveStep batch step.name)
    (step_on (given keeps.binds) tag (active chart (log_by (past_of_batch batch history)))))) keeps.charted)
  where
    by_chart : Option Started → Started → Option Rule
    by_chart found started =
        option_and_then
        (λ chart. option_map (λ step. ActiveStep batch step.name)
        (step_on (given started.binds) tag (active chart (log_by (past_of_batch batch history)))))
        (chart_by (recipes history) (Some started))
