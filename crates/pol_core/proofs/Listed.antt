-- The active steps of a run and what its nodes wait for are those of its batch.
use Rattle.std.proofs.Common.{◌≡◌, ℕ, List, [], map, Some, None, ap, subst, sym, ◌∙◌}
use Rattle.std.specs.Prelude.{option_and_then, option_map, unwrap_or, IfOk, Result, Ok, Err}
use Rattle.std.specs.Map.{lookup}
use Rattle.std.specs.Str.{bytes_eq}
use Rattle.chart_core.specs.Active.{active_steps}
use Rattle.chart_core.specs.Charts.{plain_chart}
use Rattle.chart_core.specs.declared.entry.LogEntry.{LogEntry}
use Rattle.chart_cursor.specs.Listing.{told_running}
use Rattle.chart_cursor.specs.declared.listing.WaitingNode.{WaitingNode}
use Rattle.chart_cursor.specs.declared.running.RunningStep.{RunningStep}
use Rattle.pol_events.specs.Bound.{given}
use Rattle.pol_history.specs.Batches.{log_by, start_by, start_of}
use Rattle.pol_history.specs.Following.{sights_by}
use Rattle.pol_history.specs.Looking.{History, past, past_of_batch, recipes}
use Rattle.pol_slots.specs.declared.slot.Slot.{Slot}
use Rattle.pol_table.specs.Rows.{Rows}
use Rattle.pol_runs.specs.Logs.{Follows}
use Rattle.pol_runs.specs.Runs.{PlainRun}
use Rattle.pol_runs.specs.Waits.{waits_by}
use Rattle.pol_core.specs.Batches.{IsRun, RunsMirror}
use Rattle.pol_core.specs.Seats.{SeatsMirror}
use Rattle.pol_core.specs.Seen.{table_sights}
use Rattle.pol_core.specs.Steps.{active_by, active_of, active_of_started, bound_step, waits_of, waits_of_started}
use Rattle.pol_core.proofs.Sights.{sights_same}
use Rattle.pol_core.proofs.Stepping.{run_keeps}

-- a batch without a run has no start
unstarted : (history : History) (batch : List ℕ) (runs : List (List ℕ × PlainRun)) → RunsMirror runs history →
    lookup (bytes_eq batch) runs ≡ None → start_of history batch ≡ None
unstarted history batch runs mirror none =
    ap start_by (subst (λ found. IsRun batch found (past_of_batch batch history) (recipes history)) none (mirror batch))

-- so it has no active step
pub none_active : (history : History) (batch : List ℕ) (runs : List (List ℕ × PlainRun)) → RunsMirror runs history →
    lookup (bytes_eq batch) runs ≡ None → [] ≡ active_of history batch
none_active history batch runs mirror none =
    sym (ap (λ started. unwrap_or (option_and_then
    (active_of_started (recipes history) (past_of_batch batch history)) started) [])
    (unstarted history batch runs mirror none))

-- and nothing to wait for
pub none_waiting : (history : History) (batch : List ℕ) (runs : List (List ℕ × PlainRun)) → RunsMirror runs history →
    lookup (bytes_eq batch) runs ≡ None → [] ≡ waits_of history batch
none_waiting history batch runs mirror none =
    sym (ap (λ started. unwrap_or (option_and_then
    (waits_of_started (recipes history) (past_of_batch batch history) (λ tag. past tag history)) started) [])
    (unstarted history batch runs mirror none))

-- the active steps of a run are those of its batch
pub run_active : (history : History) (batch : List ℕ) (run : PlainRun) (runs : List (List ℕ × PlainRun))
    (running : List RunningStep) → RunsMirror runs history → lookup (bytes_eq batch) runs ≡ Some run →
    ((log : List LogEntry) → Follows run log → running ≡ told_running (active_steps (plain_chart run.chart) log)) →
    map (bound_step run.binds) running ≡ active_of history batch
run_active history batch run runs running mirror found listed =
    let keeps = run_keeps history batch runs run mirror found in
    let past' = past_of_batch batch history in
    ap (map (bound_step run.binds)) (listed (log_by past') keeps.follows)
    ∙ ap (λ binds. active_by binds (plain_chart run.chart) (log_by past')) keeps.binds_are
    ∙ sym (ap (λ started. unwrap_or (option_and_then (active_of_started (recipes history) past') started) [])
    keeps.started
    ∙ ap (λ chart. unwrap_or (option_map (λ chart. active_by (given keeps.binds) chart (log_by past')) chart) [])
    keeps.charted)

-- what the nodes of a run wait for is what those of its batch wait for
pub run_waiting : (history : History) (batch : List ℕ) (rows : Rows Slot) (run : PlainRun)
    (runs : List (List ℕ × PlainRun)) (nodes : List WaitingNode) → SeatsMirror rows history →
    RunsMirror runs history → lookup (bytes_eq batch) runs ≡ Some run →
    ((log : List LogEntry) → Follows run log →
    nodes ≡ waits_by (plain_chart run.chart) log (table_sights rows run.binds)) →
    nodes ≡ waits_of history batch
run_waiting history batch rows run runs nodes seats mirror found listed =
    let keeps = run_keeps history batch runs run mirror found in
    let past' = past_of_batch batch history in
    listed (log_by past') keeps.follows
    ∙ ap (waits_by (plain_chart run.chart) (log_by past')) (sights_same rows history run.binds seats)
    ∙ ap (λ binds. waits_by (plain_chart run.chart) (log_by past') (sights_by binds (λ tag. past tag history)))
    keeps.binds_are
    ∙ sym (ap (λ started. unwrap_or (option_and_then
    (waits_of_started (recipes history) past' (λ tag. past tag history)) started) []) keeps.started
    ∙ ap (λ chart. unwrap_or (option_map (λ chart. waits_by chart (log_by past')
    (sights_by (given keeps.binds) (λ tag. past tag history))) chart) []) keeps.charted)

-- where each of some facts holds of what is found, all of them do
pub each_ok : {X Y A : Type 0} (result : Result X Y) (Fact : A → X → Type 0) → ((one : A) → IfOk result (Fact one)) →
    IfOk result (λ found. (one : A) → Fact one found)
each_ok (Ok found) Fact all = all
each_ok (Err fault) Fact all = tt
