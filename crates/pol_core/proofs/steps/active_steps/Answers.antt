-- The active steps of a batch.
use Rattle.std.proofs.Common.{◌≡◌, Global, List, Vec, ap, map, sym, ◌∙◌}
use Rattle.std.proofs.lemmas.Result.{IfOk-weaker}
use Rattle.chart_core.specs.Active.{active_steps}
use Rattle.chart_core.specs.Charts.{plain_chart}
use Rattle.chart_core.specs.declared.entry.LogEntry.{LogEntry}
use Rattle.chart_cursor.specs.Listing.{told_running}
use Rattle.pol_runs.specs.Logs.{Follows}
use Rattle.pol_core.specs.Steps.{bound_step}
use Rattle.pol_core.specs.declared.steps.ActiveStep.{ActiveStep}
use Rattle.pol_core.proofs.Listed.{run_active}
use Rattle.pol_core.proofs.steps.active_steps.Goals as goal

pub returns : goal.returns
returns c =
    let run = c.in-Some.run'.now in
    let listed : (log : List LogEntry) → Follows run log
    → c.in_ok-running.running.items ≡ told_running (active_steps (plain_chart run.chart) log)
    = λ log follows. c.in_ok-running.ensures log follows in
    IfOk-weaker c.bound_steps.result _ _
    (λ (steps : Vec ActiveStep Global) bound history batches.
    bound
    ∙ ap (λ binds. map (bound_step binds) c.deref.result.now) c.binds.ensures.binds
    ∙ ap (map (bound_step run.binds)) c.deref.ensures.value
    ∙ run_active history c.args.batch run c.args.runs.now.entries c.in_ok-running.running.items batches
    (sym c.in-Some.ensures.value) listed)
    c.bound_steps.ensures
