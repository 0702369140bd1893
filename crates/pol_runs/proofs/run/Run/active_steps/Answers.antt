use Rattle.std.proofs.Common.{◌≡◌, ◌∙◌, Global, Vec, List, ap, subst}
use Rattle.std.specs.Prelude.{ℕ, nat_le, IfOk, Result}
use Rattle.std.specs.declared.alloc.AllocError.{AllocError}
use Rattle.std.proofs.lemmas.Result.{IfOk-weaker}
use Rattle.chart_core.specs.Active.{active_steps}
use Rattle.chart_core.specs.Charts.{plain_chart}
use Rattle.chart_core.specs.declared.entry.LogEntry.{LogEntry}
use Rattle.chart_cursor.specs.Holding.{numbered}
use Rattle.chart_cursor.specs.Listing.{told_running}
use Rattle.chart_cursor.specs.Logs.{chart_entries}
use Rattle.chart_cursor.specs.declared.running.RunningStep.{RunningStep}
use Rattle.pol_runs.specs.Logs.{Follows}
use Rattle.pol_runs.specs.Runs.{PlainRun}
use Rattle.pol_runs.specs.contracts.run.Run.{the_view}
use Rattle.pol_runs.proofs.Nexts.{all_active}
use Rattle.pol_runs.proofs.run.Run.active_steps.Goals as goal

-- these are the active steps, whatever log the run stands for
abbrev AreActive : Result (Vec RunningStep Global) AllocError → PlainRun → Type 0
AreActive result run =
    (log : List LogEntry) → Follows run log
    → IfOk result (λ steps. steps.items ≡ told_running (active_steps (plain_chart run.chart) log))

pub returns : goal.returns
returns c =
    let run = the_view c.self.inside in
    let listed = λ (from : ℕ) (log : List LogEntry).
    told_running (numbered (nat_le from) (active_steps (plain_chart run.chart) (chart_entries log))) in
    subst (AreActive c.active_steps.result) c.self.view_is (λ log follows.
    IfOk-weaker c.active_steps.result _ _
    (λ (steps : Vec RunningStep Global) found.
    found ∙ ap (λ from. listed from log) c.first_number.ensures ∙ ap told_running (all_active run log follows.proceeds))
    (c.active_steps.ensures (chart_entries log) follows.proceeds.marks))
