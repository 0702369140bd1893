use Rattle.std.proofs.Common.{◌≡◌, ◌∙◌, List, subst}
use Rattle.std.specs.Prelude.{IfOk}
use Rattle.chart_core.specs.Charts.{plain_chart}
use Rattle.chart_core.specs.declared.entry.LogEntry.{LogEntry}
use Rattle.chart_cursor.specs.Logs.{active}
use Rattle.pol_audit.specs.Starts.{active_seen}
use Rattle.pol_audit.proofs.following.cursor_steps.Goals as goal

pub returns : goal.returns
returns c =
    subst (λ chart. IfOk c.chart_steps.result (λ steps. (log : List LogEntry)
    → active_seen log steps.items ≡ active (plain_chart chart) log))
    (c.deref.ensures ∙ c.chart.ensures) c.chart_steps.ensures
